-- What a disk in memory keeps between two calls.
use Rattle.std.specs.Prelude.{◌≡◌, ◌+◌, ◌-◌, ◌≤◌, length, vec_capacity}
use Rattle.uc_outside.specs.Call.{logged, calls_of}
use Rattle.uc_outside.specs.MemDisk.{MemFile}
use Rattle.uc_outside.specs.Replay.{contents, StaysWithin}
use Rattle.uc_outside.specs.declared.mem_disk.MemDisk.TheInside.{Inside}

abbrev pub mem_file : Inside → MemFile
mem_file disk = record {
  first = disk.first;
  calls = calls_of disk.log.items disk.done.items;
  left = disk.counter.left;
  plan = disk.counter.script;
  failed = disk.counter.failed;
}

pub record IsKept (disk : Inside) : Type 0 where
  -- the file is what the record says
  pub reads : contents disk.first (calls_of disk.log.items disk.done.items) ≡ disk.file.items
  pub within : StaysWithin disk.first (calls_of disk.log.items disk.done.items)
  pub sizes : logged disk.done.items ≡ length disk.log.items
  -- there is memory for each call that is left
  pub file_room : length disk.file.items + disk.counter.script.room ≤ vec_capacity disk.file
  pub log_room : length disk.log.items + disk.counter.script.room ≤ vec_capacity disk.log
  pub done_room : disk.counter.left ≤ vec_capacity disk.done - length disk.done.items
