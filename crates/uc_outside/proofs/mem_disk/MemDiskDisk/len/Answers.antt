use Rattle.uc_outside.proofs.Recorded.{rests_here}
use Rattle.uc_outside.proofs.mem_disk.MemDiskDisk.len.Goals as goal

pub returns-clause-told : goal.returns-clause-told
returns-clause-told c = rw (← c.self.view_is) (rests_here _)
