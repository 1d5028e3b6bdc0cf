-- What the fields of a source in memory stand for.
use Rattle.std.specs.Prelude.{◌≤◌, ◌<◌, length, drop}
use Rattle.uc_outside.specs.MemSource.{MemInput}
use Rattle.uc_outside.specs.declared.mem_source.MemSource.TheInside.{Inside}

abbrev pub mem_input : Inside → MemInput
mem_input source = record { left = drop source.at source.bytes; piece = source.piece; plan = source.script; failed = source.failed }

pub record IsInput (source : Inside) : Type 0 where
  pub within : source.at ≤ length source.bytes
  pub some : 0 < source.piece
