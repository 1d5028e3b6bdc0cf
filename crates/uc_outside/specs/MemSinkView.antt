-- What the fields of a sink in memory stand for.
use Rattle.std.specs.Prelude.{◌≤◌, ◌+◌, length, vec_capacity}
use Rattle.uc_outside.specs.MemSink.{MemOutput}
use Rattle.uc_outside.specs.declared.mem_sink.MemSink.TheInside.{Inside}

abbrev pub mem_output : Inside → MemOutput
mem_output sink = record { taken = sink.bytes.items; plan = sink.script; failed = sink.failed }

-- there is memory for what may still be written
pub record HasRoom (sink : Inside) : Type 0 where
  pub room : length sink.bytes.items + sink.script.room ≤ vec_capacity sink.bytes
