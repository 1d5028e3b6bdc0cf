use Rattle.std.proofs.Common.{◌≡◌, take}
use Rattle.uc_outside.specs.Call.{logged, calls_of}
use Rattle.uc_outside.specs.Replay.{contents}
use Rattle.uc_outside.proofs.image.replay.Given as goal

abbrev pub invariant-loop-i : goal.invariant-loop-i
invariant-loop-i l = record {
  file : l.file.items ≡ contents l.first (calls_of l.log (take l.i l.done));
  used : l.used ≡ logged (take l.i l.done);
}
