use Rattle.std.proofs.Common.{◌≡◌, ◌≤◌, List, ℕ, take}
use Rattle.uc_outside.specs.Call.{calls_of}
use Rattle.uc_outside.specs.Image.{settled}
use Rattle.uc_outside.proofs.image.settled_calls.Given as goal

abbrev pub invariant-loop-i : goal.invariant-loop-i
invariant-loop-i l = record {
  count : (log : List ℕ) → l.count ≡ settled (calls_of log (take l.i l.done));
  within : l.count ≤ l.i;
}
