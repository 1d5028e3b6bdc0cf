use Rattle.std.proofs.Common.{◌≡◌, ℕ, Some, length, slice_get, vec_len}
use Rattle.uc_turnstile.specs.Passes.{passes_in}
use Rattle.uc_turnstile.specs.Shown.{IsPassOf, view_of}
use Rattle.uc_turnstile.proofs.Gathers.{Gathered, IsUnsplit}
use Rattle.uc_turnstile.proofs.tests.gather.Given as goal

abbrev pub invariant-loop-other : goal.invariant-loop-other
invariant-loop-other l = record {
  own : IsPassOf l.turnstile l.pass;
  each : (k : ℕ) (pass : _) → slice_get l.passes.items k ≡ Some pass → IsPassOf l.turnstile pass × IsUnsplit k (view_of pass);
  gathered : Gathered (length l.passes.items) (vec_len l.fn.passes) (passes_in (view_of l.pass));
}

abbrev pub decreases-loop-other : goal.decreases-loop-other
decreases-loop-other l = goal.left-loop-other l
