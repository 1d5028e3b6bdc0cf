use Rattle.std.proofs.Common.{◌≡◌, ◌≤◌, length, take}
use Rattle.uc_meaning.specs.ExprMeanings as spec
use Rattle.uc_signatures.specs.PlacedViews.{placed_of}
use Rattle.uc_bodies.proofs.params.lambdas_over.Given as goal

abbrev pub invariant-loop-left : goal.invariant-loop-left
invariant-loop-left l = record {
  within : l.left ≤ length l.params;
  outwards : spec.lambdas_over (take l.left l.params) (placed_of l.term) ≡ spec.lambdas_over l.params (placed_of l.initial.term);
}

abbrev pub decreases-loop-left : goal.decreases-loop-left
decreases-loop-left l = l.left
