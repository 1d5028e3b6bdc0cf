use Rattle.std.proofs.Common.{◌≡◌}
use Rattle.uc_meaning.specs.TypeMeanings.{quantified_at}
use Rattle.uc_signatures.specs.PlacedViews.{placed_of}
use Rattle.uc_signatures.proofs.type_nodes.quantified_at.Given as goal

abbrev pub invariant-loop-left : goal.invariant-loop-left
invariant-loop-left l = quantified_at l.place l.left (placed_of l.t) ≡ quantified_at l.place l.count (placed_of l.fn.body)

abbrev pub decreases-loop-left : goal.decreases-loop-left
decreases-loop-left l = l.left
