use Rattle.std.proofs.Common.{◌≡◌}
use Rattle.uc_tree.specs.Constructors.{parameters}
use Rattle.uc_tree.proofs.Joins.{tys_before}
use Rattle.uc_tree.proofs.constructors.parameters.Given as goal

abbrev pub invariant-loop-left : goal.invariant-loop-left
invariant-loop-left l = tys_before l.parameters.items (parameters l.left) ≡ parameters l.params

abbrev pub decreases-loop-left : goal.decreases-loop-left
decreases-loop-left l = l.left
