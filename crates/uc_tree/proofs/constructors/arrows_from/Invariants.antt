use Rattle.std.proofs.Common.{◌≡◌, ◌≤◌, length, take}
use Rattle.uc_tree.specs.Types.{tys_of}
use Rattle.uc_tree.specs.Constructors.{arrows}
use Rattle.uc_tree.proofs.constructors.arrows_from.Given as goal

abbrev pub invariant-loop-left : goal.invariant-loop-left
invariant-loop-left l = (l.left ≤ length l.fields) × (arrows (tys_of (take l.left l.fields)) l.ty ≡ arrows (tys_of l.fields) l.fn.to)

abbrev pub decreases-loop-left : goal.decreases-loop-left
decreases-loop-left l = l.left
