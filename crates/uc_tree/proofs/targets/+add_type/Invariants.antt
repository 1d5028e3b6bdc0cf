use Rattle.std.proofs.Common.{◌≡◌, ◌++◌, drop}
use Rattle.uc_tree.specs.Types.{ty_size, tys_size, tys_of}
use Rattle.uc_tree.specs.Targets.{tys_targets}
use Rattle.uc_tree.proofs.targets.+add_type.Given as goal

abbrev pub decreases-add_type : goal.decreases-add_type
decreases-add_type l = ty_size l.t.now

abbrev pub decreases-add_types : goal.decreases-add_types
decreases-add_types l = tys_size (tys_of l.ts.now)

abbrev pub invariant-add_types-loop-t : goal.invariant-add_types-loop-t
invariant-add_types-loop-t l = l.out.items ++ tys_targets (tys_of (drop l.t-index l.ts)) ≡ l.initial.out.items ++ tys_targets (tys_of l.ts)
