use Rattle.std.proofs.Common.{◌≡◌, drop}
use Rattle.std.specs.Prelude.{option_map}
use Rattle.uc_tree.specs.Types.{ty_size, tys_size, tys_of}
use Rattle.uc_tree.specs.Stops.{replacement_of}
use Rattle.uc_tree.specs.Replacing.{replaced_tys}
use Rattle.uc_tree.proofs.Joins.{tys_before}
use Rattle.uc_tree.proofs.replacing.+replace_type.Given as goal

abbrev pub decreases-replace_type : goal.decreases-replace_type
decreases-replace_type l = ty_size l.t.now

abbrev pub decreases-replace_types : goal.decreases-replace_types
decreases-replace_types l = tys_size (tys_of l.ts.now)

abbrev pub invariant-replace_types-loop-t : goal.invariant-replace_types-loop-t
invariant-replace_types-loop-t l =
    option_map (tys_before l.replaced.items) (replaced_tys (replacement_of l.standing) (tys_of (drop l.t-index l.ts))) ≡ replaced_tys (replacement_of l.standing) (tys_of l.ts)
