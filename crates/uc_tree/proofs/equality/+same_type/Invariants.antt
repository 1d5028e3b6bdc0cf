use Rattle.std.proofs.Common.{◌≡◌, take}
use Rattle.uc_tree.specs.Types.{ty_size, tys_size, tys_of}
use Rattle.uc_tree.proofs.equality.+same_type.Given as goal

abbrev pub decreases-same_type : goal.decreases-same_type
decreases-same_type l = ty_size l.t.now

abbrev pub decreases-same_types : goal.decreases-same_types
decreases-same_types l = tys_size (tys_of l.ts.now)

abbrev pub invariant-same_types-loop-i : goal.invariant-same_types-loop-i
invariant-same_types-loop-i l = take l.i l.ts ≡ take l.i l.us
