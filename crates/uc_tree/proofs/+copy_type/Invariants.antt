use Rattle.std.proofs.Common.{◌≡◌, take}
use Rattle.uc_tree.specs.Types.{ty_size, tys_size, tys_of}
use Rattle.uc_tree.proofs.+copy_type.Given as goal

abbrev pub decreases-ty::Ty::copy : goal.decreases-ty::Ty::copy
decreases-ty::Ty::copy l = ty_size l.self.now

abbrev pub decreases-copying::copy_types : goal.decreases-copying::copy_types
decreases-copying::copy_types l = tys_size (tys_of l.types.now)

abbrev pub invariant-copying::copy_types-loop-t : goal.invariant-copying::copy_types-loop-t
invariant-copying::copy_types-loop-t l = l.copied.items ≡ take l.t-index l.types
