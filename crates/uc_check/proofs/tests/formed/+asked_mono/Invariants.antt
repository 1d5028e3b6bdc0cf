use Rattle.uc_tree.specs.Types.{ty_size, tys_size, tys_of}
use Rattle.uc_check.proofs.tests.formed.+asked_mono.Given as goal

abbrev pub decreases-is_mono : goal.decreases-is_mono
decreases-is_mono g l = ty_size l.ty.now

abbrev pub decreases-are_mono : goal.decreases-are_mono
decreases-are_mono g l = tys_size (tys_of l.types.now)
