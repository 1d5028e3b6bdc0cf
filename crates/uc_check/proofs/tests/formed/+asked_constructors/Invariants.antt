use Rattle.uc_tree.specs.Types.{ty_size}
use Rattle.uc_check.proofs.tests.formed.+asked_constructors.Given as goal

abbrev pub decreases-is_constructor_type : goal.decreases-is_constructor_type
decreases-is_constructor_type l = ty_size l.ty.now
