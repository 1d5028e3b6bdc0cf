use Rattle.uc_tree.specs.Types.{ty_size}
use Rattle.uc_check.proofs.tests.formed.+asked_fields.Given as goal

abbrev pub decreases-is_fields_type : goal.decreases-is_fields_type
decreases-is_fields_type l = ty_size l.ty.now
