use Rattle.uc_tree.specs.Types.{ty_size}
use Rattle.uc_check.proofs.tests.formed.+asked_written.Given as goal

abbrev pub decreases-is_written : goal.decreases-is_written
decreases-is_written g l = ty_size l.ty.now
