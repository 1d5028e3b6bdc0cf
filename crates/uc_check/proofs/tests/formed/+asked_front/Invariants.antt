use Rattle.uc_tree.specs.Types.{ty_size}
use Rattle.uc_check.proofs.tests.formed.+asked_front.Given as goal

abbrev pub decreases-with_front : goal.decreases-with_front
decreases-with_front l = ty_size l.ty.now
