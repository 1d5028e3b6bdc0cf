use Rattle.std.proofs.Common.{length}
use Rattle.uc_check.proofs.tests.asking.+are_formed.Given as goal

abbrev pub decreases-are_formed : goal.decreases-are_formed
decreases-are_formed g l = length l.members.now
