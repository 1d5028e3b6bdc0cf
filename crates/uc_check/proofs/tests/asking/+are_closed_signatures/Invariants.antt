use Rattle.std.proofs.Common.{length}
use Rattle.uc_check.proofs.tests.asking.+are_closed_signatures.Given as goal

abbrev pub decreases-are_closed_signatures : goal.decreases-are_closed_signatures
decreases-are_closed_signatures g l = length l.members.now
