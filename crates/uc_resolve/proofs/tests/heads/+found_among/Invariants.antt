use Rattle.std.proofs.Common.{length}
use Rattle.uc_resolve.proofs.tests.heads.+found_among.Given as goal

abbrev pub decreases-found_among : goal.decreases-found_among
decreases-found_among l = length l.hashes.now
