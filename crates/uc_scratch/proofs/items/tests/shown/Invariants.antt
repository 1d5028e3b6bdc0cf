use Rattle.std.proofs.Common.{length}
use Rattle.uc_scratch.proofs.items.tests.shown.Given as goal

abbrev pub decreases-items : goal.decreases-items
decreases-items l = length l.rest
