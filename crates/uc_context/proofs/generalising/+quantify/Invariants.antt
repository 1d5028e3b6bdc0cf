use Rattle.std.proofs.Common.{length}
use Rattle.uc_context.proofs.generalising.+quantify.Given as goal

abbrev pub decreases-quantify : goal.decreases-quantify
decreases-quantify l = length l.numbers.now
