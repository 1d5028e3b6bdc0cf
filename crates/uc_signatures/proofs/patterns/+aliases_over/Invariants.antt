use Rattle.std.proofs.Common.{length}
use Rattle.uc_signatures.proofs.patterns.+aliases_over.Given as goal

abbrev pub decreases-aliases_over : goal.decreases-aliases_over
decreases-aliases_over l = length l.names.now
