use Rattle.std.proofs.Common.{length}
use Rattle.uc_branch.proofs.builtins.+put_builtins.Given as goal

abbrev pub decreases-put_builtins : goal.decreases-put_builtins
decreases-put_builtins l = length l.names.now
