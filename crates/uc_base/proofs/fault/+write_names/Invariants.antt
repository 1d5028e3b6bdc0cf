use Rattle.std.proofs.Common.{length}
use Rattle.uc_base.proofs.fault.+write_names.Given as goal

abbrev pub decreases-write_names : goal.decreases-write_names
decreases-write_names l = length l.names.now
