use Rattle.std.proofs.Common.{sym}
use Rattle.uc_outside.proofs.Filled.{filled-none}
use Rattle.uc_outside.proofs.image.fill_call.Goals as goal

pub returns-in-Synced : goal.returns-in-Synced
returns-in-Synced c = rw c.in-Synced.is (sym (filled-none c.args.fill.now 0 c.args.image.now))
