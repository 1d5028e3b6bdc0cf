use Rattle.uc_scratch.proofs.FileSteps.{after_some}
use Rattle.uc_scratch.proofs.read_files.signed_after.Goals as goal
use Rattle.std.proofs.Common.{sym}

pub returns-in-Some : goal.returns-in-Some
returns-in-Some c = rw (after_some c.args.items.now c.in-Some.item.now (sym c.in-Some.ensures.value)) c.signed_behind.ensures
