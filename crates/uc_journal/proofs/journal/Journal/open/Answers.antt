use Rattle.std.proofs.Common.{ap}
use Rattle.std.specs.Prelude.{Err}
use Rattle.uc_journal.proofs.journal.Journal.open.Goals as goal

pub returns-in-Err-clause-only_damaged : goal.returns-in-Err-clause-only_damaged
returns-in-Err-clause-only_damaged g c told at is = c.in-Err.ensures.only_damaged told at (ap Err is)
