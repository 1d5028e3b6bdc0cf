use Rattle.std.proofs.Common.{sym}
use Rattle.uc_scratch.proofs.Nests.{kind_neither}
use Rattle.uc_scratch.proofs.nesting.nests_of.Goals as goal

pub returns-in_default : goal.returns-in_default
returns-in_default c = sym (kind_neither c.args.token.now.kind _ c.in_default.not-Symbol c.in_default.not-Opens c.in_default.not-Closes)
