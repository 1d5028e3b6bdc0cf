use Rattle.std.proofs.Common.{◌∙◌}
use Rattle.uc_meaning.proofs.LiteralTexts.{number_none, number_some}
use Rattle.uc_meaning.proofs.literals.number_written.Goals as goal

pub returns-in-None : goal.returns-in-None
returns-in-None c = number_none c.args.text.now c.in-None.ensures

pub returns-in-Some : goal.returns-in-Some
returns-in-Some c = c.in-Some.ensures.1 ∙ number_some c.args.text.now c.in-Some.ensures.0
