use Rattle.std.proofs.Common.{sym, ap, ◌∙◌}
use Rattle.uc_scratch.specs.Terminals.{is_one}
use Rattle.uc_scratch.proofs.Segments.{not_one}
use Rattle.uc_scratch.proofs.terminal.is_single.Goals as goal

pub returns-in-Some : goal.returns-in-Some
returns-in-Some c = sym (ap is_one c.in-Some.ensures.segments ∙ not_one c.in-Some.field-0.0.now c.in-Some.field-0.1.now)
