use Rattle.std.proofs.Common.{sym, ◌∙◌}
use Rattle.uc_layout.proofs.Longest.{at_end, stuck, is_longest}
use Rattle.uc_layout.proofs.automaton.longest.Goals as goal

pub returns-in-None : goal.returns-in-None
returns-in-None c = is_longest _ _ _ (sym c.bytes.invariant.best ∙ at_end _ _ _ _ c.in-None.ensures)

pub returns-in-None-step : goal.returns-in-None-step
returns-in-None-step c = is_longest _ _ _ (sym c.bytes.invariant.best ∙ stuck _ _ _ _ _ _ c.in-Some.ensures (sym c.in-None-step.ensures))
