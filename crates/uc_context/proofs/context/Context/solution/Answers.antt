use Rattle.std.proofs.Common.{◌∙◌}
use Rattle.uc_context.proofs.Looked.{solution_looked, solution_nowhere}
use Rattle.uc_context.proofs.context.Context.solution.Goals as goal

pub returns-in-Some : goal.returns-in-Some
returns-in-Some c = c.solution.ensures ∙ solution_looked c.args.which c.args.self.now c.standing.ensures.in_order c.in-Some.field-0-0 c.in-Some.e.now c.in-Some.ensures.stands

pub returns-in-None : goal.returns-in-None
returns-in-None c = solution_nowhere c.args.which c.args.self.now c.in-None.ensures.stands
