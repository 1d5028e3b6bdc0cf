use Rattle.std.proofs.Common.{arith, ap, length}
use Rattle.uc_context.proofs.Looked.{before_looked, before_nowhere}
use Rattle.uc_context.proofs.context.Context.count_before.Goals as goal

pub returns-in-Some : goal.returns-in-Some
returns-in-Some c = before_looked c.args.which c.args.self.now c.standing.ensures.in_order c.in-Some.place c.in-Some.field-0-1.now c.in-Some.ensures.stands

pub returns-in-None : goal.returns-in-None
returns-in-None c = before_nowhere c.args.which c.args.self.now c.in-None.ensures.stands c.len.result (omega (arith, c.len.ensures, ap length c.self.view_is))
