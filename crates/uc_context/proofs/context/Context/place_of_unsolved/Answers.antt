use Rattle.uc_context.proofs.Solved.{unsolved_at, unsolved_somewhere}
use Rattle.uc_context.proofs.context.Context.place_of_unsolved.Goals as goal

pub unreachable-requires : goal.unreachable-requires
unreachable-requires c = unsolved_somewhere c.args.which c.args.self.now c.standing.ensures.in_order c.requires c.in-None.ensures.stands

pub returns : goal.returns
returns c = unsolved_at c.args.which c.args.self.now c.standing.ensures.in_order c.requires c.in-Some.place c.in-Some.field-0-1.now c.in-Some.ensures.stands
