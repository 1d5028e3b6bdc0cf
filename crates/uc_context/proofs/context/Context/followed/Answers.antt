use Rattle.std.proofs.Common.{sym, ◌∙◌}
use Rattle.uc_context.proofs.Following.{front_falls, front_stands_for}
use Rattle.uc_context.proofs.context.Context.followed.Goals as goal

pub loop-next-smaller : goal.loop-next-smaller
loop-next-smaller c = front_falls c.args.self.now c.tell_in_order.ensures c.loop-next.front.now c.in-Some.next.now (sym c.in-Some.ensures)

pub loop-next-preserved : goal.loop-next-preserved
loop-next-preserved c = front_stands_for c.args.self.now c.tell_in_order.ensures c.loop-next.front.now c.in-Some.next.now (sym c.in-Some.ensures) ∙ c.loop-next.invariant
