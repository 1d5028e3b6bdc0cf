use Rattle.std.proofs.Common.{arith, ap, length}
use Rattle.uc_context.proofs.FreshNumbers.{second_fresh, first_is_small}
use Rattle.uc_context.proofs.Noting.{unused_by_count, used_by_count}
use Rattle.uc_context.proofs.context.Context.next_fresh.Goals as goal

pub overflow_add-taken : goal.overflow_add-taken
overflow_add-taken c = omega (arith, first_is_small c.args.self.now c.args.taken c.requires, ap length c.self.view_is)

pub returns : goal.returns
returns c =
    second_fresh c.args.self.now c.args.taken c.next_unused.result c.requires c.next_unused.ensures.from (unused_by_count c.self.inside.index c.self.inside.entries.items c.args.self.now c.self.view_is c.self.invariant.indexed c.next_unused.result c.next_unused.ensures.unused)
    (λ m h k. used_by_count c.self.inside.index c.self.inside.entries.items c.args.self.now c.self.view_is c.self.invariant.indexed m (c.next_unused.ensures.used m h k))
