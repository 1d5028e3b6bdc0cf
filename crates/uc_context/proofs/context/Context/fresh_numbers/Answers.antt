use Rattle.std.proofs.Common.{arith, ap, length, sym, subst, ℕ, List, ◌+◌}
use Rattle.uc_context.proofs.FreshNumbers.{Taken, none_taken, next_is_small, taken_more}
use Rattle.uc_context.proofs.Noting.{unused_by_count, used_by_count}
use Rattle.uc_context.proofs.context.Context.fresh_numbers.Goals as goal

pub loop-self-init : goal.loop-self-init
loop-self-init c = (omega (arith, ap length c.new-numbers.ensures.items), subst (λ (ns : List ℕ). Taken c.args.self.now ns c.fresh-next.result) (sym c.new-numbers.ensures.items) (none_taken c.args.self.now c.fresh-next.result c.fresh-next.ensures.fresh))

pub overflow_add-next : goal.overflow_add-next
overflow_add-next c =
    omega (
      arith,
      ap length c.self.view_is,
      next_is_small c.args.self.now c.loop-self.numbers.items c.loop-self.next c.next_unused-number.result c.loop-self.invariant.1 c.next_unused-number.ensures.from
          (unused_by_count c.self.inside.index c.self.inside.entries.items c.args.self.now c.self.view_is c.self.invariant.indexed c.next_unused-number.result c.next_unused-number.ensures.unused)
          (λ m h k. used_by_count c.self.inside.index c.self.inside.entries.items c.args.self.now c.self.view_is c.self.invariant.indexed m (c.next_unused-number.ensures.used m h k)),
    )

pub loop-self-preserved : goal.loop-self-preserved
loop-self-preserved c = (
  omega (arith, ap length c.in_ok-push.ensures.items),
  subst (λ (ns : List ℕ). Taken c.args.self.now ns (c.next_unused-number.result + 1)) (sym c.in_ok-push.ensures.items)
      (taken_more c.args.self.now c.loop-self.numbers.items c.loop-self.next c.next_unused-number.result c.loop-self.invariant.1 c.next_unused-number.ensures.from
      (unused_by_count c.self.inside.index c.self.inside.entries.items c.args.self.now c.self.view_is c.self.invariant.indexed c.next_unused-number.result c.next_unused-number.ensures.unused)
      (λ m h k. used_by_count c.self.inside.index c.self.inside.entries.items c.args.self.now c.self.view_is c.self.invariant.indexed m (c.next_unused-number.ensures.used m h k))),
)
