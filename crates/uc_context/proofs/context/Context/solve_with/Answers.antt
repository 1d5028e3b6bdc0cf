use Rattle.std.proofs.Common.{arith, refl}
use Rattle.uc_context.specs.declared.entry.Entry.TheVariants as entry
use Rattle.uc_context.proofs.Pushing.{kept_with}
use Rattle.uc_context.proofs.Solved.{unsolved_within}
use Rattle.uc_context.proofs.SolvedWith.{spliced_with, solve_with_gives, exchanges_at, solve_with_keeps}
use Rattle.uc_context.proofs.context.Context.solve_with.Goals as goal

pub invariant_of-self : goal.invariant_of-self
invariant_of-self c = kept_with c.self.inside.entries.items c.self.inside.entries.items c.self.inside.index c.make_room_for_all.new.self refl c.make_room_for_all.ensures.kept c.self.invariant

pub exchange-requires : goal.exchange-requires
exchange-requires c = omega (arith, unsolved_within c.args.which c.place_of_unsolved-place.result c.self.inside.entries.items c.args.self.now c.self.view_is c.self.invariant.in_order c.place_of_unsolved-place.ensures)

pub invariant_of-self-in_err-exchange : goal.invariant_of-self-in_err-exchange
invariant_of-self-in_err-exchange c = kept_with c.self.inside.entries.items c.exchange.new.entries.items c.self.inside.index c.make_room_for_all.new.self c.in_err-exchange.ensures.err c.make_room_for_all.ensures.kept c.self.invariant

pub exchange-requires-2-clause-exchanged : goal.exchange-requires-2-clause-exchanged
exchange-requires-2-clause-exchanged c =
    exchanges_at c.args.which c.place_of_unsolved-place.result c.self.inside.entries.items c.args.self.now c.self.view_is c.self.invariant.in_order c.place_of_unsolved-place.ensures c.args.numbers.now c.args.with c.exchange.new.entries.items
    (spliced_with c.self.inside.entries.items c.exchange.new.entries.items c.in_ok-new.new.items c.push.new.self.items c.place_of_unsolved-place.result (entry.Solved c.args.which c.args.with) c.args.numbers.now c.in_ok-new.ensures c.in_ok-push.ensures.items c.in_ok-exchange.ensures.ok)
    c.make_room_for_all.new.self c.deref.result.now (c.make_room_for_all.ensures.kept c.self.inside.entries.items c.self.invariant.indexed) c.deref.ensures.value

pub invariant_of-self-2 : goal.invariant_of-self-2
invariant_of-self-2 c =
    solve_with_keeps c.args.which c.place_of_unsolved-place.result c.self.inside.entries.items c.args.self.now c.self.view_is c.self.invariant.in_order c.place_of_unsolved-place.ensures c.args.numbers.now c.args.with c.exchange.new.entries.items
    (spliced_with c.self.inside.entries.items c.exchange.new.entries.items c.in_ok-new.new.items c.push.new.self.items c.place_of_unsolved-place.result (entry.Solved c.args.which c.args.with) c.args.numbers.now c.in_ok-new.ensures c.in_ok-push.ensures.items c.in_ok-exchange.ensures.ok)
    c.exchange-2.new.self c.deref.result.now c.deref.ensures.value c.requires.new c.requires.declared c.exchange-2.ensures

pub returns-clause-ok : goal.returns-clause-ok
returns-clause-ok c =
    solve_with_gives c.args.which c.place_of_unsolved-place.result c.self.inside.entries.items c.args.self.now c.self.view_is c.self.invariant.in_order c.place_of_unsolved-place.ensures c.args.numbers.now c.args.with c.exchange.new.entries.items
    (spliced_with c.self.inside.entries.items c.exchange.new.entries.items c.in_ok-new.new.items c.push.new.self.items c.place_of_unsolved-place.result (entry.Solved c.args.which c.args.with) c.args.numbers.now c.in_ok-new.ensures c.in_ok-push.ensures.items c.in_ok-exchange.ensures.ok)
