use Rattle.std.proofs.Common.{arith, refl}
use Rattle.uc_context.proofs.Pushing.{kept_with, kept_push, indexed_front}
use Rattle.uc_context.proofs.context.Context.push.Goals as goal

pub invariant_of-self : goal.invariant_of-self
invariant_of-self c = kept_with c.self.inside.entries.items c.self.inside.entries.items c.self.inside.index c.make_room_for.new.self refl c.make_room_for.ensures.kept c.self.invariant

pub invariant_of-self-in_err-push : goal.invariant_of-self-in_err-push
invariant_of-self-in_err-push c = kept_with c.self.inside.entries.items c.push.new.self.items c.self.inside.index c.make_room_for.new.self c.in_err-push.ensures.items c.make_room_for.ensures.kept c.self.invariant

pub push-requires-2-clause-indexed : goal.push-requires-2-clause-indexed
push-requires-2-clause-indexed c =
    indexed_front c.self.inside.entries.items c.push.new.self.items c.deref.result.now c.args.entry c.index.result.now c.len-place.result c.in_ok-push.ensures.items c.deref.ensures.value (omega (arith, c.len-place.ensures))
    c.self.inside.index c.make_room_for.new.self c.self.invariant.indexed c.make_room_for.ensures.kept

pub invariant_of-self-2 : goal.invariant_of-self-2
invariant_of-self-2 c =
    kept_push c.self.inside.entries.items c.push.new.self.items c.deref.result.now c.args.entry c.index.result.now c.len-place.result c.in_ok-push.ensures.items c.deref.ensures.value (omega (arith, c.len-place.ensures))
    c.push-2.new.self c.args.self.now c.self.view_is c.self.invariant.in_order c.requires c.index.ensures c.push-2.ensures
