use Rattle.std.proofs.Common.{arith, ◌<◌, length, subst, All}
use Rattle.std.proofs.lemmas.List.{take_all}
use Rattle.uc_context.proofs.Exchanging.{more_room}
use Rattle.uc_context.proofs.index.Index.make_room_for_all.Goals as goal

pub returns-in_err-make_room_for-clause-kept : goal.returns-in_err-make_room_for-clause-kept
returns-in_err-make_room_for-clause-kept c = λ es h. c.make_room_for.ensures.kept es (c.loop-n.invariant.0 es h)

pub loop-n-preserved : goal.loop-n-preserved
loop-n-preserved c = (
  λ es h. c.make_room_for.ensures.kept es (c.loop-n.invariant.0 es h),
  more_room c.args.numbers.now c.loop-n.n-index (length c.loop-n.self.numbers) (length c.make_room_for.new.self.numbers) c.loop-n-test.true c.loop-n.invariant.1 c.make_room_for.ensures.longer c.in_ok-make_room_for.ensures.ok,
)

pub returns-clause-ok : goal.returns-clause-ok
returns-clause-ok c = subst (All (λ n. n < length c.loop-n.self.numbers)) (take_all c.loop-n.n-index c.args.numbers.now (omega arith)) c.loop-n.invariant.1
