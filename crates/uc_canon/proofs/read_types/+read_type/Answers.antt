use Rattle.std.proofs.lemmas.Result.{err_from_is_err_and}
use Rattle.uc_canon.specs.ReadingTypes.{type_at}
use Rattle.uc_canon.proofs.ReadLoops.{goes_on, fails}
use Rattle.uc_canon.proofs.read_types.+read_type.Goals as goal

pub read_each_type-returns-in_err-ty : goal.read_each_type-returns-in_err-ty
read_each_type-returns-in_err-ty t c =
    let p = err_from_is_err_and c.from_residual.result c.from_residual.ensures.1 in
    rw (p.1, p.2) (fails (type_at c.args.levels c.args.scope) c.in_err-ty.field-0.0 _ c.args.count c.loop.counter c.loop.rest.now _ c.loop-test.true c.in_err-ty.ensures c.loop.invariant)

pub read_each_type-loop-preserved : goal.read_each_type-loop-preserved
read_each_type-loop-preserved t c =
    rw c.in_ok-push.ensures.items (goes_on (type_at c.args.levels c.args.scope) c.loop.types.items c.args.count c.loop.counter c.loop.rest.now c.in_ok-ty.ty c.in_ok-ty.after.now _ c.loop-test.true c.in_ok-ty.ensures c.loop.invariant)
