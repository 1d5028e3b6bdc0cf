use Rattle.std.proofs.Common.{arith}
use Rattle.std.proofs.lemmas.Result.{err_from_is_err_and}
use Rattle.uc_canon.proofs.ReadLoops.{fields_stop, fields_go_on, fields_fail}
use Rattle.uc_canon.proofs.read.read_each_field.Goals as goal

pub returns-then-left-eq0 : goal.returns-then-left-eq0
returns-then-left-eq0 c = fields_stop c.args.scope c.args.end c.loop.fields.items c.loop.left c.args.count c.loop.counter c.loop.rest.now _ c.loop-test.true c.if-left-eq0.true c.loop.invariant

pub returns-in_err-field : goal.returns-in_err-field
returns-in_err-field c =
    let p = err_from_is_err_and c.from_residual.result c.from_residual.ensures.1 in
    rw (p.1, p.2) (fields_fail c.args.scope c.args.end c.in_err-field.field-0.0 c.loop.fields.items c.loop.left c.args.count c.loop.counter c.loop.rest.now _ c.loop-test.true (omega arith) c.in_err-field.ensures c.loop.invariant)

pub loop-preserved : goal.loop-preserved
loop-preserved c =
    rw c.in_ok-push.ensures.items (fields_go_on c.args.scope c.args.end c.loop.fields.items c.loop.left c.args.count c.loop.counter c.loop.rest.now c.in_ok-field.field c.in_ok-field.after.now _ c.loop-test.true (omega arith) c.in_ok-field.ensures c.loop.invariant)
