use Rattle.std.proofs.lemmas.Result.{err_from_is_err_and}
use Rattle.uc_tree.specs.Types.{tys_of}
use Rattle.uc_tree.specs.Declarations.{fields_of}
use Rattle.uc_tree.proofs.Fields.{fields_of-push}
use Rattle.uc_canon.specs.ReadingMembers.{fields_at}
use Rattle.uc_canon.proofs.ReadLoops.{goes_on, fails}
use Rattle.uc_canon.proofs.read.read_each_constructor.Goals as goal

pub returns-in_err-fields : goal.returns-in_err-fields
returns-in_err-fields c =
    let p = err_from_is_err_and c.from_residual.result c.from_residual.ensures.1 in
    rw (p.1, p.2) (fails (fields_at c.args.members c.args.params) c.in_err-fields.field-0.0 _ c.args.count c.loop.counter c.loop.rest.now _ c.loop-test.true c.in_err-fields.ensures c.loop.invariant)

pub loop-preserved : goal.loop-preserved
loop-preserved c =
    rw (c.in_ok-push.ensures.items, fields_of-push) (goes_on (fields_at c.args.members c.args.params) (fields_of c.loop.ctors.items) c.args.count c.loop.counter c.loop.rest.now (tys_of c.in_ok-fields.fields.items) c.in_ok-fields.after.now _ c.loop-test.true c.in_ok-fields.ensures c.loop.invariant)
