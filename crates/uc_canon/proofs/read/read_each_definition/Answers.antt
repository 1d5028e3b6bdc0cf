use Rattle.std.proofs.lemmas.Result.{err_from_is_err_and}
use Rattle.uc_canon.specs.ReadingMembers.{definition_at}
use Rattle.uc_canon.proofs.ReadLoops.{goes_on, fails}
use Rattle.uc_canon.proofs.read.read_each_definition.Goals as goal

pub returns-in_err-definition : goal.returns-in_err-definition
returns-in_err-definition c =
    let p = err_from_is_err_and c.from_residual.result c.from_residual.ensures.1 in
    rw (p.1, p.2) (fails (definition_at c.args.members) c.in_err-definition.field-0.0 _ c.args.members c.loop.counter c.loop.rest.now _ c.loop-test.true c.in_err-definition.ensures c.loop.invariant)

pub loop-preserved : goal.loop-preserved
loop-preserved c =
    rw c.in_ok-push.ensures.items (goes_on (definition_at c.args.members) c.loop.definitions.items c.args.members c.loop.counter c.loop.rest.now c.in_ok-definition.definition c.in_ok-definition.after.now _ c.loop-test.true c.in_ok-definition.ensures c.loop.invariant)
