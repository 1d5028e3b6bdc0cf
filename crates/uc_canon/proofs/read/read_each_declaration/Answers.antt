use Rattle.std.proofs.lemmas.Result.{err_from_is_err_and}
use Rattle.uc_canon.specs.ReadingMembers.{declaration_at}
use Rattle.uc_canon.proofs.ReadLoops.{goes_on, fails}
use Rattle.uc_canon.proofs.read.read_each_declaration.Goals as goal

pub returns-in_err-declaration : goal.returns-in_err-declaration
returns-in_err-declaration c =
    let p = err_from_is_err_and c.from_residual.result c.from_residual.ensures.1 in
    rw (p.1, p.2) (fails (declaration_at c.args.members) c.in_err-declaration.field-0.0 _ c.args.members c.loop.counter c.loop.rest.now _ c.loop-test.true c.in_err-declaration.ensures c.loop.invariant)

pub loop-preserved : goal.loop-preserved
loop-preserved c =
    rw c.in_ok-push.ensures.items (goes_on (declaration_at c.args.members) c.loop.declarations.items c.args.members c.loop.counter c.loop.rest.now c.in_ok-declaration.declaration c.in_ok-declaration.after.now _ c.loop-test.true c.in_ok-declaration.ensures c.loop.invariant)
