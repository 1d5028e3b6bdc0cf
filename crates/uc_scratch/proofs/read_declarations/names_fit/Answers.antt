use Rattle.std.proofs.Common.{rules}
use Rattle.uc_scratch.proofs.DeclarationSteps.{names_step, names_stop}
use Rattle.uc_scratch.proofs.read_declarations.names_fit.Goals as goal

pub loop-constructor-preserved : goal.loop-constructor-preserved
loop-constructor-preserved c = names_step c.args.name.now _ _ _ _ c.loop-constructor-test.true c.constructor-item.is (search rules) c.loop-constructor.invariant

pub returns-then-length-gt-NAME_LIMIT : goal.returns-then-length-gt-NAME_LIMIT
returns-then-length-gt-NAME_LIMIT c = names_stop c.args.name.now _ _ _ _ c.loop-constructor-test.true c.constructor-item.is (search rules) c.loop-constructor.invariant
