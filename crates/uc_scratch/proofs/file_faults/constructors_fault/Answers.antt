use Rattle.uc_scratch.proofs.NameSteps.{constructor_step}
use Rattle.uc_scratch.proofs.file_faults.constructors_fault.Goals as goal

pub loop-constructor-preserved : goal.loop-constructor-preserved
loop-constructor-preserved c =
    constructor_step _ _ _ _ _ _ _ _ _ _ c.loop-constructor-test.true c.constructor-item.is c.in_ok-whole_name.ensures c.in_ok-insert.ensures.added c.if-not-branch.false
    c.in_ok-insert.ensures.names c.loop-constructor.invariant.0 c.loop-constructor.invariant.1
