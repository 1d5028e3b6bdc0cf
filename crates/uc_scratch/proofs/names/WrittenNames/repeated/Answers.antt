use Rattle.std.proofs.Common.{◌∙◌}
use Rattle.uc_scratch.proofs.NameSteps.{pass_item}
use Rattle.uc_scratch.proofs.names.WrittenNames.repeated.Goals as goal

pub loop-name-preserved : goal.loop-name-preserved
loop-name-preserved c =
    pass_item _ _ _ _ _ _ c.loop-name-test.true c.name-item.is c.in_ok-add.ensures.fault c.in-None.is c.in_ok-add.ensures.names ∙ c.loop-name.invariant
