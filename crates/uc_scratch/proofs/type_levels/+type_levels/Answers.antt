use Rattle.std.proofs.Common.{arith}
use Rattle.uc_scratch.proofs.Sizes.{arrow_at}
use Rattle.uc_scratch.proofs.type_levels.+type_levels.Goals as goal

pub type_levels-operand_levels-requires : goal.type_levels-operand_levels-requires
type_levels-operand_levels-requires t c =
    let h = arrow_at _ _ _ _ _ _ _ c.loop-front-test.true c.front-item.is c.in-Arrow.is c.deref-front-items.ensures.value c.t.view_is in
    (omega (arith, h, c.decreases), tt)
