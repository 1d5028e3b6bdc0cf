use Rattle.std.proofs.Common.{sym}
use Rattle.uc_layout.proofs.Steps.{last_open_step, last_block_step, all_done}
use Rattle.uc_layout.proofs.lay.end_all.Goals as goal

pub regions-preserved-in-Continue-1 : goal.regions-preserved-in-Continue-1
regions-preserved-in-Continue-1 c = λ all h. c.regions.invariant all (last_block_step _ _ _ _ _ _ c.in-Some.ensures.cases (sym c.if-is_block.ensures) c.in_ok-push-in-Some.ensures.items h)

pub regions-preserved : goal.regions-preserved
regions-preserved c = λ all h. c.regions.invariant all (last_open_step _ _ _ _ _ c.in-Some.ensures.cases (sym c.if-is_block.ensures) h)

pub returns-in-None : goal.returns-in-None
returns-in-None c = c.regions.invariant _ (all_done _ _ c.in-None.ensures.cases)
