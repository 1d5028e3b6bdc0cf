use Rattle.std.proofs.Common.{sym}
use Rattle.uc_layout.proofs.Steps.{block_step}
use Rattle.uc_layout.proofs.lay.end_blocks.Goals as goal

pub ending-preserved : goal.ending-preserved
ending-preserved c = λ ts all h. c.ending.invariant ts all (block_step _ _ _ _ _ _ c.innermost.ensures (sym c.ending-test.ensures) c.pop.ensures.rest c.in_ok-push.ensures.items ts all h)
