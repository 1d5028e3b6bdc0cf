use Rattle.std.proofs.Common.{sym}
use Rattle.uc_layout.proofs.Steps.{bracket_step}
use Rattle.uc_layout.proofs.lay.compare.Goals as goal

pub returns-then-is_ended : goal.returns-then-is_ended
returns-then-is_ended c = λ all h. bracket_step _ _ _ _ _ _ _ _ _ _ c.in_ok-end_blocks.ensures.leads c.in_ok-end_blocks.ensures.left c.innermost-here.ensures (sym c.if-is_ended.ensures) c.pop.ensures.rest c.in_ok-push.ensures.items h
