use Rattle.std.proofs.Common.{sym}
use Rattle.uc_layout.proofs.Steps.{left_step, word_step, opener_step}
use Rattle.uc_layout.proofs.lay.take_token.Goals as goal

pub returns-then-is_left : goal.returns-then-is_left
returns-then-is_left c = λ all h. left_step _ _ _ _ _ _ _ _ _ c.innermost-here.ensures (sym c.if-is_left.ensures) c.in_ok-push.ensures.items c.inside_bracket.ensures c.in_ok-push-2.ensures h

pub returns-then-opens_block : goal.returns-then-opens_block
returns-then-opens_block c = λ all h. opener_step _ _ _ _ _ _ _ _ _ c.innermost-here.ensures (sym c.if-is_left.ensures) c.in_ok-push.ensures.items c.in_ok-next.ensures c.in_ok-replace.ensures (sym c.if-opens_block.ensures) (c.in_ok-fresh.ensures all h)

pub returns : goal.returns
returns c = λ all h. word_step _ _ _ _ _ _ _ _ _ c.innermost-here.ensures (sym c.if-is_left.ensures) c.in_ok-push.ensures.items c.in_ok-next.ensures c.in_ok-replace.ensures (sym c.if-opens_block.ensures) h
