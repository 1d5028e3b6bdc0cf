use Rattle.uc_layout.proofs.Steps.{item_step}
use Rattle.uc_layout.proofs.lay.begin_item.Goals as goal

pub returns : goal.returns
returns c = λ all h. item_step _ _ _ _ _ _ _ _ _ c.innermost.ensures c.at_start-start.ensures c.in_ok-push.ensures.items c.in_ok-replace.ensures (c.in_ok-fresh.ensures all h)
