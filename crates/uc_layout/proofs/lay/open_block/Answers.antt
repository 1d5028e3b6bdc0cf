use Rattle.uc_layout.proofs.Steps.{no_block, some_block}
use Rattle.uc_layout.proofs.lay.open_block.Goals as goal

pub returns-in_ok-push-in-None : goal.returns-in_ok-push-in-None
returns-in_ok-push-in-None c = λ all h. no_block _ _ _ _ _ _ _ c.innermost.ensures c.in-None.ensures.is c.in_ok-push.ensures.items c.in_ok-push-in-None.ensures.items h

pub returns-in_ok-push-in-Some : goal.returns-in_ok-push-in-Some
returns-in_ok-push-in-Some c = λ all h. some_block _ _ _ _ _ _ _ _ c.innermost.ensures c.in-Some.ensures.is c.in-Some.ensures.block c.in_ok-push.ensures.items c.in_ok-push-in-Some.ensures h
