use Rattle.uc_layout.proofs.Steps.{begins_lay}
use Rattle.uc_layout.proofs.lay.lay.Goals as goal

pub tokens-init : goal.tokens-init
tokens-init c = λ all h. begins_lay _ _ _ _ _ _ c.new-out.ensures.items c.in_ok-push.ensures c.new-stack.ensures c.the_file.ensures h
