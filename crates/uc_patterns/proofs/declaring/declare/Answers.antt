use Rattle.uc_subtyping.proofs.InOrder.{fresh_unused, no_variable}
use Rattle.uc_patterns.proofs.declaring.declare.Goals as goal

pub push-requires : goal.push-requires
push-requires c = no_variable c.args.context.now c.fresh-number.result (fresh_unused c.args.context.now c.fresh-number.result c.fresh-number.ensures.number)
