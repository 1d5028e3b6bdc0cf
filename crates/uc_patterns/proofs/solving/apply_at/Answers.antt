use Rattle.uc_context.specs.Contexts.{type_under}
use Rattle.uc_patterns.proofs.Placing.{placed_large}
use Rattle.uc_patterns.proofs.solving.apply_at.Goals as goal

pub returns-in-Err-clause-err : goal.returns-in-Err-clause-err
returns-in-Err-clause-err c = placed_large c.args.spot (type_under c.args.context.now c.args.of.now) c.in-Err.fault c.placed.result c.placed.ensures c.in-Err.ensures.err
