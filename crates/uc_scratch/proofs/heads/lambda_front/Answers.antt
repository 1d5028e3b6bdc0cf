use Rattle.std.proofs.Common.{rules}
use Rattle.uc_scratch.proofs.Named.{empty_no_lambda, no_arrow_no_lambda, lambda_there}
use Rattle.uc_scratch.proofs.heads.lambda_front.Goals as goal

pub returns-then-is_empty : goal.returns-then-is_empty
returns-then-is_empty c = empty_no_lambda _ _ _ c.in_ok-params.ensures.found c.in_ok-params.ensures.ends (search rules)

pub returns-in-None : goal.returns-in-None
returns-in-None c = no_arrow_no_lambda _ _ _ c.in_ok-params.ensures.found c.in_ok-params.ensures.ends c.in-None.ensures

pub returns : goal.returns
returns c = lambda_there _ _ _ _ c.in_ok-params.ensures.found (search rules) c.in-Some.ensures
