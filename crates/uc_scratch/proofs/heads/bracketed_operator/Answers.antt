use Rattle.uc_scratch.proofs.ItemFronts.{operator_there}
use Rattle.uc_scratch.proofs.heads.bracketed_operator.Goals as goal

pub returns-in-Some-behind : goal.returns-in-Some-behind
returns-in-Some-behind c = operator_there _ _ _ _ _ c.in-Some.ensures c.in-Some-operator_of.ensures c.in-Some-behind.ensures
