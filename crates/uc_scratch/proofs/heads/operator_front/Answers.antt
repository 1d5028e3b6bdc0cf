use Rattle.uc_scratch.proofs.ItemFronts.{operator_first_there}
use Rattle.uc_scratch.proofs.heads.operator_front.Goals as goal

pub returns-in-Some-operator_of : goal.returns-in-Some-operator_of
returns-in-Some-operator_of c = operator_first_there _ _ _ _ c.in-Some.ensures c.in-Some-operator_of.ensures
