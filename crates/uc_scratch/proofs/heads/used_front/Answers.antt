use Rattle.uc_scratch.proofs.Named.{word_there, operator_there}
use Rattle.uc_scratch.proofs.heads.used_front.Goals as goal

pub returns-in-Some-word_of : goal.returns-in-Some-word_of
returns-in-Some-word_of c = word_there _ _ _ _ c.in-Some.ensures c.in-Some-word_of.ensures

pub returns-in-Some-operator_of : goal.returns-in-Some-operator_of
returns-in-Some-operator_of c = operator_there _ _ _ _ c.in-Some.ensures c.in-Some-operator_of.ensures
