use Rattle.uc_scratch.proofs.ItemFronts.{bracketed_there}
use Rattle.uc_scratch.proofs.heads.bracketed_front.Goals as goal

pub returns-in_ok-copy-in-Some-bracketed_operator : goal.returns-in_ok-copy-in-Some-bracketed_operator
returns-in_ok-copy-in-Some-bracketed_operator c =
    bracketed_there _ _ _ _ _ _ _ c.in-Some.ensures c.in-Some-left_of.ensures c.in-Some-bracketed_operator.ensures c.in_ok-copy-in-Some-bracketed_operator.ensures
