use Rattle.uc_scratch.proofs.ItemFronts.{no_infix_param, no_infix_operator, no_infix_last, infix_there}
use Rattle.uc_scratch.proofs.heads.infix_front.Goals as goal

pub returns-in-None : goal.returns-in-None
returns-in-None c = no_infix_param _ (rw c.in-None.is at c.in_ok-front.ensures)

pub returns-in-None-operator_front : goal.returns-in-None-operator_front
returns-in-None-operator_front c = no_infix_operator _ _ _ (rw c.in-Some.is at c.in_ok-front.ensures) c.in-None-operator_front.ensures

pub returns-in-None-right : goal.returns-in-None-right
returns-in-None-right c =
    no_infix_last _ _ _ _ _ (rw c.in-Some.is at c.in_ok-front.ensures) c.in-Some-operator_front.ensures (rw c.in-None-right.is at c.in_ok-right-in-Some-operator_front.ensures)

pub returns-in-Some-right : goal.returns-in-Some-right
returns-in-Some-right c =
    infix_there _ _ _ _ _ _ _ _ (rw c.in-Some.is at c.in_ok-front.ensures) c.in-Some-operator_front.ensures c.in_ok-operator-in-Some-operator_front.ensures
    (rw c.in-Some-right.is at c.in_ok-right-in-Some-operator_front.ensures)
