use Rattle.uc_scratch.proofs.ItemFronts.{bare_there, no_head}
use Rattle.uc_scratch.proofs.Classes.{bound_head}
use Rattle.uc_scratch.proofs.heads.head_front.Goals as goal

pub returns-in_ok-copy-in-Some-operator_of : goal.returns-in_ok-copy-in-Some-operator_of
returns-in_ok-copy-in-Some-operator_of c = bare_there _ _ _ _ _ c.in-Some.ensures c.in-Some-operator_of.ensures c.in_ok-copy-in-Some-operator_of.ensures

pub returns-in-None-front : goal.returns-in-None-front
returns-in-None-front c =
    no_head _ _ _ c.in-Some.ensures c.in-None-operator_of.ensures (rw c.in-None-front.is at c.in_ok-front-in-None-operator_of.ensures)

pub returns-in-Some-front : goal.returns-in-Some-front
returns-in-Some-front c = bound_head (rw c.in-Some-front.is at c.in_ok-front-in-None-operator_of.ensures)
