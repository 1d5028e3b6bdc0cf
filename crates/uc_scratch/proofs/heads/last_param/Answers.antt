use Rattle.uc_scratch.proofs.ItemFronts.{no_last_param, no_last_equals, last_there}
use Rattle.uc_scratch.proofs.heads.last_param.Goals as goal

pub returns-in-None : goal.returns-in-None
returns-in-None c = no_last_param _ (rw c.in-None.is at c.in_ok-front.ensures)

pub returns-in-None-behind : goal.returns-in-None-behind
returns-in-None-behind c = no_last_equals _ _ _ (rw c.in-Some.is at c.in_ok-front.ensures) c.in-None-behind.ensures

pub returns-in-Some-behind : goal.returns-in-Some-behind
returns-in-Some-behind c = last_there _ _ _ _ (rw c.in-Some.is at c.in_ok-front.ensures) c.in-Some-behind.ensures
