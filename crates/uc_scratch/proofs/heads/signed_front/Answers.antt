use Rattle.uc_scratch.proofs.ItemFronts.{no_signed_colon, signed_there}
use Rattle.uc_scratch.proofs.heads.signed_front.Goals as goal

pub returns-in-None : goal.returns-in-None
returns-in-None c = λ h us k. (rw c.in-None.is at c.in_ok-front.ensures) h _ k

pub returns-in-None-behind : goal.returns-in-None-behind
returns-in-None-behind c = no_signed_colon _ _ _ (rw c.in-Some.is at c.in_ok-front.ensures) c.in-None-behind.ensures

pub returns-in-Some-behind : goal.returns-in-Some-behind
returns-in-Some-behind c = signed_there _ _ _ _ (rw c.in-Some.is at c.in_ok-front.ensures) c.in-Some-behind.ensures
