use Rattle.uc_scratch.proofs.heads.item_front.Goals as goal

pub returns-in-Some : goal.returns-in-Some
returns-in-Some c = rw c.in-Some.is at c.in_ok-used.ensures

pub returns-in-Some-signed : goal.returns-in-Some-signed
returns-in-Some-signed c = rw c.in-Some-signed.is at c.in_ok-signed-in-None.ensures
