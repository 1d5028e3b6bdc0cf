use Rattle.uc_scratch.proofs.ItemFronts.{no_prefix_bound, no_prefix_equals, prefix_there}
use Rattle.uc_scratch.proofs.heads.prefix_front.Goals as goal

pub returns-in-None : goal.returns-in-None
returns-in-None c = no_prefix_bound _ (rw c.in-None.is at c.in_ok-bound.ensures)

pub returns-in-None-behind : goal.returns-in-None-behind
returns-in-None-behind c =
    no_prefix_equals _ _ _ _ _ (rw c.in-Some.is at c.in_ok-bound.ensures) c.in_ok-params-in-Some.ensures.found c.in_ok-params-in-Some.ensures.ends c.in-None-behind.ensures

pub returns-in-Some-behind : goal.returns-in-Some-behind
returns-in-Some-behind c =
    prefix_there _ _ _ _ _ _ (rw c.in-Some.is at c.in_ok-bound.ensures) c.in_ok-params-in-Some.ensures.found c.in-Some-behind.ensures
