use Rattle.uc_scratch.proofs.ItemFronts.{path_there, no_bound}
use Rattle.uc_scratch.proofs.heads.bound_front.Goals as goal

pub returns-in_ok-copy-in-Some-path_of : goal.returns-in_ok-copy-in-Some-path_of
returns-in_ok-copy-in-Some-path_of c = path_there _ _ _ _ _ c.in-Some.ensures c.in-Some-path_of.ensures c.in_ok-copy-in-Some-path_of.ensures

pub returns-in-None-front : goal.returns-in-None-front
returns-in-None-front c =
    no_bound _ _ _ c.in-Some.ensures c.in-None-path_of.ensures (rw c.in-None-front.is at c.in_ok-front-in-None-path_of.ensures)
