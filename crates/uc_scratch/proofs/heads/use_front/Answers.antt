use Rattle.uc_scratch.proofs.ItemFronts.{use_there}
use Rattle.uc_scratch.proofs.heads.use_front.Goals as goal

pub returns-in_ok-names-in-Some : goal.returns-in_ok-names-in-Some
returns-in_ok-names-in-Some c =
    (use_there _ _ _ _ _ _ _ c.in-Some.ensures c.in_ok-path-in-Some.ensures c.in_ok-names-in-Some.ensures.found, c.in_ok-names-in-Some.ensures.ends)
