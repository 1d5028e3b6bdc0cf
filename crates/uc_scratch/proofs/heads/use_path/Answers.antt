use Rattle.uc_scratch.proofs.ItemFronts.{no_use_path, use_path_there}
use Rattle.uc_scratch.proofs.heads.use_path.Goals as goal

pub returns-in-None-path_of : goal.returns-in-None-path_of
returns-in-None-path_of c = no_use_path _ _ _ _ _ c.in-Some.ensures c.in-Some-first.ensures c.in-None-path_of.ensures

pub returns-in-Some-path_of : goal.returns-in-Some-path_of
returns-in-Some-path_of c = use_path_there _ _ _ _ _ _ _ c.in-Some.ensures c.in-Some-use_of.ensures c.in-Some-first.ensures c.in-Some-path_of.ensures
