use Rattle.uc_scratch.proofs.DeclarationSteps.{square_there, no_square, nothing_in_square, no_path_in_square, not_closed}
use Rattle.uc_scratch.proofs.read_declarations.square_path.Goals as goal

pub returns-in-None : goal.returns-in-None
returns-in-None c = no_square _ c.in-None.ensures

pub returns-in-None-first : goal.returns-in-None-first
returns-in-None-first c = nothing_in_square _ _ _ c.in-Some.ensures c.in-None-first.ensures

pub returns-in-None-path_of : goal.returns-in-None-path_of
returns-in-None-path_of c = no_path_in_square _ _ _ _ _ c.in-Some.ensures c.in-Some-first.ensures c.in-None-path_of.ensures

pub returns-in-None-behind : goal.returns-in-None-behind
returns-in-None-behind c = not_closed _ _ _ _ _ c.in-Some.ensures c.in-Some-first.ensures c.in-None-behind.ensures

pub returns-in-Some-behind : goal.returns-in-Some-behind
returns-in-Some-behind c = square_there _ _ _ _ _ _ _ c.in-Some.ensures c.in-Some-first.ensures c.in-Some-path_of.ensures c.in-Some-behind.ensures
