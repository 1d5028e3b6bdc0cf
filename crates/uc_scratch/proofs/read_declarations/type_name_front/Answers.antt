use Rattle.uc_scratch.proofs.DeclarationSteps.{no_name_here, no_name_path, name_there, no_name_letter}
use Rattle.uc_scratch.proofs.read_declarations.type_name_front.Goals as goal

pub returns-in-None : goal.returns-in-None
returns-in-None c = no_name_here _ c.in-None.ensures

pub returns-in-None-path_of : goal.returns-in-None-path_of
returns-in-None-path_of c = no_name_path _ _ _ c.in-Some.ensures c.in-None-path_of.ensures

pub returns-then-is_type_name : goal.returns-then-is_type_name
returns-then-is_type_name c = name_there _ _ _ _ _ c.in-Some.ensures c.in-Some-path_of.ensures c.as_slice.ensures c.if-is_type_name.ensures

pub returns-else-is_type_name : goal.returns-else-is_type_name
returns-else-is_type_name c = no_name_letter _ _ _ _ _ c.in-Some.ensures c.in-Some-path_of.ensures c.as_slice.ensures c.if-is_type_name.ensures
