use Rattle.uc_scratch.proofs.DeclarationSteps.{declared_there, no_declared_sort, no_declared_name, no_declared_params}
use Rattle.uc_scratch.proofs.read_declarations.declared_front.Goals as goal

pub returns-in-None-clause-none : goal.returns-in-None-clause-none
returns-in-None-clause-none c = λ _. no_declared_sort _ (rw c.in-None.is at c.in_ok-front.ensures)

pub returns-in-None-type_name_front-clause-none : goal.returns-in-None-type_name_front-clause-none
returns-in-None-type_name_front-clause-none c = λ _. no_declared_name _ _ _ (rw c.in-Some.is at c.in_ok-front.ensures) c.in-None-type_name_front.ensures

pub returns-in-None-listed-clause-none : goal.returns-in-None-listed-clause-none
returns-in-None-listed-clause-none c =
    λ _. no_declared_params _ _ _ _ _ (rw c.in-Some.is at c.in_ok-front.ensures) c.in-Some-type_name_front.ensures (rw c.in-None-listed.is at c.in_ok-listed-in-Some-type_name_front.ensures)

pub returns-in-Some-listed-clause-found : goal.returns-in-Some-listed-clause-found
returns-in-Some-listed-clause-found c =
    declared_there _ _ _ _ _ _ _ _ (rw c.in-Some.is at c.in_ok-front.ensures) c.in-Some-type_name_front.ensures c.in_ok-name-in-Some-type_name_front.ensures (rw c.in-Some-listed.is at c.in_ok-listed-in-Some-type_name_front.ensures)
