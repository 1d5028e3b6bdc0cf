use Rattle.uc_scratch.proofs.DeclarationSteps.{params_there, no_params_equals}
use Rattle.uc_scratch.proofs.read_declarations.params_front.Goals as goal

pub returns-in-None : goal.returns-in-None
returns-in-None c = no_params_equals _ _ _ c.in_ok-params.ensures.found c.in_ok-params.ensures.ends c.in-None.ensures

pub returns-in-Some : goal.returns-in-Some
returns-in-Some c = params_there _ _ _ _ c.in_ok-params.ensures.found c.in-Some.ensures
