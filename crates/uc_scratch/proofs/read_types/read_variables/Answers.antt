use Rattle.uc_scratch.proofs.TypeSteps.{variable_step, variables_done}
use Rattle.uc_scratch.proofs.read_types.read_variables.Goals as goal

pub variables-preserved : goal.variables-preserved
variables-preserved c =
    variable_step _ _ _ _ _ _ _ c.in-Some.ensures c.in_ok-copy-in-Some.ensures c.in_ok-push-in-Some.ensures.items c.variables.invariant

pub returns-in-None-clause-found : goal.returns-in-None-clause-found
returns-in-None-clause-found c = variables_done _ _ _ c.variables.invariant
