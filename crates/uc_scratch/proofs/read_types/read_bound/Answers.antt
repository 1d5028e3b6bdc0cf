use Rattle.std.proofs.Common.{rules}
use Rattle.uc_scratch.proofs.TypeSteps.{bound_empty, bound_no_dot}
use Rattle.uc_scratch.proofs.read_types.read_bound.Goals as goal

pub returns-then-is_empty-clause-none : goal.returns-then-is_empty-clause-none
returns-then-is_empty-clause-none c = λ _. bound_empty _ _ _ c.in_ok-variables.ensures.found c.in_ok-variables.ensures.ends (search rules)

pub returns-clause-none : goal.returns-clause-none
returns-clause-none c = λ _. bound_no_dot _ _ _ c.in_ok-variables.ensures.found c.in_ok-variables.ensures.ends c.in-None.ensures
