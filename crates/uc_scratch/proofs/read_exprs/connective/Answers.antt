use Rattle.uc_scratch.proofs.ExprSteps.{operator_leads, and_leads, or_leads}
use Rattle.uc_scratch.proofs.read_exprs.connective.Goals as goal

pub returns-in_ok-copy-in-Some-operator_of-clause-found : goal.returns-in_ok-copy-in-Some-operator_of-clause-found
returns-in_ok-copy-in-Some-operator_of-clause-found c =
    operator_leads _ _ _ _ _ c.in-Some.ensures c.in-Some-operator_of.ensures c.in_ok-copy-in-Some-operator_of.ensures

pub returns-in-AndAnd-clause-found : goal.returns-in-AndAnd-clause-found
returns-in-AndAnd-clause-found c = and_leads _ _ _ c.in-Some.ensures c.in-AndAnd.is

pub returns-in-OrOr-clause-found : goal.returns-in-OrOr-clause-found
returns-in-OrOr-clause-found c = or_leads _ _ _ c.in-Some.ensures c.in-OrOr.is
