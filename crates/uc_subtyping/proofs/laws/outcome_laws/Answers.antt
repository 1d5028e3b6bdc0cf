use Rattle.uc_subtyping.proofs.One.{one_instance, one_subtype}
use Rattle.uc_subtyping.proofs.SubtypeArms.{nodes_at}
use Rattle.uc_subtyping.proofs.laws.outcome_laws.Goals as goal

pub returns-clause-instances : goal.returns-clause-instances
returns-clause-instances c = λ s es x t o p d e. one_instance d e

pub returns-clause-subtypes : goal.returns-clause-subtypes
returns-clause-subtypes c = λ es a b o p d e. one_subtype d e
