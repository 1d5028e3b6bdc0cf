use Rattle.uc_soundness.proofs.GoingOn.{valuations_go_on}
use Rattle.uc_soundness.proofs.Instances.{instance_extends}
use Rattle.uc_soundness.proofs.Subtypes.{subtype_extends}
use Rattle.uc_soundness.proofs.laws.extension_laws.Goals as goal

pub returns-clause-instances : goal.returns-clause-instances
returns-clause-instances c = λ arity s es fs x t d wf h. instance_extends arity d wf h

pub returns-clause-subtypes : goal.returns-clause-subtypes
returns-clause-subtypes c = λ arity es fs a b d wf h k. subtype_extends arity d wf h k

pub returns-clause-valuations : goal.returns-clause-valuations
returns-clause-valuations c = valuations_go_on
