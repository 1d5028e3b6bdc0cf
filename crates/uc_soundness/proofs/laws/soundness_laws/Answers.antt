use Rattle.uc_soundness.proofs.SoundInstances.{instance_sound}
use Rattle.uc_soundness.proofs.SoundSubtypes.{subtype_sound}
use Rattle.uc_soundness.proofs.laws.soundness_laws.Goals as goal

pub returns-clause-instantiation : goal.returns-clause-instantiation
returns-clause-instantiation c = λ arity s es fs x t d wf h outer. instance_sound arity outer d wf h

pub returns-clause-subtyping : goal.returns-clause-subtyping
returns-clause-subtyping c = λ arity es fs a b d wf h k outer. subtype_sound arity outer d wf h k
