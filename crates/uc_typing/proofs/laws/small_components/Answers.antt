use Rattle.uc_typing.proofs.SmallComponents.{identity, self_application, self_reference}
use Rattle.uc_typing.proofs.laws.small_components.Goals as goal

pub returns-clause-identity : goal.returns-clause-identity
returns-clause-identity c = identity

pub returns-clause-self_application : goal.returns-clause-self_application
returns-clause-self_application c = self_application

pub returns-clause-self_reference : goal.returns-clause-self_reference
returns-clause-self_reference c = self_reference
