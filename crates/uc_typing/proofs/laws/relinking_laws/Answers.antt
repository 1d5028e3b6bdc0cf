use Rattle.uc_typing.proofs.Members.{component_stays, watch_stays}
use Rattle.uc_typing.proofs.laws.relinking_laws.Goals as goal

pub returns-clause-components : goal.returns-clause-components
returns-clause-components c = component_stays

pub returns-clause-watches : goal.returns-clause-watches
returns-clause-watches c = watch_stays
