use Rattle.uc_typing.proofs.Members.{one_component, one_watch}
use Rattle.uc_typing.proofs.OneOutcome.{one_check, one_synthesis}
use Rattle.uc_typing.proofs.OnePattern.{one_pattern}
use Rattle.uc_typing.proofs.laws.outcome_laws.Goals as goal

pub returns-clause-patterns : goal.returns-clause-patterns
returns-clause-patterns c = λ known at vars es q s o p d e. one_pattern c.outcome_laws.ensures.subtypes d e

pub returns-clause-checks : goal.returns-clause-checks
returns-clause-checks c = λ known sight at es e t o p d f. one_check c.outcome_laws.ensures.subtypes d f

pub returns-clause-found : goal.returns-clause-found
returns-clause-found c = λ known sight at es e o p d f. one_synthesis c.outcome_laws.ensures.subtypes d f

pub returns-clause-components : goal.returns-clause-components
returns-clause-components c = λ known ds o p d e. one_component c.outcome_laws.ensures.subtypes d e

pub returns-clause-watches : goal.returns-clause-watches
returns-clause-watches c = λ known e o p d f. one_watch c.outcome_laws.ensures.subtypes d f
