use Rattle.uc_kinds.proofs.TypingExamples.{identity, higher_rank, unit_is_not_everything}
use Rattle.uc_kinds.proofs.laws.typing_examples.Goals as goal

pub returns-clause-identity : goal.returns-clause-identity
returns-clause-identity c = identity

pub returns-clause-higher_rank : goal.returns-clause-higher_rank
returns-clause-higher_rank c = higher_rank

pub returns-clause-refused : goal.returns-clause-refused
returns-clause-refused c = unit_is_not_everything
