use Rattle.uc_weakening.proofs.Staying.{subtype_stays, pattern_stays, check_stays, found_stays, definition_stays}
use Rattle.uc_weakening.proofs.laws.weakening_laws.Goals as goal

pub returns-clause-subtypes : goal.returns-clause-subtypes
returns-clause-subtypes c = λ known known' adds xs a b d. subtype_stays d known'.arity adds.arities

pub returns-clause-patterns : goal.returns-clause-patterns
returns-clause-patterns c = λ known known' adds xs p s bs d. pattern_stays d known' adds

pub returns-clause-checks : goal.returns-clause-checks
returns-clause-checks c = λ known known' adds scope e t d. check_stays d known' adds

pub returns-clause-found : goal.returns-clause-found
returns-clause-found c = λ known known' adds scope e t d. found_stays d known' adds

pub returns-clause-definitions : goal.returns-clause-definitions
returns-clause-definitions c = λ known known' adds d ty derivation. definition_stays derivation known' adds
