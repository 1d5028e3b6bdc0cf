use Rattle.uc_canon.proofs.MemberReading.{same_members, text_whole}
use Rattle.uc_canon.proofs.laws.spelling_laws.Goals as goal

pub returns-clause-one_value : goal.returns-clause-one_value
returns-clause-one_value c = same_members

pub returns-clause-no_prefix : goal.returns-clause-no_prefix
returns-clause-no_prefix c = text_whole
