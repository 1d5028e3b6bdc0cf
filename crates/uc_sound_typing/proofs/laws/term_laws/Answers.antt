use Rattle.std.proofs.Common.{length}
use Rattle.uc_sound_typing.proofs.Members.{member_sound}
use Rattle.uc_sound_typing.proofs.SoundTerms.{checks_sound, synthesizes_sound}
use Rattle.uc_sound_typing.proofs.TermsExtend.{checks_extend, synthesizes_extends}
use Rattle.uc_sound_typing.proofs.laws.term_laws.Goals as goal

pub returns-clause-checks_extend : goal.returns-clause-checks_extend
returns-clause-checks_extend c = λ known sight at es fs e t d formed h wf seen typed. checks_extend d formed (length sight.variables) h wf seen typed

pub returns-clause-found_extend : goal.returns-clause-found_extend
returns-clause-found_extend c = λ known sight at es fs e t d formed h wf seen. synthesizes_extends d formed (length sight.variables) h wf seen

pub returns-clause-checks_sound : goal.returns-clause-checks_sound
returns-clause-checks_sound c = λ known sight at es fs e t d formed h wf seen typed outer. checks_sound d outer formed (length sight.variables) h wf seen typed

pub returns-clause-found_sound : goal.returns-clause-found_sound
returns-clause-found_sound c = λ known sight at es fs e t d formed h wf seen outer. synthesizes_sound d outer formed (length sight.variables) h wf seen

pub returns-clause-members : goal.returns-clause-members
returns-clause-members c = λ known d ty m formed h. member_sound m formed h
