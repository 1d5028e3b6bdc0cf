use Rattle.uc_sound_typing.proofs.Patterns.{pattern_extends}
use Rattle.uc_sound_typing.proofs.SoundPatterns.{Bound, pattern_sound}
use Rattle.uc_sound_typing.proofs.laws.pattern_laws.Goals as goal

pub returns-clause-extend : goal.returns-clause-extend
returns-clause-extend c = λ known at vars ws es fs q s d formed h wf typed variables. pattern_extends d formed h wf typed variables

pub returns-clause-sound : goal.returns-clause-sound
returns-clause-sound c = λ known at vars ws es fs q s d formed h wf typed variables outer σ fits ps v.
    let r : Bound known σ es fs q s ws ps = pattern_sound d outer formed h wf typed variables σ fits ps v in (r.types, r.binds, r.values)
