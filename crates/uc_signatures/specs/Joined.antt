-- Types and patterns with their places, behind others.
use Rattle.std.specs.Prelude.{List, [], ◌∷◌, ◌++◌, Result, Ok}
use Rattle.uc_base.specs.declared.place.Place.{Place}
use Rattle.uc_base.specs.declared.fault.Fault.{Fault}
use Rattle.uc_tree.specs.Types.{Ty, Tys}
use Rattle.uc_tree.specs.Types as types
use Rattle.uc_tree.specs.Patterns.{Pattern, Patterns}
use Rattle.uc_tree.specs.Patterns as patterns
use Rattle.uc_meaning.specs.Results.{◌>>=◌}
use Rattle.uc_meaning.specs.Placed.{Placed}

-- types before others
abbrev pub tys_before : List Ty → Tys → Tys
tys_before [] us = us
tys_before (t ∷ ts) us = types.more t (tys_before ts us)

-- what further types mean, behind these
abbrev pub behind_types : List Ty → List Place → Result (Placed Tys) Fault → Result (Placed Tys) Fault
behind_types ts ps m = m >>= λ xs. Ok (tys_before ts xs.0, ps ++ xs.1)

-- patterns before others
abbrev pub patterns_before : List Pattern → Patterns → Patterns
patterns_before [] qs = qs
patterns_before (p ∷ ps) qs = patterns.more p (patterns_before ps qs)

-- what further patterns mean, behind these
abbrev pub behind_patterns : List Pattern → List Place → Result (Placed Patterns) Fault → Result (Placed Patterns) Fault
behind_patterns ts ps m = m >>= λ xs. Ok (patterns_before ts xs.0, ps ++ xs.1)
