-- The table of builtins: types from 0 on, terms from 16 on.
use Rattle.std.specs.Prelude.{ℕ, ◌+◌, ◌-◌, List, map, slice_get, nat_lt, Option, if◌then◌else◌}
use Rattle.std.specs.List.{position_from}
use Rattle.std.specs.Option.{option_map, option_or}
use Rattle.std.specs.Str.{bytes_eq}
use Rattle.uc_base.specs.declared.builtin.TheConstants.{BUILTIN_TYPES, BUILTIN_TERMS}

-- the names of the types, from number 0 on
abbrev pub builtin_types : List (List ℕ)
builtin_types = map (λ name. name.now) BUILTIN_TYPES

-- the names of the terms, from number 16 on
abbrev pub builtin_terms : List (List ℕ)
builtin_terms = map (λ name. name.now) BUILTIN_TERMS

-- where a name stands first in a list of names
abbrev pub place_in : List (List ℕ) → List ℕ → Option ℕ
place_in names name = position_from (bytes_eq name) 0 names

-- the number of the builtin type or term of a name
abbrev pub builtin_number : List ℕ → Option ℕ
builtin_number name = option_or (place_in builtin_types name) (option_map (λ i. i + 16) (place_in builtin_terms name))

-- the name that the table has at a number
abbrev pub builtin_name : ℕ → Option (List ℕ)
builtin_name n = if nat_lt n 16 then slice_get builtin_types n else slice_get builtin_terms (n - 16)
