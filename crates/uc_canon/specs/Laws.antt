-- Laws of canonical text.
use Rattle.std.specs.Prelude.{◌≡◌, ℕ, List, [], ◌++◌}
use Rattle.uc_canon.specs.Bounds.{InBounds}
use Rattle.uc_canon.specs.Members.{Members, text_of}

-- components in bounds with one text are one component
abbrev pub EachTextHasOneValue : Type 0
EachTextHasOneValue = (m n : Members) → InBounds m → InBounds n → text_of m ≡ text_of n → m ≡ n

-- no text of a component in bounds is a proper prefix of another
abbrev pub NoTextIsAPrefix : Type 0
NoTextIsAPrefix = (m n : Members) (rest : List ℕ) → InBounds m → InBounds n → text_of n ≡ text_of m ++ rest → rest ≡ []
