-- The existentials of a type.
use Rattle.std.specs.Prelude.{ℕ, ◌==◌, if◌then◌else◌, List, [], ◌∷◌, ◌++◌}
use Rattle.std.specs.List.{list_any}
use Rattle.uc_context.specs.Opens.{Open, bound, rigid, existential, quantified, arrow, unit, tuple, applied, Opens, none, more}

abbrev mutual
  -- the existentials of a type as they occur from left to right
  pub occurrences : Open → List ℕ
  occurrences (bound i) = []
  occurrences (rigid x) = []
  occurrences (existential x) = x ∷ []
  occurrences (quantified t) = occurrences t
  occurrences (arrow a b) = occurrences a ++ occurrences b
  occurrences unit = []
  occurrences (tuple ts) = all_occurrences ts
  occurrences (applied h ts) = all_occurrences ts

  pub all_occurrences : Opens → List ℕ
  all_occurrences none = []
  all_occurrences (more t ts) = occurrences t ++ all_occurrences ts

-- a number behind those found before, unless it is one of them
abbrev pub found_with : List ℕ → ℕ → List ℕ
found_with found x = if list_any (λ y. y == x) found then found else found ++ x ∷ []

-- numbers behind those found before, each at its first occurrence
abbrev pub found_behind : List ℕ → List ℕ → List ℕ
found_behind found [] = found
found_behind found (x ∷ xs) = found_behind (found_with found x) xs

-- the existentials of a type, each once, in the order of their first occurrence
abbrev pub existentials_of : Open → List ℕ
existentials_of t = found_behind [] (occurrences t)
