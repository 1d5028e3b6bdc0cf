-- The names of binders, member by member.
use Rattle.std.specs.Prelude.{ℕ, List, [], ◌∷◌, Vec}

-- the names of each member
abbrev pub names_of : {A : Type 0} → List (Vec (List ℕ) A) → List (List (List ℕ))
names_of [] = []
names_of (member ∷ members) = member.items ∷ names_of members
