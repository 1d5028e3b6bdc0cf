-- The names of a head behind one.
use Rattle.std.specs.Prelude.{ℕ, List, [], ◌∷◌, Option, Some, None, if◌then◌else◌}
use Rattle.std.specs.Ordering.{nat_cmp, is_lt}
use Rattle.std.specs.Cmp.Lexicographic.{slice_cmp}
use Rattle.std.specs.List.{AllByRecursion}
use Rattle.uc_base.specs.Name.{IsName}
use Rattle.uc_tree.specs.Lookups.{Pairs}

-- the pairs of a list in name order that stand behind a name, or all
abbrev pub pairs_after : Option (List ℕ) → Pairs → Pairs
pairs_after None ps = ps
pairs_after (Some name) [] = []
pairs_after (Some name) (p ∷ ps) = if is_lt (slice_cmp nat_cmp name p.0) then p ∷ ps else pairs_after (Some name) ps

-- the texts of all pairs are names
abbrev pub AreNames : Pairs → Type 0
AreNames ps = AllByRecursion (λ p. IsName p.0) ps
