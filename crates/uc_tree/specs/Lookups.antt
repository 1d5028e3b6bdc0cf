-- What look-ups find.
use Rattle.std.specs.Prelude.{ℕ, true, false, List, [], ◌∷◌, Option, Some, None, Bool, if◌then◌else◌, ◌==◌}
use Rattle.std.specs.List.{filter}
use Rattle.std.specs.Ordering.{nat_cmp, is_lt}
use Rattle.std.specs.Cmp.Lexicographic.{slice_cmp}
use Rattle.std.specs.declared.cmp.Ordering.{Ordering}
use Rattle.hex.specs.Hex.{encode_lower}
use Rattle.uc_base.specs.declared.hash.Hash.{Hash}
use Rattle.uc_base.specs.declared.reference.Ref.{Ref}
use Rattle.uc_tree.specs.declared.lookups.Found.{Found}
use Rattle.uc_tree.specs.declared.lookups.Found.TheVariants as found

-- names with what they stand for, in name order
abbrev pub Pairs : Type 0
Pairs = List (List ℕ × Ref)

-- the order of pairs: that of their names
abbrev pub pair_order : (List ℕ × Ref) → (List ℕ × Ref) → Ordering
pair_order p q = slice_cmp nat_cmp p.0 q.0

-- the first pair of a name after another, or the first of all
abbrev pub next_pair : Option (List ℕ) → Pairs → Option (List ℕ × Ref)
next_pair name [] = None
next_pair None (p ∷ ps) = Some p
next_pair (Some name) (p ∷ ps) = if is_lt (slice_cmp nat_cmp name p.0) then Some p else next_pair (Some name) ps

-- a list begins with another
abbrev pub begins_with : List ℕ → List ℕ → Bool
begins_with [] text = true
begins_with (d ∷ ds) [] = false
begins_with (d ∷ ds) (c ∷ text) = if d == c then begins_with ds text else false

-- none, one or many
abbrev pub found_among : List Hash → Found
found_among [] = found.None
found_among (h ∷ []) = found.One h
found_among (h ∷ i ∷ hashes) = found.Many

-- the hashes whose text begins with the digits
abbrev pub found_by_prefix : List ℕ → List Hash → Found
found_by_prefix digits hashes = found_among (filter (λ h. begins_with digits (encode_lower h.0)) hashes)
