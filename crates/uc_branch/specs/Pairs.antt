-- Names with what they stand for, in name order, each name once.
use Rattle.std.specs.Prelude.{ℕ, Bool, not, List, [], ◌∷◌, map, Option, Some, None, is_some, nat_eq, if◌then◌else◌}
use Rattle.std.specs.BTreeMap.{insert_entry}
use Rattle.std.specs.Cmp.Lexicographic.{pointwise, slice_cmp}
use Rattle.std.specs.List.{filter, list_any}
use Rattle.std.specs.Map.{lookup}
use Rattle.std.specs.Ordering.{nat_cmp, is_lt}
use Rattle.std.specs.declared.cmp.Ordering.{Ordering}
use Rattle.uc_base.specs.declared.reference.Ref.{Ref}
use Rattle.uc_tree.specs.Lookups.{Pairs}
use Rattle.uc_tree.specs.References.{is_same_ref}

-- the order of names: that of their bytes
abbrev pub name_order : List ℕ → List ℕ → Ordering
name_order = slice_cmp nat_cmp

-- whether two names are the same
abbrev pub is_same_name : List ℕ → List ℕ → Bool
is_same_name = pointwise nat_eq

-- the name of a pair
abbrev pub pair_name : (List ℕ × Ref) → List ℕ
pair_name p = p.0

-- the names alone
abbrev pub names_of : Pairs → List (List ℕ)
names_of = map pair_name

-- what a name stands for
abbrev pub target_of : List ℕ → Pairs → Option Ref
target_of name = lookup (is_same_name name)

-- whether a name stands for something
abbrev pub has_pair : List ℕ → Pairs → Bool
has_pair name pairs = is_some (target_of name pairs)

-- a name stands for a reference, and no longer for what it stood for
abbrev pub put : List ℕ → Ref → Pairs → Pairs
put name r pairs = insert_entry name_order pairs name r

-- each of some pairs put among others
abbrev pub put_all : Pairs → Pairs → Pairs
put_all [] pairs = pairs
put_all (p ∷ ps) pairs = put p.0 p.1 (put_all ps pairs)

-- the pairs whose names fail a test
abbrev pub without : (List ℕ → Bool) → Pairs → Pairs
without goes = filter (λ p. not (goes p.0))

-- the pairs whose names pass a test
abbrev pub within : (List ℕ → Bool) → Pairs → Pairs
within goes = filter (λ p. goes p.0)

-- whether some name passes a test
abbrev pub has_some : (List ℕ → Bool) → Pairs → Bool
has_some goes = list_any (λ p. goes p.0)

-- whether some name stands for a reference
abbrev pub is_target : Ref → Pairs → Bool
is_target r = list_any (λ p. is_same_ref r p.1)

-- the names that stand for a reference
abbrev pub names_for : Ref → Pairs → List (List ℕ)
names_for r pairs = names_of (filter (λ p. is_same_ref r p.1) pairs)

-- the lesser of two names, where there are two
abbrev pub lesser : Option (List ℕ) → Option (List ℕ) → Option (List ℕ)
lesser None n = n
lesser (Some m) None = Some m
lesser (Some m) (Some n) = if is_lt (name_order n m) then Some n else Some m

-- the least of some names
abbrev pub least_name_of : List (List ℕ) → Option (List ℕ)
least_name_of [] = None
least_name_of (n ∷ ns) = lesser (Some n) (least_name_of ns)
