-- Heads: the names of a branch, with what they stand for.
use Rattle.std.specs.Prelude.{ℕ, ◌+◌, Bool, ◌||◌, ◌&&◌, List, [], ◌∷◌, Option, length}
use Rattle.std.specs.Cmp.Lexicographic.{pointwise}
use Rattle.std.specs.Option.{option_or}
use Rattle.uc_base.specs.Builtin.{builtin_types, builtin_terms}
use Rattle.uc_base.specs.declared.place.Sort.{Sort}
use Rattle.uc_base.specs.declared.place.Sort.TheVariants as sort
use Rattle.uc_base.specs.declared.reference.Ref.{Ref}
use Rattle.uc_base.specs.declared.reference.Ref.TheVariants.{Builtin}
use Rattle.uc_base.specs.contracts.reference.RefPartialEq.TheImpl as eq
use Rattle.uc_tree.specs.Lookups.{Pairs}
use Rattle.uc_branch.specs.Pairs.{is_same_name, put, is_target, names_for, least_name_of}

-- the type names and the term names of a head, each in name order, each name once
pub record HeadPairs : Type 0 where
  pub kinds : Pairs
  pub terms : Pairs

-- the pairs of a sort
abbrev pub pairs_of : Sort → HeadPairs → Pairs
pairs_of sort.Kind head = head.kinds
pairs_of sort.Term head = head.terms

-- other pairs of a sort
abbrev pub with_pairs : Sort → Pairs → HeadPairs → HeadPairs
with_pairs sort.Kind pairs head = record { kinds = pairs; terms = head.terms }
with_pairs sort.Term pairs head = record { kinds = head.kinds; terms = pairs }

-- no names
abbrev pub empty_head : HeadPairs
empty_head = record { kinds = []; terms = [] }

-- builtins put under their names, by number from one on
abbrev pub put_builtins : ℕ → List (List ℕ) → Pairs → Pairs
put_builtins number [] pairs = pairs
put_builtins number (name ∷ names) pairs = put_builtins (number + 1) names (put name (Builtin number) pairs)

-- the names of the table of builtins
abbrev pub builtin_head : HeadPairs
builtin_head = record { kinds = put_builtins 0 builtin_types []; terms = put_builtins 16 builtin_terms [] }

-- how many names a head has
abbrev pub name_count : HeadPairs → ℕ
name_count head = length head.kinds + length head.terms

-- whether a name of either sort stands for a reference
abbrev pub has_name : Ref → HeadPairs → Bool
has_name r head = is_target r head.kinds || is_target r head.terms

-- the least type name that stands for a reference, or else the least term name
abbrev pub least_name : Ref → HeadPairs → Option (List ℕ)
least_name r head = option_or (least_name_of (names_for r head.kinds)) (least_name_of (names_for r head.terms))

-- whether two references are the same
abbrev pub equal_refs : Ref → Ref → Bool
equal_refs = (eq.ghosts).eq

-- whether two pairs are the same
abbrev pub is_same_pair : (List ℕ × Ref) → (List ℕ × Ref) → Bool
is_same_pair p q = is_same_name p.0 q.0 && equal_refs p.1 q.1

-- whether two heads are the same
abbrev pub is_same_head : HeadPairs → HeadPairs → Bool
is_same_head old new = pointwise is_same_pair old.kinds new.kinds && pointwise is_same_pair old.terms new.terms
