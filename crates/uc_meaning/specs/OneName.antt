-- Tests: a head with one name, which stands for the same term and type.
use Rattle.std.specs.Prelude.{ℕ, List, [], ◌∷◌}
use Rattle.std.specs.List.Sorted.{IsStrictlySortedBy}
use Rattle.uc_base.specs.declared.reference.Ref.{Ref}
use Rattle.uc_tree.specs.Lookups.{Pairs, pair_order}

abbrev pub one_pair : List ℕ → Ref → Pairs
one_pair name of = (name, of) ∷ []

pub one_in_order : (name : List ℕ) (of : Ref) → IsStrictlySortedBy pair_order (one_pair name of)
unfolding IsStrictlySortedBy
one_in_order name of = (tt, tt)
