-- The stored references among targets, their order, and the places of references in a list.
use Rattle.std.specs.Prelude.{ℕ, Bool, List, [], ◌∷◌, Option}
use Rattle.std.specs.List.{position_from}
use Rattle.std.specs.Ordering.{is_eq}
use Rattle.std.specs.declared.cmp.Ordering.{Ordering}
use Rattle.uc_base.specs.declared.reference.Ref.{Ref}
use Rattle.uc_base.specs.contracts.reference.RefOrd.TheImpl as ord
use Rattle.uc_tree.specs.declared.target.Target.{Target}
use Rattle.uc_tree.specs.declared.target.Target.TheVariants.{Stored, Own, OwnCtor}

-- the order of references: kind, hash, numbers
abbrev pub ref_order : Ref → Ref → Ordering
ref_order = (ord.ghosts).cmp

-- whether two references are the same
abbrev pub is_same_ref : Ref → Ref → Bool
is_same_ref r s = is_eq (ref_order r s)

-- the place at which a reference first stands in a list
abbrev pub number_of : Ref → List Ref → Option ℕ
number_of r refs = position_from (is_same_ref r) 0 refs

-- the stored references among targets
abbrev pub stored_among : List Target → List Ref
stored_among [] = []
stored_among (Stored r ∷ xs) = r ∷ stored_among xs
stored_among (Own member ∷ xs) = stored_among xs
stored_among (OwnCtor member ctor ∷ xs) = stored_among xs
