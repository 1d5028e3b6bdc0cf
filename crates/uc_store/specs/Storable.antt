-- Which components the store takes.
use Rattle.std.specs.Prelude.{◌≡◌, ℕ, List, [], ◌∷◌, length, IsSome}
use Rattle.std.specs.List.{All, Contains}
use Rattle.uc_base.specs.declared.reference.Ref.{Ref}
use Rattle.uc_tree.specs.declared.target.Target.{Target}
use Rattle.uc_tree.specs.declared.target.Target.TheVariants.{Stored, Own, OwnCtor}
use Rattle.uc_tree.specs.declared.item.Item.{Item}
use Rattle.uc_tree.specs.Bound.{IsTypeBound}
use Rattle.uc_tree.specs.Targets.{ty_targets, IsRefOf}
use Rattle.uc_tree.specs.Types.{Ty}
use Rattle.uc_canon.specs.Canonical.{IsCanonical}
use Rattle.uc_canon.specs.Members.{Members, terms, kinds, items_of, text_of}
use Rattle.uc_store.specs.Binders.{Binder, item_binders, IsHint}
use Rattle.uc_store.specs.Checked.{Checked}
use Rattle.uc_store.specs.Growth.{Digest, with_component, with_components, collision_in}
use Rattle.uc_store.specs.Sorts.{sort_in, IsOfSort, uses_of}
use Rattle.uc_store.specs.Table.{Table}
use Rattle.std.specs.Prelude.{None}

-- one type for each definition, and none for declarations
abbrev pub HasTypes : Members → List Ty → Type 0
HasTypes (terms definitions) types = length types ≡ length definitions
HasTypes (kinds declarations) types = types ≡ []

-- a stored target
abbrev pub IsStored : Target → Type 0
IsStored (Stored r) = Unit {0}
IsStored (Own member) = ⊥
IsStored (OwnCtor member ctor) = ⊥

-- a closed type with stored targets only
pub record IsStoredType (t : Ty) : Type 0 where
  pub closed : IsTypeBound 0 t
  pub stored : All IsStored (ty_targets t)

-- one hint for each binder, and one that may stand there
abbrev pub AreHints : List Binder → List (List ℕ) → Type 0
AreHints [] [] = Unit {0}
AreHints (b ∷ binders) (hint ∷ hints) = IsHint b hint × AreHints binders hints
AreHints [] (hint ∷ hints) = ⊥
AreHints (b ∷ binders) [] = ⊥

-- one list of hints for each item
abbrev pub HasHints : List Item → List (List (List ℕ)) → Type 0
HasHints [] [] = Unit {0}
HasHints (i ∷ items) (hints ∷ rest) = AreHints (item_binders i) hints × HasHints items rest
HasHints [] (hints ∷ rest) = ⊥
HasHints (i ∷ items) [] = ⊥

-- what the store asks of a component, over the table of what is stored before it
pub record IsStorable (table : Table) (c : Checked) : Type 0 where
  -- it is one component in bounds, in the order of its numbering
  pub canonical : IsCanonical (text_of c.members) c.members
  -- it has a type for each definition and none for a declaration
  pub typed : HasTypes c.members c.types
  -- each type is closed and has stored targets only
  pub types : All IsStoredType c.types
  -- each stored reference is a builtin or stands in the table
  pub stands : (i : Item) (r : Ref) → Contains (items_of c.members) i → IsRefOf r i → IsSome (sort_in table r)
  -- each is of the sort that its place asks for
  pub sorts : (i : Item) → Contains (items_of c.members) i → All (IsOfSort table) (uses_of i)
  -- each member has its hints, one for each binder, each a name that may stand there
  pub hints : HasHints (items_of c.members) c.hints

-- components of which each is storable over those before it
abbrev pub AreStorable : Digest → Table → List Checked → Type 0
AreStorable digest table [] = Unit {0}
AreStorable digest table (c ∷ new) = IsStorable table c × AreStorable digest (with_component digest table c) new

-- a table made of storable components, one after another, no two of one hash with different texts
pub record IsMade (digest : Digest) (table : Table) : Type 0 where
  pub components : List Checked
  pub storable : AreStorable digest [] components
  pub apart : collision_in digest [] components ≡ None
  pub made : table ≡ with_components digest [] components
