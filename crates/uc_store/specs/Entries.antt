-- What the table holds under a hash.
use Rattle.std.specs.Prelude.{ℕ, List, [], ◌∷◌, map, refl, if◌then◌else◌}
use Rattle.std.specs.Coded.{Coded, code_by, coded×, coded_ℕ, coded_list}
use Rattle.std.specs.Ordering.{is_lt}
use Rattle.uc_base.specs.contracts.hash.Hash as hashes
use Rattle.uc_base.specs.declared.hash.Hash.{Hash}
use Rattle.uc_base.specs.declared.reference.Ref.{Ref}
use Rattle.uc_base.specs.declared.reference.Ref.TheVariants.{Def}
use Rattle.uc_tree.specs.declared.target.Target.TheVariants.{Stored}
use Rattle.uc_tree.specs.declared.item.Item.{Item}
use Rattle.uc_tree.specs.declared.item.Item.TheVariants as item
use Rattle.uc_tree.specs.Types.{Ty}
use Rattle.uc_tree.specs.Constructors.{constructor_type}
use Rattle.uc_tree.specs.References.{ref_order, is_same_ref, stored_among}
use Rattle.uc_tree.specs.Targets.{targets_of}
use Rattle.uc_store.specs.contracts.stored.Stored as stored
use Rattle.uc_store.specs.declared.stored.Stored.{Stored as StoredItem}

-- a component under its hash: its canonical text and its members by number
pub record Entry : Type 0 where
  pub hash : Hash
  pub text : List ℕ
  pub members : List StoredItem

-- how the logic stores an entry
abbrev pub coded_entry : Coded Entry
coded_entry = code_by (Hash × (List ℕ × List StoredItem)) (coded× (hashes.the_row).coded (coded× (coded_list coded_ℕ) (coded_list (stored.the_row).coded)))
    (λ e. (e.hash, (e.text, e.members))) (λ p. record { hash = p.0; text = p.1.0; members = p.1.1 }) (λ _. refl)

-- a reference put into ascending ones, unless it is there
abbrev pub with_ref : Ref → List Ref → List Ref
with_ref r [] = r ∷ []
with_ref r (s ∷ refs) = if is_lt (ref_order r s) then r ∷ s ∷ refs else (if is_same_ref r s then s ∷ refs else s ∷ with_ref r refs)

-- references in ascending order, each once
abbrev pub in_order : List Ref → List Ref
in_order [] = []
in_order (r ∷ refs) = with_ref r (in_order refs)

-- the stored references of an item in reference order, each once
abbrev pub refs_in : Item → List Ref
refs_in i = in_order (stored_among (targets_of i))

-- the types of the constructors of a member under a hash; a definition has none
abbrev pub constructor_types : Hash → ℕ → Item → List Ty
constructor_types hash member (item.Term d) = []
constructor_types hash member (item.Kind d) = map (constructor_type (Stored (Def hash member)) d.params) d.ctors
