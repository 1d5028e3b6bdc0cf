-- Growth leaves what is stored as it is, and keeps a table one that was made of storable components.
use Rattle.std.proofs.Common.{◌≡◌, Bool, true, false, List, [], ◌∷◌, ◌++◌, Option, Some, None, refl, sym, ap, subst, ◌∙◌}
use Rattle.std.specs.Prelude.{if◌then◌else◌}
use Rattle.std.specs.Option.{option_or}
use Rattle.uc_base.specs.declared.hash.Hash.{Hash}
use Rattle.uc_canon.specs.Members.{text_of}
use Rattle.uc_store.specs.Checked.{Checked}
use Rattle.uc_store.specs.Entries.{Entry}
use Rattle.uc_store.specs.Growth.{Digest, Extends, entry_of, hash_of, with_new, with_entry, with_entries, with_component, with_components, collision_with, collision_in}
use Rattle.uc_store.specs.Hashes.{is_same_hash}
use Rattle.uc_store.specs.Laws.{EqualTextsHaveEqualReferences, GrowthExtends}
use Rattle.uc_store.specs.Storable.{IsStorable, AreStorable, IsMade}
use Rattle.uc_store.specs.Table.{Table, IsTable, entry_under}
use Rattle.uc_store.proofs.HashOrder.{same_hash}
use Rattle.uc_store.proofs.Tables.{under_with, apart_with}

pub equal_texts : EqualTextsHaveEqualReferences
equal_texts digest c d member e = let f : hash_of digest c ≡ hash_of digest d = ap digest e in cc

-- ---- what stays

extends_with : (e : Entry) (t : Table) → entry_under e.hash t ≡ None → Extends t (with_entry e t)
extends_with e t n = λ h g found. under_with h e t n ∙ go h g found (is_same_hash h e.hash) refl
  where
    go : (h : Hash) (g : Entry) → entry_under h t ≡ Some g → (r : Bool) → is_same_hash h e.hash ≡ r → (if is_same_hash h e.hash then Some e else entry_under h t) ≡ Some g
    go h g found true s = absurd (let P : Hash → Type 0 = λ k. entry_under k t ≡ Some g in let x : entry_under e.hash t ≡ Some g = subst P (same_hash h e.hash s) found in cc)
    go h g found false s = rw s found

pub extends_new : (e : Entry) (t : Table) (o : Option Entry) → entry_under e.hash t ≡ o → Extends t (with_new e t o)
extends_new e t (Some f) is = λ h g found. found
extends_new e t None is = extends_with e t is

pub growth_extends : GrowthExtends
growth_extends digest t [] = λ h g found. found
growth_extends digest t (c ∷ new) = λ h g found.
    growth_extends digest (with_component digest t c) new h g (extends_new (entry_of digest c) t (entry_under (hash_of digest c) t) refl h g found)

pub extends_entries : (fs : List Entry) (t : Table) → IsTable (with_entries fs t) → Extends t (with_entries fs t)
extends_entries [] t s = λ h g found. found
extends_entries (f ∷ fs) t s =
    let before : IsTable (with_entries fs t) × (entry_under f.hash (with_entries fs t) ≡ None) = apart_with f (with_entries fs t) s in
    λ h g found. extends_with f (with_entries fs t) before.1 h g (extends_entries fs t before.0 h g found)

-- ---- one component more

pub with_components-last : (digest : Digest) (t : Table) (new : List Checked) (c : Checked) → with_components digest t (new ++ c ∷ []) ≡ with_component digest (with_components digest t new) c
with_components-last digest t [] c = refl
with_components-last digest t (d ∷ new) c = with_components-last digest (with_component digest t d) new c

storable_last : (digest : Digest) (t : Table) (new : List Checked) (c : Checked) → AreStorable digest t new → IsStorable (with_components digest t new) c → AreStorable digest t (new ++ c ∷ [])
storable_last digest t [] c a s = (s, a)
storable_last digest t (d ∷ new) c a s = (a.0, storable_last digest (with_component digest t d) new c a.1 s)

pub option_or_none : {A : Type 0} (x y : Option A) → option_or x y ≡ None → (x ≡ None) × (y ≡ None)
option_or_none None y e = (refl, e)
option_or_none (Some x) y e = absurd cc

collision_last : (digest : Digest) (t : Table) (new : List Checked) (c : Checked) → collision_in digest t new ≡ None
    → collision_with (hash_of digest c) (text_of c.members) (entry_under (hash_of digest c) (with_components digest t new)) ≡ None → collision_in digest t (new ++ c ∷ []) ≡ None
collision_last digest t [] c a n = rw n refl
collision_last digest t (d ∷ new) c a n =
    let parts = option_or_none (collision_with (hash_of digest d) (text_of d.members) (entry_under (hash_of digest d) t)) (collision_in digest (with_component digest t d) new) a in
    rw parts.0 (collision_last digest (with_component digest t d) new c parts.1 n)

-- a storable component without a collision gives another table that was made of such ones
pub made_step : (digest : Digest) (t : Table) (c : Checked) → IsMade digest t → IsStorable t c
    → collision_with (hash_of digest c) (text_of c.members) (entry_under (hash_of digest c) t) ≡ None → IsMade digest (with_component digest t c)
made_step digest t c m s n = record {
  components = m.components ++ c ∷ [];
  storable = let P : Table → Type 0 = λ u. IsStorable u c in storable_last digest [] m.components c m.storable (subst P m.made s);
  apart =
      let P : Table → Type 0 = λ u. collision_with (hash_of digest c) (text_of c.members) (entry_under (hash_of digest c) u) ≡ None in
      collision_last digest [] m.components c m.apart (subst P m.made n);
  made = ap (λ u. with_component digest u c) m.made ∙ sym (with_components-last digest [] m.components c);
}

-- nothing is made of no components
pub made_of_nothing : (digest : Digest) → IsMade digest []
made_of_nothing digest = record { components = []; storable = tt; apart = refl; made = refl }
