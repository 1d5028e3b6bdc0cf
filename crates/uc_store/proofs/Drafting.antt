-- New entries on their way into a table.
use Rattle.std.proofs.Common.{◌≡◌, ℕ, ◌≤◌, List, [], ◌∷◌, length, map, Some, None, arith, sym, ap, subst, ◌∙◌}
use Rattle.std.proofs.lemmas.List.{length-map}
use Rattle.std.specs.Prelude.{insert, sum_by}
use Rattle.std.specs.Option.{option_or}
use Rattle.std.specs.declared.boxed.Box.{Box}
use Rattle.uc_base.specs.declared.fault.Fault.{Fault}
use Rattle.uc_base.specs.declared.hash.Hash.{Hash}
use Rattle.uc_tree.specs.declared.item.Item.TheVariants as item
use Rattle.uc_tree.specs.Counts.{node_count}
use Rattle.uc_tree.specs.Types.{Ty}
use Rattle.uc_canon.specs.Members.{Members, terms, kinds, items_of, count_of, text_of}
use Rattle.uc_store.specs.declared.draft.Draft.{Draft}
use Rattle.uc_store.specs.declared.stored.Stored.{Stored}
use Rattle.uc_store.specs.Checked.{Checked}
use Rattle.uc_store.specs.Drafts.{drafted, AreCounts, IsDraft}
use Rattle.uc_store.specs.Entries.{Entry}
use Rattle.uc_store.specs.Growth.{Digest, entry_at, hash_of, opened, stored_from, with_entry, with_entries, with_new, with_component, with_components, collision_with, collision_in}
use Rattle.uc_store.specs.Places.{boxed, IsPlaceBehind}
use Rattle.uc_store.specs.Storable.{HasTypes, AreStorable, IsMade}
use Rattle.uc_store.specs.Table.{Table, IsTable, entry_under, nodes_of_entry}
use Rattle.uc_store.proofs.Boxes.{boxed-insert}
use Rattle.uc_store.proofs.Growing.{option_or_none, made_step}
use Rattle.uc_store.proofs.Making.{nodes-stored_from}
use Rattle.uc_store.proofs.Tables.{with_entry-insert, with_entries-with, under_entries, sorted_with, empty_table}

pub entry_same : (hash : Hash) (text : List ℕ) (members : List Stored) (c : Checked) → text ≡ text_of c.members
    → members ≡ stored_from (map (opened hash (count_of c.members)) (items_of c.members)) c.types c.hints → (let e : Entry = record { hash = hash; text = text; members = members } in e ≡ entry_at hash c)
entry_same hash text members c t m =
    let f : List ℕ → Entry = λ x. record { hash = hash; text = x; members = members } in
    let g : List Stored → Entry = λ x. record { hash = hash; text = text_of c.members; members = x } in
    ap f t ∙ ap g m

types_few : (m : Members) (ts : List Ty) → HasTypes m ts → length ts ≤ length (items_of m)
types_few (terms ds) ts h = omega (arith, h, length-map ds item.Term)
types_few (kinds ds) ts h = omega (arith, ap length h)

-- the nodes of an entry are those of the types of its component
pub entry_nodes : (hash : Hash) (c : Checked) → HasTypes c.members c.types → nodes_of_entry (entry_at hash c) ≡ sum_by node_count c.types
entry_nodes hash c h =
    nodes-stored_from (map (opened hash (count_of c.members)) (items_of c.members)) c.types c.hints
    (omega (arith, types_few c.members c.types h, length-map (items_of c.members) (opened hash (count_of c.members))))

pub fresh_step : {A : Type 0} (old new : List (Box Entry A)) (b : Box Entry A) (p : ℕ) (e : Entry) → b.value ≡ e → IsPlaceBehind e.hash (boxed old) p → new ≡ insert old p b
    → boxed new ≡ with_entry e (boxed old)
fresh_step old new b p e value behind is =
    ap boxed is ∙ boxed-insert old p b ∙ ap (λ x. insert (boxed old) p x) value ∙ sym (with_entry-insert e (boxed old) p behind)

absent_fresh : (t : Table) (d : Draft) (h : Hash) → IsDraft t d → entry_under h (drafted t d) ≡ None → entry_under h (boxed d.fresh.items) ≡ None
absent_fresh t d h s n =
    (option_or_none (entry_under h (boxed d.fresh.items)) (entry_under h t) (sym (under_entries h (boxed d.fresh.items) t s.ordered) ∙ n)).0

pub drafted_step : (t : Table) (d e : Draft) (x : Entry) → IsDraft t d → entry_under x.hash (drafted t d) ≡ None → boxed e.fresh.items ≡ with_entry x (boxed d.fresh.items)
    → drafted t e ≡ with_entry x (drafted t d)
drafted_step t d e x s n f = ap (λ u. with_entries u t) f ∙ with_entries-with x (boxed d.fresh.items) t (absent_fresh t d x.hash s n)

pub draft_step : (t : Table) (d e : Draft) (x : Entry) → IsDraft t d → entry_under x.hash (drafted t d) ≡ None → boxed e.fresh.items ≡ with_entry x (boxed d.fresh.items)
    → AreCounts (with_entry x (drafted t d)) e.counts → IsDraft t e
draft_step t d e x s n f c =
    let P : Table → Type 0 = λ u. IsTable u in
    let Q : Table → Type 0 = λ u. AreCounts u e.counts in
    record {
      fresh = subst P (sym f) (sorted_with x (boxed d.fresh.items) s.fresh (absent_fresh t d x.hash s n));
      ordered = subst P (sym (drafted_step t d e x s n f)) (sorted_with x (drafted t d) s.ordered n);
      counted = subst Q (sym (drafted_step t d e x s n f)) c;
    }

-- so many components are drafted, and the rest is still to come
pub record IsDrafting (digest : Digest) (table : Table) (new rest : List Checked) (d : Draft) : Type 0 where
  pub draft : IsDraft table d
  pub made : IsMade digest (drafted table d)
  pub components : with_components digest (drafted table d) rest ≡ with_components digest table new
  pub storable : AreStorable digest (drafted table d) rest
  pub apart : collision_in digest (drafted table d) rest ≡ collision_in digest table new

pub drafting_step : (digest : Digest) (table : Table) (new rest rest' : List Checked) (d e : Draft) (c : Checked) (hash : Hash) → IsDrafting digest table new rest d → rest ≡ c ∷ rest' → hash ≡ hash_of digest c
    → IsDraft table e → drafted table e ≡ with_new (entry_at hash c) (drafted table d) (entry_under hash (drafted table d))
    → collision_with hash (text_of c.members) (entry_under hash (drafted table d)) ≡ None → IsDrafting digest table new rest' e
drafting_step digest table new rest rest' d e c hash s front is draft added apart =
    let T : Table = drafted table d in
    let grown : drafted table e ≡ with_component digest T c = added ∙ ap (λ h. with_new (entry_at h c) T (entry_under h T)) is in
    let none : collision_with (hash_of digest c) (text_of c.members) (entry_under (hash_of digest c) T) ≡ None =
    sym (ap (λ h. collision_with h (text_of c.members) (entry_under h T)) is) ∙ apart in
    let S : List Checked → Type 0 = λ xs. AreStorable digest T xs in
    let storable : AreStorable digest T (c ∷ rest') = subst S front s.storable in
    let M : Table → Type 0 = λ u. IsMade digest u in
    let R : Table → Type 0 = λ u. AreStorable digest u rest' in
    record {
      draft = draft;
      made = subst M (sym grown) (made_step digest T c s.made storable.0 none);
      components = ap (λ u. with_components digest u rest') grown ∙ sym (ap (λ xs. with_components digest T xs) front) ∙ s.components;
      storable = subst R (sym grown) storable.1;
      apart =
          ap (λ u. collision_in digest u rest') grown
          ∙ sym (ap (λ o. option_or o (collision_in digest (with_component digest T c) rest')) none) ∙ sym (ap (λ xs. collision_in digest T xs) front) ∙ s.apart;
    }

-- a collision of the next component is the first of all
pub drafting_fails : (digest : Digest) (table : Table) (new rest rest' : List Checked) (d : Draft) (c : Checked) (hash : Hash) (f : Fault) → IsDrafting digest table new rest d → rest ≡ c ∷ rest' → hash ≡ hash_of digest c
    → collision_with hash (text_of c.members) (entry_under hash (drafted table d)) ≡ Some f → collision_in digest table new ≡ Some f
drafting_fails digest table new rest rest' d c hash f s front is fails =
    let T : Table = drafted table d in
    let some : collision_with (hash_of digest c) (text_of c.members) (entry_under (hash_of digest c) T) ≡ Some f =
    sym (ap (λ h. collision_with h (text_of c.members) (entry_under h T)) is) ∙ fails in
    sym s.apart ∙ ap (λ xs. collision_in digest T xs) front ∙ ap (λ o. option_or o (collision_in digest (with_component digest T c) rest')) some

-- nothing is drafted yet
pub drafting_begins : (digest : Digest) (table : Table) (new : List Checked) (d : Draft) → d.fresh.items ≡ [] → IsTable table → AreCounts table d.counts → IsMade digest table → AreStorable digest table new
    → IsDrafting digest table new new d
drafting_begins digest table new d none ordered counted made storable =
    let fresh : boxed d.fresh.items ≡ [] = ap boxed none in
    let same : drafted table d ≡ table = ap (λ u. with_entries u table) fresh in
    let P : Table → Type 0 = λ u. IsTable u in
    let Q : Table → Type 0 = λ u. AreCounts u d.counts in
    let M : Table → Type 0 = λ u. IsMade digest u in
    let R : Table → Type 0 = λ u. AreStorable digest u new in
    record {
      draft = record { fresh = subst P (sym fresh) empty_table; ordered = subst P (sym same) ordered; counted = subst Q (sym same) counted };
      made = subst M (sym same) made;
      components = ap (λ u. with_components digest u new) same;
      storable = subst R (sym same) storable;
      apart = ap (λ u. collision_in digest u new) same;
    }
