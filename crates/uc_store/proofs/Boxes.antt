-- Entries in boxes, members of entries, and types pushed one by one.
use Rattle.std.proofs.Common.{◌≡◌, ◌⊎◌, inl, inr, ℕ, zero, suc, ◌+◌, ◌<◌, ◌≤◌, List, [], ◌∷◌, ◌++◌, Vec, length, map, get_or, drop, Some, None, add-one, drop-cons, append_assoc, arith, refl, sym, ap, subst, ◌∙◌}
use Rattle.std.specs.Prelude.{insert, slice_get, option_and_then}
use Rattle.std.specs.Option.{option_map_or}
use Rattle.std.proofs.lemmas.Option.{slice_get-map, slice_get_past}
use Rattle.std.specs.declared.boxed.Box.{Box}
use Rattle.uc_base.specs.declared.hash.Hash.{Hash}
use Rattle.uc_base.specs.declared.reference.Ref.TheVariants.{Ctor}
use Rattle.uc_tree.specs.Types.{Ty, Tys, tys_of}
use Rattle.uc_tree.specs.Declarations.{fields_of}
use Rattle.uc_store.specs.declared.member.Member.{Member}
use Rattle.uc_store.specs.Builtins.{builtin_type}
use Rattle.uc_store.specs.Entries.{Entry, refs_in, constructor_types}
use Rattle.uc_store.specs.Members.{stored_of, AreKept}
use Rattle.uc_store.specs.Growth.{with_entry, with_entries}
use Rattle.uc_store.specs.Places.{boxed, IsPlaceBehind}
use Rattle.uc_store.specs.Table.{Table, entry_under, type_of_ref}
use Rattle.uc_store.proofs.Tables.{under_hash, with_entry-insert, with_entries-last}

-- ---- boxes

pub boxed_at : {A : Type 0} (entries : List (Box Entry A)) (i : ℕ) (b : Box Entry A) → i < length entries → b ≡ get_or entries i b → slice_get (boxed entries) i ≡ Some b.value
boxed_at [] i b l e = absurd (omega arith)
boxed_at (x ∷ entries) zero b l e = ap (λ y. Some y.value) (sym e)
boxed_at (x ∷ entries) (suc i) b l e = boxed_at entries i b (omega arith) e

pub boxed_past : {A : Type 0} (entries : List (Box Entry A)) (i : ℕ) → length entries ≤ i → slice_get (boxed entries) i ≡ None
boxed_past [] i l = refl
boxed_past (x ∷ entries) zero l = absurd (omega arith)
boxed_past (x ∷ entries) (suc i) l = boxed_past entries i (omega arith)

pub length-boxed : {A : Type 0} (entries : List (Box Entry A)) → length (boxed entries) ≡ length entries
length-boxed [] = refl
length-boxed (x ∷ entries) = ap (λ n. suc n) (length-boxed entries)

pub boxed-append : {A : Type 0} (xs ys : List (Box Entry A)) → boxed (xs ++ ys) ≡ boxed xs ++ boxed ys
boxed-append [] ys = refl
boxed-append (x ∷ xs) ys = ap (λ u. x.value ∷ u) (boxed-append xs ys)

pub boxed-insert : {A : Type 0} (xs : List (Box Entry A)) (i : ℕ) (x : Box Entry A) → boxed (insert xs i x) ≡ insert (boxed xs) i x.value
boxed-insert [] zero x = refl
boxed-insert [] (suc i) x = refl
boxed-insert (y ∷ xs) zero x = refl
boxed-insert (y ∷ xs) (suc i) x = ap (λ u. y.value ∷ u) (boxed-insert xs i x)

-- the last of the new entries put in at its place
pub put_step : {A : Type 0} (fresh rest entries new : List (Box Entry A)) (b : Box Entry A) (p : ℕ) (whole : Table) → fresh ≡ rest ++ b ∷ [] → IsPlaceBehind b.value.hash (boxed entries) p
    → new ≡ insert entries p b → with_entries (boxed fresh) (boxed entries) ≡ whole → with_entries (boxed rest) (boxed new) ≡ whole
put_step fresh rest entries new b p whole last behind is so_far =
    let placed : boxed new ≡ with_entry b.value (boxed entries) = ap boxed is ∙ boxed-insert entries p b ∙ sym (with_entry-insert b.value (boxed entries) p behind) in
    let split : boxed fresh ≡ boxed rest ++ b.value ∷ [] = ap boxed last ∙ boxed-append rest (b ∷ []) in
    ap (λ u. with_entries (boxed rest) u) placed ∙ sym (with_entries-last (boxed rest) b.value (boxed entries)) ∙ ap (λ u. with_entries u (boxed entries)) (sym split) ∙ so_far

-- ---- members

pub refs_at : (hash : Hash) (ms : List Member) (k : ℕ) (m : Member) → AreKept hash ms → slice_get ms k ≡ Some m
    → m.refs.items ≡ option_map_or (λ s. refs_in s.item) (slice_get (stored_of ms) k) []
refs_at hash ms k m kept at = rw (slice_get-map (λ x. x.stored) ms k, at) ((kept k m at).refs)

pub refs_past : (ms : List Member) (k : ℕ) → length ms ≤ k → [] ≡ option_map_or (λ s. refs_in s.item) (slice_get (stored_of ms) k) []
refs_past ms k l = rw (slice_get-map (λ x. x.stored) ms k, slice_get_past ms k l) refl

pub type_of_constructor : (t : Table) (h : Hash) (m c : ℕ) (e : Entry) → entry_under h t ≡ Some e
    → option_and_then (λ s. slice_get (constructor_types e.hash m s.item) c) (slice_get e.members m) ≡ type_of_ref t (Ctor h m c)
type_of_constructor t h m c e at =
    let P : Hash → Type 0 = λ k. option_and_then (λ s. slice_get (constructor_types k m s.item) c) (slice_get e.members m) ≡ type_of_ref t (Ctor h m c) in
    subst P (under_hash h t e at) (rw at refl)

-- ---- types of builtins

pub pushed_at : {A : Type 0} (xs : List A) (x : A) (k : ℕ) → k < length (xs ++ x ∷ []) → ((k < length xs) × (slice_get (xs ++ x ∷ []) k ≡ slice_get xs k)) ⊎ ((k ≡ length xs) × (slice_get (xs ++ x ∷ []) k ≡ Some x))
pushed_at [] x zero l = inr (refl, refl)
pushed_at [] x (suc k) l = absurd (omega arith)
pushed_at (y ∷ xs) x zero l = inl (omega arith, refl)
pushed_at (y ∷ xs) x (suc k) l = elim (pushed_at xs x k (omega arith)) [ inl p ↦ inl (omega (arith, p.0), p.1) | inr p ↦ inr (ap (λ n. suc n) p.0, p.1) ]

pub length-push : {A : Type 0} (xs : List A) (x : A) → length (xs ++ x ∷ []) ≡ length xs + 1
length-push [] x = refl
length-push (y ∷ xs) x = omega (arith, length-push xs x)

pub types_step : (ts : List Ty) (t : Ty) (n : ℕ) → (length ts + 16 ≡ n) × ((k : ℕ) → k < length ts → slice_get ts k ≡ builtin_type (k + 16)) → Some t ≡ builtin_type n
    → (length (ts ++ t ∷ []) + 16 ≡ n + 1) × ((k : ℕ) → k < length (ts ++ t ∷ []) → slice_get (ts ++ t ∷ []) k ≡ builtin_type (k + 16))
types_step ts t n old is = (omega (arith, old.0, length-push ts t), λ k l. go k (pushed_at ts t k l))
  where
    go : (k : ℕ) → ((k < length ts) × (slice_get (ts ++ t ∷ []) k ≡ slice_get ts k)) ⊎ ((k ≡ length ts) × (slice_get (ts ++ t ∷ []) k ≡ Some t)) → slice_get (ts ++ t ∷ []) k ≡ builtin_type (k + 16)
    go k (inl p) = p.1 ∙ old.1 k p.0
    go k (inr p) = p.1 ∙ is ∙ ap builtin_type (let e : n ≡ k + 16 = omega (arith, p.0, old.0) in e)

-- ---- types of constructors

pub fields_step : {A : Type 0} (g : Tys → Ty) (xs : List (Vec Ty A)) (i : ℕ) (v : Vec Ty A) (ts whole : List Ty) (t : Ty) → i < length xs → v ≡ get_or xs i v → t ≡ g (tys_of v.items)
    → ts ++ map g (fields_of (drop i xs)) ≡ whole → (ts ++ t ∷ []) ++ map g (fields_of (drop (i + 1) xs)) ≡ whole
fields_step g xs i v ts whole t l is e so_far =
    let d : drop i xs ≡ v ∷ drop (i + 1) xs = rw (add-one, drop-cons xs i v, ← is) refl in
    let rest : map g (fields_of (drop i xs)) ≡ t ∷ map g (fields_of (drop (i + 1) xs)) = rw (d, e) refl in
    append_assoc ts (t ∷ []) (map g (fields_of (drop (i + 1) xs))) ∙ ap (λ u. ts ++ u) (sym rest) ∙ so_far

pub fields_end : {A : Type 0} (xs : List (Vec Ty A)) (i : ℕ) → length xs ≤ i → fields_of (drop i xs) ≡ []
fields_end [] zero l = refl
fields_end [] (suc i) l = refl
fields_end (x ∷ xs) zero l = absurd (omega arith)
fields_end (x ∷ xs) (suc i) l = fields_end xs i (omega arith)
