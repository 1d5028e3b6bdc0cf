-- Entries put into a table at their places, and looked up there.
use Rattle.std.proofs.Common.{◌≡◌, ℕ, zero, suc, ◌+◌, ◌-◌, ◌<◌, Bool, true, false, List, [], ◌∷◌, ◌++◌, length, get_or, Option, Some, None, arith, refl, sym, ap, subst, ◌∙◌}
use Rattle.std.specs.Prelude.{insert, slice_get, option_map, sum_by, if◌then◌else◌}
use Rattle.std.specs.List.{AllByRecursion}
use Rattle.std.specs.List.Sorted.{IsStrictlySortedBy}
use Rattle.std.specs.Option.{option_or}
use Rattle.std.proofs.lemmas.Option.{slice_get-get_or}
use Rattle.std.proofs.lemmas.List.Sums.{sum_by-cons}
use Rattle.std.specs.Ordering.{is_lt}
use Rattle.std.specs.declared.cmp.Ordering.TheVariants.{Less}
use Rattle.uc_base.specs.declared.hash.Hash.{Hash}
use Rattle.uc_store.specs.Entries.{Entry}
use Rattle.uc_store.specs.Growth.{with_entry, with_entries}
use Rattle.uc_store.specs.Hashes.{hash_order, is_same_hash, next_hash}
use Rattle.uc_store.specs.Places.{IsPlaceBehind}
use Rattle.uc_store.specs.Table.{Table, IsTable, hashes_of, entry_under}
use Rattle.uc_store.proofs.HashOrder.{same_hash, lt_yes, lt_no, lt_is, lt_isnt, turned, is_same, less_trans, less_apart, greater_apart, not_less_cases}

-- ---- places

place_in_rest : (h : Hash) (f : Entry) (t : Table) (p : ℕ) → IsPlaceBehind h (f ∷ t) (suc p) → IsPlaceBehind h t p
place_in_rest h f t p b = record {
  bound = omega (arith, b.bound);
  before = λ k e s l. b.before (suc k) e s (omega arith);
  from = λ k e s l. b.from (suc k) e s (omega arith);
}

-- an entry comes to the place behind those that are at most it
pub with_entry-insert : (e : Entry) (t : Table) (p : ℕ) → IsPlaceBehind e.hash t p → with_entry e t ≡ insert t p e
with_entry-insert e [] zero b = refl
with_entry-insert e [] (suc p) b = absurd (omega (arith, b.bound))
with_entry-insert e (f ∷ t) zero b = rw (lt_yes (hash_order e.hash f.hash) (b.from 0 f refl (omega arith))) refl
with_entry-insert e (f ∷ t) (suc p) b =
    rw (lt_no (hash_order e.hash f.hash) (b.before 0 f refl (omega arith))) (ap (λ u. f ∷ u) (with_entry-insert e t p (place_in_rest e.hash f t p b)))

-- the entry at a place, if its hash is this one
abbrev pub same_entry : Hash → Option Entry → Option Entry
same_entry h None = None
same_entry h (Some e) = if is_same_hash h e.hash then Some e else None

abbrev pub found_before : Hash → Table → ℕ → Option Entry
found_before h t zero = None
found_before h t (suc p) = same_entry h (slice_get t p)

none_under : (h : Hash) (t : Table) → ((k : ℕ) (e : Entry) → slice_get t k ≡ Some e → is_same_hash h e.hash ≡ false) → entry_under h t ≡ None
none_under h [] n = refl
none_under h (f ∷ t) n = rw (n 0 f refl) (none_under h t (λ k e s. n (suc k) e s))

pub all_at : (P : Hash → Type 0) (t : Table) (k : ℕ) (e : Entry) → AllByRecursion P (hashes_of t) → slice_get t k ≡ Some e → P e.hash
all_at P [] k e a s = absurd cc
all_at P (f ∷ t) zero e a s = let same : f ≡ e = cc in subst (λ (x : Entry). P x.hash) same a.0
all_at P (f ∷ t) (suc k) e a s = all_at P t k e a.1 s

-- with an entry at a place whose hash isn't greater, a hash that stands in front of that entry is another one
apart_from_first : (h : Hash) (f g : Entry) → hash_order f.hash g.hash ≡ Less → (hash_order h g.hash ≡ Less → ⊥) → is_same_hash h f.hash ≡ false
apart_from_first h f g l n = go (is_same_hash h f.hash) refl
  where
    go : (r : Bool) → is_same_hash h f.hash ≡ r → is_same_hash h f.hash ≡ false
    go true e = absurd (n (let P : Hash → Type 0 = λ k. hash_order k g.hash ≡ Less in subst P (sym (same_hash h f.hash e)) l))
    go false e = e

under_first : (h : Hash) (f : Entry) (t : Table) → entry_under h t ≡ None → (r : Bool) → is_same_hash h f.hash ≡ r → entry_under h (f ∷ t) ≡ same_entry h (Some f)
under_first h f t n true e = rw e refl
under_first h f t n false e = rw e n

-- the entry under a hash stands in front of the place behind the hash
pub entry_under-place : (h : Hash) (t : Table) (p : ℕ) → IsTable t → IsPlaceBehind h t p → entry_under h t ≡ found_before h t p
unfolding IsStrictlySortedBy
entry_under-place h [] zero s b = refl
entry_under-place h [] (suc p) s b = absurd (omega (arith, b.bound))
entry_under-place h (f ∷ t) zero s b = none_under h (f ∷ t) (λ k e g. less_apart h e.hash (b.from k e g (omega arith)))
entry_under-place h (f ∷ t) (suc zero) s b =
    under_first h f t (none_under h t (λ k e g. less_apart h e.hash (b.from (suc k) e g (omega arith)))) (is_same_hash h f.hash) refl
entry_under-place h (f ∷ t) (suc (suc p)) s b =
    let at : slice_get t p ≡ Some (get_or t p f) = slice_get-get_or t p f (omega (arith, b.bound)) in
    let above : hash_order f.hash (get_or t p f).hash ≡ Less = all_at (λ k. hash_order f.hash k ≡ Less) t p (get_or t p f) s.0 at in
    let apart : is_same_hash h f.hash ≡ false = apart_from_first h f (get_or t p f) above (b.before (suc p) (get_or t p f) at (omega arith)) in
    rw apart (entry_under-place h t (suc p) s.1 (place_in_rest h f t (suc p) b))

-- the next hash stands at the place behind a hash
pub next_hash-place : (h : Hash) (t : Table) (p : ℕ) → IsPlaceBehind h t p → next_hash (Some h) (hashes_of t) ≡ option_map (λ e. e.hash) (slice_get t p)
next_hash-place h [] zero b = refl
next_hash-place h [] (suc p) b = absurd (omega (arith, b.bound))
next_hash-place h (f ∷ t) zero b = rw (lt_yes (hash_order h f.hash) (b.from 0 f refl (omega arith))) refl
next_hash-place h (f ∷ t) (suc p) b = rw (lt_no (hash_order h f.hash) (b.before 0 f refl (omega arith))) (next_hash-place h t p (place_in_rest h f t p b))

-- ---- order

all_less : (h : Hash) (f : Entry) (t : Table) → hash_order h f.hash ≡ Less → AllByRecursion (λ k. hash_order f.hash k ≡ Less) (hashes_of t)
    → AllByRecursion (λ k. hash_order h k ≡ Less) (hashes_of t)
all_less h f [] l a = a
all_less h f (g ∷ t) l a = (less_trans h f.hash g.hash l a.0, all_less h f t l a.1)

none_above : (h : Hash) (t : Table) → AllByRecursion (λ k. hash_order h k ≡ Less) (hashes_of t) → entry_under h t ≡ None
none_above h [] a = refl
none_above h (f ∷ t) a = rw (less_apart h f.hash a.0) (none_above h t a.1)

pub under_split : (h : Hash) (f : Entry) (t : Table) → entry_under h (f ∷ t) ≡ None → (is_same_hash h f.hash ≡ false) × (entry_under h t ≡ None)
under_split h f t n = go (is_same_hash h f.hash) refl
  where
    go : (r : Bool) → is_same_hash h f.hash ≡ r → (is_same_hash h f.hash ≡ false) × (entry_under h t ≡ None)
    go true e = absurd (let x : entry_under h (f ∷ t) ≡ Some f = rw e refl in cc)
    go false e = (e, let x : entry_under h (f ∷ t) ≡ entry_under h t = rw e refl in sym x ∙ n)

all_with : (P : Hash → Type 0) (e : Entry) (t : Table) → AllByRecursion P (hashes_of t) → P e.hash → AllByRecursion P (hashes_of (with_entry e t))
all_with P e [] a p = (p, a)
all_with P e (f ∷ t) a p = go (all_with P e t a.1 p) (is_lt (hash_order e.hash f.hash)) refl
  where
    go : AllByRecursion P (hashes_of (with_entry e t)) → (r : Bool) → is_lt (hash_order e.hash f.hash) ≡ r → AllByRecursion P (hashes_of (with_entry e (f ∷ t)))
    go rest true q = rw q (p, a)
    go rest false q = rw q (a.0, rest)

all_without : (P : Hash → Type 0) (e : Entry) (t : Table) → AllByRecursion P (hashes_of (with_entry e t)) → P e.hash × AllByRecursion P (hashes_of t)
all_without P e [] a = a
all_without P e (f ∷ t) a = go (all_without P e t) (is_lt (hash_order e.hash f.hash)) refl
  where
    go : (AllByRecursion P (hashes_of (with_entry e t)) → P e.hash × AllByRecursion P (hashes_of t)) → (r : Bool) → is_lt (hash_order e.hash f.hash) ≡ r
        → P e.hash × AllByRecursion P (hashes_of (f ∷ t))
    go rest true q = rw q at a
    go rest false q =
        let b : AllByRecursion P (hashes_of (f ∷ with_entry e t)) = rw q at a in
        let parts : P e.hash × AllByRecursion P (hashes_of t) = rest b.1 in
        (parts.0, (b.0, parts.1))

-- an entry with a hash that isn't stored keeps the order
pub sorted_with : (e : Entry) (t : Table) → IsTable t → entry_under e.hash t ≡ None → IsTable (with_entry e t)
unfolding IsStrictlySortedBy
sorted_with e [] s n = (s, s)
sorted_with e (f ∷ t) s n = go (sorted_with e t s.1 (under_split e.hash f t n).1) (is_lt (hash_order e.hash f.hash)) refl
  where
    go : IsTable (with_entry e t) → (r : Bool) → is_lt (hash_order e.hash f.hash) ≡ r → IsTable (with_entry e (f ∷ t))
    go rest true q = rw q ((lt_is (hash_order e.hash f.hash) q, all_less e.hash f t (lt_is (hash_order e.hash f.hash) q) s.0), s)
    go rest false q =
        let below : hash_order f.hash e.hash ≡ Less = not_less_cases e.hash f.hash q (under_split e.hash f t n).0 in
        rw q (all_with (λ k. hash_order f.hash k ≡ Less) e t s.0 below, rest)

-- a table without one of its entries is a table, in which the hash of that entry isn't stored
pub apart_with : (e : Entry) (t : Table) → IsTable (with_entry e t) → IsTable t × (entry_under e.hash t ≡ None)
unfolding IsStrictlySortedBy
apart_with e [] s = (s.1, refl)
apart_with e (f ∷ t) s = go (apart_with e t) (is_lt (hash_order e.hash f.hash)) refl
  where
    go : (IsTable (with_entry e t) → IsTable t × (entry_under e.hash t ≡ None)) → (r : Bool) → is_lt (hash_order e.hash f.hash) ≡ r
        → IsTable (f ∷ t) × (entry_under e.hash (f ∷ t) ≡ None)
    go before true q =
        let r : IsTable (e ∷ f ∷ t) = rw q at s in
        (r.1, none_above e.hash (f ∷ t) r.0)
    go before false q =
        let r : IsTable (f ∷ with_entry e t) = rw q at s in
        let parts : (hash_order f.hash e.hash ≡ Less) × AllByRecursion (λ k. hash_order f.hash k ≡ Less) (hashes_of t) =
        all_without (λ k. hash_order f.hash k ≡ Less) e t r.0 in
        let rest : IsTable t × (entry_under e.hash t ≡ None) = before r.1 in
        ((parts.1, rest.0), rw (greater_apart f.hash e.hash parts.0) rest.1)

-- ---- look-ups

apart_sym : (h k : Hash) → is_same_hash h k ≡ false → is_same_hash k h ≡ false
apart_sym h k n = go (is_same_hash k h) refl
  where
    go : (r : Bool) → is_same_hash k h ≡ r → is_same_hash k h ≡ false
    go true e = absurd (let same : k ≡ h = same_hash k h e in let P : Hash → Type 0 = λ x. is_same_hash h x ≡ true in let y : is_same_hash h k ≡ true = subst P (sym same) (is_same h) in cc)
    go false e = e

-- what is found once an entry is put in
pub under_with : (q : Hash) (e : Entry) (t : Table) → entry_under e.hash t ≡ None → entry_under q (with_entry e t) ≡ (if is_same_hash q e.hash then Some e else entry_under q t)
under_with q e [] n = refl
under_with q e (f ∷ t) n = go (under_with q e t (under_split e.hash f t n).1) (is_lt (hash_order e.hash f.hash)) refl
  where
    apart : (is_same_hash e.hash f.hash ≡ false) × (entry_under e.hash t ≡ None)
    apart = under_split e.hash f t n

    other : is_same_hash q f.hash ≡ true → is_same_hash q e.hash ≡ false
    other s = let P : Hash → Type 0 = λ x. is_same_hash x e.hash ≡ false in subst P (sym (same_hash q f.hash s)) (apart_sym e.hash f.hash apart.0)

    behind : entry_under q (with_entry e t) ≡ (if is_same_hash q e.hash then Some e else entry_under q t) → (r : Bool) → is_same_hash q f.hash ≡ r
        → entry_under q (f ∷ with_entry e t) ≡ (if is_same_hash q e.hash then Some e else entry_under q (f ∷ t))
    behind rest true s = rw (s, other s) refl
    behind rest false s = rw s rest

    go : entry_under q (with_entry e t) ≡ (if is_same_hash q e.hash then Some e else entry_under q t) → (r : Bool) → is_lt (hash_order e.hash f.hash) ≡ r
        → entry_under q (with_entry e (f ∷ t)) ≡ (if is_same_hash q e.hash then Some e else entry_under q (f ∷ t))
    go rest true r = rw r refl
    go rest false r = rw r (behind rest (is_same_hash q f.hash) refl)

-- what is found once entries are put in
pub under_entries : (q : Hash) (fs : List Entry) (t : Table) → IsTable (with_entries fs t) → entry_under q (with_entries fs t) ≡ option_or (entry_under q fs) (entry_under q t)
under_entries q [] t s = refl
under_entries q (f ∷ fs) t s =
    let before : IsTable (with_entries fs t) × (entry_under f.hash (with_entries fs t) ≡ None) = apart_with f (with_entries fs t) s in
    under_with q f (with_entries fs t) before.1 ∙ go (under_entries q fs t before.0) (is_same_hash q f.hash) refl
  where
    go : entry_under q (with_entries fs t) ≡ option_or (entry_under q fs) (entry_under q t) → (r : Bool) → is_same_hash q f.hash ≡ r → (if is_same_hash q f.hash then Some f else entry_under q (with_entries fs t)) ≡ option_or (entry_under q (f ∷ fs)) (entry_under q t)
    go rest true e = rw e refl
    go rest false e = rw e rest

-- ---- the order in which entries are put in is free

commute_less : (e f : Entry) (t : Table) → hash_order e.hash f.hash ≡ Less → with_entry e (with_entry f t) ≡ with_entry f (with_entry e t)
commute_less e f [] l = rw (lt_yes (hash_order e.hash f.hash) l, ap is_lt (turned e.hash f.hash l)) refl
commute_less e f (g ∷ t) l = go (commute_less e f t l) (is_lt (hash_order f.hash g.hash)) refl (is_lt (hash_order e.hash g.hash)) refl
  where
    first : is_lt (hash_order e.hash f.hash) ≡ true
    first = ap is_lt l

    second : is_lt (hash_order f.hash e.hash) ≡ false
    second = ap is_lt (turned e.hash f.hash l)

    go : with_entry e (with_entry f t) ≡ with_entry f (with_entry e t) → (a : Bool) → is_lt (hash_order f.hash g.hash) ≡ a → (b : Bool) → is_lt (hash_order e.hash g.hash) ≡ b → with_entry e (with_entry f (g ∷ t)) ≡ with_entry f (with_entry e (g ∷ t))
    go rest true p true q = simp (p, q, first, second)
    go rest true p false q = absurd (lt_isnt (hash_order e.hash g.hash) q (less_trans e.hash f.hash g.hash l (lt_is (hash_order f.hash g.hash) p)))
    go rest false p true q = simp (p, q, second)
    go rest false p false q = simp (p, q) (ap (λ u. g ∷ u) rest)

commute : (e f : Entry) (t : Table) → is_same_hash e.hash f.hash ≡ false → with_entry e (with_entry f t) ≡ with_entry f (with_entry e t)
commute e f t n = go (is_lt (hash_order e.hash f.hash)) refl
  where
    go : (r : Bool) → is_lt (hash_order e.hash f.hash) ≡ r → with_entry e (with_entry f t) ≡ with_entry f (with_entry e t)
    go true q = commute_less e f t (lt_is (hash_order e.hash f.hash) q)
    go false q = sym (commute_less f e t (not_less_cases e.hash f.hash q n))

-- an entry among those that are put in may as well be put in last
pub with_entries-with : (e : Entry) (fs : List Entry) (t : Table) → entry_under e.hash fs ≡ None → with_entries (with_entry e fs) t ≡ with_entry e (with_entries fs t)
with_entries-with e [] t n = refl
with_entries-with e (f ∷ fs) t n = go (with_entries-with e fs t (under_split e.hash f fs n).1) (is_lt (hash_order e.hash f.hash)) refl
  where
    apart : (is_same_hash e.hash f.hash ≡ false) × (entry_under e.hash fs ≡ None)
    apart = under_split e.hash f fs n

    go : with_entries (with_entry e fs) t ≡ with_entry e (with_entries fs t) → (r : Bool) → is_lt (hash_order e.hash f.hash) ≡ r
        → with_entries (with_entry e (f ∷ fs)) t ≡ with_entry e (with_entries (f ∷ fs) t)
    go rest true q = rw q refl
    go rest false q = rw q (ap (λ u. with_entry f u) rest ∙ sym (commute e f (with_entries fs t) apart.0))

-- ---- sizes

pub sum_by-with : (v : Entry → ℕ) (e : Entry) (t : Table) → sum_by v (with_entry e t) ≡ v e + sum_by v t
sum_by-with v e [] = sum_by-cons v e []
sum_by-with v e (f ∷ t) = go (sum_by-with v e t) (is_lt (hash_order e.hash f.hash)) refl
  where
    go : sum_by v (with_entry e t) ≡ v e + sum_by v t → (r : Bool) → is_lt (hash_order e.hash f.hash) ≡ r → sum_by v (with_entry e (f ∷ t)) ≡ v e + sum_by v (f ∷ t)
    go rest true q = rw q (sum_by-cons v e (f ∷ t))
    go rest false q = rw q (omega (arith, sum_by-cons v f (with_entry e t), sum_by-cons v f t))

pub length-with : (e : Entry) (t : Table) → length (with_entry e t) ≡ suc (length t)
length-with e [] = refl
length-with e (f ∷ t) = go (length-with e t) (is_lt (hash_order e.hash f.hash)) refl
  where
    go : length (with_entry e t) ≡ suc (length t) → (r : Bool) → is_lt (hash_order e.hash f.hash) ≡ r → length (with_entry e (f ∷ t)) ≡ suc (length (f ∷ t))
    go rest true q = rw q refl
    go rest false q = rw q (ap (λ n. suc n) rest)

-- the last of some entries is put in first
pub with_entries-last : (fs : List Entry) (e : Entry) (t : Table) → with_entries (fs ++ e ∷ []) t ≡ with_entries fs (with_entry e t)
with_entries-last [] e t = refl
with_entries-last (f ∷ fs) e t = ap (λ u. with_entry f u) (with_entries-last fs e t)

-- where all entries give a table, so does each part that is put in first
pub sorted_before : (fs : List Entry) (t : Table) → IsTable (with_entries fs t) → IsTable t
sorted_before [] t s = s
sorted_before (f ∷ fs) t s = sorted_before fs t (apart_with f (with_entries fs t) s).0

-- the entry in front of a place
pub found_at_place : (h : Hash) (t : Table) (p : ℕ) (e : Entry) → 0 < p → slice_get t (p - 1) ≡ Some e → found_before h t p ≡ same_entry h (Some e)
found_at_place h t zero e l at = absurd (omega arith)
found_at_place h t (suc q) e l at = let same : suc q - 1 ≡ q = omega arith in ap (same_entry h) (ap (λ n. slice_get t n) (sym same) ∙ at)

pub same_yes : (h : Hash) (e : Entry) → is_same_hash h e.hash ≡ true → same_entry h (Some e) ≡ Some e
same_yes h e s = rw s refl

pub same_no : (h : Hash) (e : Entry) → is_same_hash h e.hash ≡ false → same_entry h (Some e) ≡ None
same_no h e s = rw s refl

-- an entry stands under its own hash
pub under_hash : (h : Hash) (t : Table) (e : Entry) → entry_under h t ≡ Some e → h ≡ e.hash
under_hash h [] e s = absurd cc
under_hash h (f ∷ t) e s = go (under_hash h t e) (is_same_hash h f.hash) refl
  where
    go : (entry_under h t ≡ Some e → h ≡ e.hash) → (r : Bool) → is_same_hash h f.hash ≡ r → h ≡ e.hash
    go rest true q =
        let x : Some f ≡ Some e = rw q at s in
        let same : f ≡ e = cc in
        same_hash h f.hash q ∙ ap (λ y. y.hash) same
    go rest false q = rest (rw q at s)

pub first_hash : (t : Table) → next_hash None (hashes_of t) ≡ option_map (λ e. e.hash) (slice_get t 0)
first_hash [] = refl
first_hash (f ∷ t) = refl

pub empty_table : IsTable []
unfolding IsStrictlySortedBy
empty_table = tt
