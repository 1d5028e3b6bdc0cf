-- The least number that no entry has.
use Rattle.std.proofs.Common.{◌≡◌, ◌≢◌, ℕ, zero, suc, ◌+◌, ◌<◌, ◌≤◌, Bool, true, false, cond, eqb, ◌||◌, List, [], ◌∷◌, ◌++◌, length, arith, refl, sym, ap, subst, ◌∙◌, inl, inr, below_more, add-one}
use Rattle.std.specs.List.{list_any}
use Rattle.std.proofs.lemmas.List.{length_push}
use Rattle.std.proofs.lemmas.Bool.{cases_lt, cases_order, eqb-true, eq-eqb, ne_eqb, or_left, or_right, or_parts, or_from, eqb-false, false≢true, false_from_ne_true}
use Rattle.uc_context.specs.declared.entry.Entry.TheVariants.{Exists}
use Rattle.uc_context.specs.Entries.{ContextEntries, number_of, is_numbered, IsFresh}
use Rattle.uc_context.specs.Fresh.{unused_from, fresh_number, fresh_numbers, AreNew}

-- what is left of entries without those that have a number
without : ℕ → ContextEntries → ContextEntries
without n [] = []
without n (e ∷ es) = cond (is_numbered n e) (without n es) (e ∷ without n es)

length-without : (n : ℕ) (es : ContextEntries) → length (without n es) ≤ length es
unfolding without
length-without n [] = omega arith
length-without n (e ∷ es) = go (is_numbered n e) (length-without n es)
  where
    go : (b : Bool) → length (without n es) ≤ length es → length (cond b (without n es) (e ∷ without n es)) ≤ suc (length es)
    go true h = omega arith
    go false h = omega arith

-- there are fewer where one has the number
fewer : (n : ℕ) (es : ContextEntries) → list_any (is_numbered n) es ≡ true → length (without n es) < length es
unfolding without
fewer n [] used = absurd cc
fewer n (e ∷ es) used = go (is_numbered n e) refl used (fewer n es)
  where
    go : (b : Bool) → is_numbered n e ≡ b → (b || list_any (is_numbered n) es) ≡ true → (list_any (is_numbered n) es ≡ true → length (without n es) < length es) → length (cond b (without n es) (e ∷ without n es)) < suc (length es)
    go true is u rest = omega (arith, length-without n es)
    go false is u rest = omega (arith, rest u)

-- other numbers stay
others_stay : (n m : ℕ) (es : ContextEntries) → m ≢ n → list_any (is_numbered m) es ≡ true → list_any (is_numbered m) (without n es) ≡ true
unfolding without
others_stay n m [] other used = used
others_stay n m (e ∷ es) other used = go (is_numbered n e) (is_numbered m e) refl refl used (others_stay n m es other)
  where
    go : (a b : Bool) → is_numbered n e ≡ a → is_numbered m e ≡ b → (b || list_any (is_numbered m) es) ≡ true → (list_any (is_numbered m) es ≡ true → list_any (is_numbered m) (without n es) ≡ true)
        → list_any (is_numbered m) (cond a (without n es) (e ∷ without n es)) ≡ true
    go true true p q u rest = absurd (other (sym (eqb-true (number_of e) m q) ∙ eqb-true (number_of e) n p))
    go true false p q u rest = rest u
    go false true p q u rest = rw q refl
    go false false p q u rest = rw q (rest u)

-- numbers that entries have are no more than the entries
pub as_many_entries : (n : ℕ) (es : ContextEntries) → ((m : ℕ) → m < n → list_any (is_numbered m) es ≡ true) → n ≤ length es
as_many_entries zero es used = omega arith
as_many_entries (suc n) es used =
    omega (arith, as_many_entries n (without n es) (λ m below. others_stay n m es (omega arith) (used m (omega arith))), fewer n es (used n (omega arith)))

pub fresh_is_small : (es : ContextEntries) (n : ℕ) → IsFresh es n → n ≤ length es
fresh_is_small es n fresh = as_many_entries n es fresh.least

-- there is at most one least number
pub fresh_is_unique : (es : ContextEntries) (m n : ℕ) → IsFresh es m → IsFresh es n → m ≡ n
fresh_is_unique es m n p q = elim (cases_order m n) [ inl e ↦ e | inr (inl below) ↦ absurd (p.unused (q.least m below)) | inr (inr above) ↦ absurd (q.unused (p.least n above)) ]

-- one number more that is used
one_more_used : (n : ℕ) (es : ContextEntries) → ((m : ℕ) → m < n → list_any (is_numbered m) es ≡ true) → list_any (is_numbered n) es ≡ true → (m : ℕ) → m < n + 1 → list_any (is_numbered m) es ≡ true
one_more_used n es so_far used = below_more (λ m. list_any (is_numbered m) es ≡ true) n so_far used

-- the search finds it
found_from : (steps n : ℕ) (es : ContextEntries) → ((m : ℕ) → m < n → list_any (is_numbered m) es ≡ true) → length es ≤ n + steps → IsFresh es (unused_from steps n es)
found_from zero n es so_far enough = record {
  unused = λ used. absurd (omega (arith, as_many_entries (n + 1) es (one_more_used n es so_far used)));
  least = so_far;
}
found_from (suc steps) n es so_far enough = go (found_from steps (n + 1) es) (list_any (is_numbered n) es) refl
  where
    go : (((m : ℕ) → m < n + 1 → list_any (is_numbered m) es ≡ true) → length es ≤ n + 1 + steps → IsFresh es (unused_from steps (n + 1) es)) → (b : Bool) → list_any (is_numbered n) es ≡ b → IsFresh es (cond b (unused_from steps (n + 1) es) n)
    go later true used = later (one_more_used n es so_far used) (omega arith)
    go later false unused = record { unused = λ used. absurd (false≢true (sym unused ∙ used)); least = so_far }

pub fresh_number-IsFresh : (es : ContextEntries) → IsFresh es (fresh_number es)
unfolding fresh_number
fresh_number-IsFresh es = found_from (length es) 0 es (λ m below. absurd (omega arith)) (omega arith)

pub fresh_number-from : (es : ContextEntries) (n : ℕ) → IsFresh es n → n ≡ fresh_number es
fresh_number-from es n fresh = fresh_is_unique es n (fresh_number es) fresh (fresh_number-IsFresh es)

-- entries with so many fresh existentials in front
pub with_fresh : ℕ → ContextEntries → ContextEntries
with_fresh zero es = es
with_fresh (suc k) es = Exists (fresh_number (with_fresh k es)) ∷ with_fresh k es

with_fresh-first : (k : ℕ) (es : ContextEntries) → with_fresh k (Exists (fresh_number es) ∷ es) ≡ with_fresh (suc k) es
unfolding with_fresh
with_fresh-first zero es = refl
with_fresh-first (suc k) es = ap (λ (cs : ContextEntries). Exists (fresh_number cs) ∷ cs) (with_fresh-first k es)

fresh_numbers-push : (k : ℕ) (es : ContextEntries) → fresh_numbers (suc k) es ≡ fresh_numbers k es ++ fresh_number (with_fresh k es) ∷ []
unfolding with_fresh
fresh_numbers-push zero es = refl
fresh_numbers-push (suc k) es =
    ap (λ (ns : List ℕ). fresh_number es ∷ ns) (fresh_numbers-push k (Exists (fresh_number es) ∷ es) ∙ ap (λ (cs : ContextEntries). fresh_numbers k (Exists (fresh_number es) ∷ es) ++ fresh_number cs ∷ []) (with_fresh-first k es))

length-with_fresh : (k : ℕ) (es : ContextEntries) → length (with_fresh k es) ≡ length es + k
unfolding with_fresh
length-with_fresh zero es = omega arith
length-with_fresh (suc k) es = omega (arith, length-with_fresh k es)

-- so many numbers were taken, and the next one is sought from here on
pub record Taken (es : ContextEntries) (numbers : List ℕ) (next : ℕ) : Type 0 where
  pub taken : numbers ≡ fresh_numbers (length numbers) es
  pub below : (m : ℕ) → m < next → list_any (is_numbered m) (with_fresh (length numbers) es) ≡ true
  pub above : (m : ℕ) → next ≤ m → list_any (is_numbered m) (with_fresh (length numbers) es) ≡ list_any (is_numbered m) es

pub none_taken : (es : ContextEntries) (next : ℕ) → IsFresh es next → Taken es [] next
unfolding with_fresh
none_taken es next fresh = record { taken = refl; below = fresh.least; above = λ m h. refl }

module _ (es : ContextEntries) (numbers : List ℕ) (next n : ℕ) (h : Taken es numbers next) (from : next ≤ n) (unused : list_any (is_numbered n) es ≡ false) (used : (m : ℕ) → next ≤ m → m < n → list_any (is_numbered m) es ≡ true) where
  fresh_next : IsFresh (with_fresh (length numbers) es) n
  fresh_next = record {
    unused = λ u. absurd (false≢true (sym (h.above n from ∙ unused) ∙ u));
    least = λ m below. elim (cases_lt m next) [ inl earlier ↦ h.below m earlier | inr later ↦ h.above m later ∙ used m later below ];
  }

  pub next_is_small : n ≤ length es + length numbers
  next_is_small = omega (arith, fresh_is_small (with_fresh (length numbers) es) n fresh_next, length-with_fresh (length numbers) es)

  is_next : n ≡ fresh_number (with_fresh (length numbers) es)
  is_next = fresh_number-from (with_fresh (length numbers) es) n fresh_next

  more : length (numbers ++ n ∷ []) ≡ suc (length numbers)
  more = length_push numbers n ∙ add-one (length numbers)

  below_more_taken : (m : ℕ) → m < suc n → list_any (is_numbered m) (with_fresh (suc (length numbers)) es) ≡ true
  unfolding with_fresh
  below_more_taken m below = elim (cases_lt m n) [
    | inl earlier ↦ or_right (eqb (fresh_number (with_fresh (length numbers) es)) m) (list_any (is_numbered m) (with_fresh (length numbers) es)) (fresh_next.least m earlier)
    | inr here ↦ or_left (eqb (fresh_number (with_fresh (length numbers) es)) m) (list_any (is_numbered m) (with_fresh (length numbers) es)) (eq-eqb (fresh_number (with_fresh (length numbers) es)) m (sym is_next ∙ omega arith))
  ]

  above_more_taken : (m : ℕ) → suc n ≤ m → list_any (is_numbered m) (with_fresh (suc (length numbers)) es) ≡ list_any (is_numbered m) es
  unfolding with_fresh
  above_more_taken m above =
      let other : eqb (fresh_number (with_fresh (length numbers) es)) m ≡ false = ne_eqb (fresh_number (with_fresh (length numbers) es)) m (λ same. absurd (omega (arith, is_next))) in
      ap (λ (b : Bool). b || list_any (is_numbered m) (with_fresh (length numbers) es)) other ∙ h.above m (omega arith)

  pub taken_more : Taken es (numbers ++ n ∷ []) (n + 1)
  taken_more = record {
    taken = ap (λ (ns : List ℕ). ns ++ n ∷ []) h.taken ∙ ap (λ (m : ℕ). fresh_numbers (length numbers) es ++ m ∷ []) is_next ∙ sym (fresh_numbers-push (length numbers) es) ∙ ap (λ (k : ℕ). fresh_numbers k es) (sym more);
    below = λ m below. subst (λ (k : ℕ). list_any (is_numbered m) (with_fresh k es) ≡ true) (sym more) (below_more_taken m (omega arith));
    above = λ m above. subst (λ (k : ℕ). list_any (is_numbered m) (with_fresh k es) ≡ list_any (is_numbered m) es) (sym more) (above_more_taken m (omega arith));
  }

-- fresh numbers are new ones
pub fresh_numbers-AreNew : (k : ℕ) (es : ContextEntries) → AreNew (fresh_numbers k es) es
fresh_numbers-AreNew zero es = tt
fresh_numbers-AreNew (suc k) es = (false_from_ne_true (list_any (is_numbered (fresh_number es)) es) (λ used. absurd ((fresh_number-IsFresh es).unused used)), fresh_numbers-AreNew k (Exists (fresh_number es) ∷ es))

-- two fresh numbers
pub second_fresh : (es : ContextEntries) (a b : ℕ) → a ≡ fresh_number es → a + 1 ≤ b → list_any (is_numbered b) es ≡ false → ((m : ℕ) → a + 1 ≤ m → m < b → list_any (is_numbered m) es ≡ true) → a ∷ b ∷ [] ≡ fresh_numbers 2 es
unfolding with_fresh
second_fresh es a b is from unused used =
    let fresh : IsFresh es a = subst (IsFresh es) (sym is) (fresh_number-IsFresh es) in
    let first : Taken es (a ∷ []) (a + 1) = taken_more es [] a a (none_taken es a fresh) (omega arith) (false_from_ne_true (list_any (is_numbered a) es) (λ u. absurd (fresh.unused u))) (λ m h k. absurd (omega arith)) in
    ap (λ (n : ℕ). n ∷ b ∷ []) is ∙ ap (λ (n : ℕ). fresh_number es ∷ n ∷ []) (is_next es (a ∷ []) (a + 1) b first from unused used)

pub first_is_small : (es : ContextEntries) (a : ℕ) → a ≡ fresh_number es → a ≤ length es
first_is_small es a is = fresh_is_small es a (subst (IsFresh es) (sym is) (fresh_number-IsFresh es))

-- in the other order they are new as well
pub pair_new : (es : ContextEntries) (a b : ℕ) → a ∷ b ∷ [] ≡ fresh_numbers 2 es → AreNew (b ∷ a ∷ []) es
pair_new es a b is =
    let h : AreNew (a ∷ b ∷ []) es = subst (λ (ns : List ℕ). AreNew ns es) (sym is) (fresh_numbers-AreNew 2 es) in
    let p = or_parts (eqb a b) (list_any (is_numbered b) es) h.1.0 in
    (p.1, (or_from (eqb b a) (list_any (is_numbered a) es) (ne_eqb b a (λ same. eqb-false a b p.0 (sym same))) h.0, tt))
