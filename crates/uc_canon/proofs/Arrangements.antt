-- Distinct numbers below a count, and their places.
use Rattle.std.proofs.Common.{◌≡◌, ◌≢◌, ◌⊎◌, ℕ, zero, suc, ◌+◌, ◌<◌, ◌≤◌, ◌==◌, false, cond, List, [], ◌∷◌, ◌++◌, length, get_or, refl, sym, ◌∙◌, inl, inr, arith}
use Rattle.std.specs.List.{list_any}
use Rattle.std.proofs.lemmas.Bool.{cases_Bool, cases_eq, cases_lt, cases_order, eq-eqb, ne_eqb, eqb-false, or_parts}
use Rattle.std.proofs.lemmas.List.{length_push, get_or_append_left, get_or_push}
use Rattle.uc_canon.specs.Numbering.{added, reached}
use Rattle.uc_canon.proofs.Reach.{added_held, added_new}

-- ---- so many different values below a bound

-- a function that goes round the value m, which is taken at the last place alone
abbrev avoiding : (ℕ → ℕ) → ℕ → ℕ → ℕ → ℕ
avoiding f m last i = cond (f i == m) (f last) (f i)

avoids : (x m y : ℕ) → ((x ≡ m) × (cond (x == m) y x ≡ y)) ⊎ ((x ≢ m) × (cond (x == m) y x ≡ x))
avoids x m y = elim (cases_eq x m) [ inl e ↦ inl (e, rw (eq-eqb x m e) refl) | inr ne ↦ inr (ne, rw (ne_eqb x m ne) refl) ]

abbrev IsOneToOne : (ℕ → ℕ) → ℕ → Type 0
IsOneToOne f n = (i j : ℕ) → i < n → j < n → f i ≡ f j → i ≡ j

avoiding_one : (f : ℕ → ℕ) (n m : ℕ) → IsOneToOne f (suc n) → IsOneToOne (avoiding f m n) n
avoiding_one f n m one i j p q e =
    elim (avoids (f i) m (f n)) [
      | inl v ↦ elim (avoids (f j) m (f n)) [
        | inl w ↦ one i j (omega arith) (omega arith) (v.0 ∙ sym w.0)
        | inr w ↦ let z : n ≡ j = one n j (omega arith) (omega arith) (sym v.1 ∙ e ∙ w.1) in absurd (omega arith)
      ]
      | inr v ↦ elim (avoids (f j) m (f n)) [
        | inl w ↦ let z : i ≡ n = one i n (omega arith) (omega arith) (sym v.1 ∙ e ∙ w.1) in absurd (omega arith)
        | inr w ↦ one i j (omega arith) (omega arith) (sym v.1 ∙ e ∙ w.1)
      ]
    ]

avoiding_below : (f : ℕ → ℕ) (n m : ℕ) → ((i : ℕ) → i < suc n → f i < suc m) → IsOneToOne f (suc n) → (i : ℕ) → i < n → avoiding f m n i < m
avoiding_below f n m below one i p =
    let a : f i < suc m = below i (omega arith) in
    let b : f n < suc m = below n (omega arith) in
    let ne : f i ≢ f n = λ e. let z : i ≡ n = one i n (omega arith) (omega arith) e in omega arith in
    elim (avoids (f i) m (f n)) [ inl w ↦ omega (arith, w.0, w.1) | inr w ↦ omega (arith, w.0, w.1) ]

pub pigeonhole : (n m : ℕ) (f : ℕ → ℕ) → ((i : ℕ) → i < n → f i < m) → IsOneToOne f n → n ≤ m
pigeonhole zero m f below one = omega arith
pigeonhole (suc n) zero f below one = absurd (omega (arith, below n (omega arith)))
pigeonhole (suc n) (suc m) f below one = omega (arith, pigeonhole n m (avoiding f m n) (avoiding_below f n m below one) (avoiding_one f n m one))

-- ---- distinct numbers

-- no number stands twice
abbrev pub AreDistinct : List ℕ → Type 0
AreDistinct xs = (j k : ℕ) → j < k → k < length xs → get_or xs j 0 ≢ get_or xs k 0

-- a number that the test doesn't find stands nowhere
pub stands_nowhere : (seen : List ℕ) (x k : ℕ) → list_any (λ y. y == x) seen ≡ false → k < length seen → get_or seen k 0 ≢ x
stands_nowhere [] x k e lt = absurd (omega arith)
stands_nowhere (y ∷ seen) x zero e lt = eqb-false y x (or_parts (y == x) (list_any (λ y. y == x) seen) e).0
stands_nowhere (y ∷ seen) x (suc k) e lt = stands_nowhere seen x k (or_parts (y == x) (list_any (λ y. y == x) seen) e).1 (omega arith)

pub distinct_push : (seen : List ℕ) (x : ℕ) → AreDistinct seen → list_any (λ y. y == x) seen ≡ false → AreDistinct (seen ++ x ∷ [])
distinct_push seen x d e = λ j k jk lt.
    let n : length (seen ++ x ∷ []) ≡ length seen + 1 = length_push seen x in
    let before : get_or (seen ++ x ∷ []) j 0 ≡ get_or seen j 0 = get_or_append_left seen (x ∷ []) 0 j (omega arith) in
    elim (cases_lt k (length seen)) [
      | inl l ↦ λ q. d j k jk l (sym before ∙ q ∙ get_or_append_left seen (x ∷ []) 0 k l)
      | inr ge ↦ λ q. stands_nowhere seen x j e (omega arith) (sym before ∙ q ∙ get_or_push seen x 0 k (omega arith))
    ]

pub added_distinct : (seen xs : List ℕ) → AreDistinct seen → AreDistinct (added seen xs)
added_distinct seen [] d = d
added_distinct seen (x ∷ xs) d =
    elim (cases_Bool (list_any (λ y. y == x) seen)) [
      | inl e ↦ rw (added_held seen xs x e) (added_distinct seen xs d)
      | inr e ↦ rw (added_new seen xs x e) (added_distinct (seen ++ x ∷ []) xs (distinct_push seen x d e))
    ]

-- what is reached is distinct
pub reached_distinct : (g : List (List ℕ)) (start k : ℕ) → AreDistinct (reached g start k)
reached_distinct g start zero = λ i j ij lt. absurd (omega arith)
reached_distinct g start (suc k) = added_distinct (reached g start k) _ (reached_distinct g start k)

-- so many distinct numbers are below a count
pub length_distinct : (xs : List ℕ) (count : ℕ) → AreDistinct xs → ((k : ℕ) → k < length xs → get_or xs k 0 < count) → length xs ≤ count
length_distinct xs count d below = pigeonhole (length xs) count (λ k. get_or xs k 0) below
    (λ i j il jl e. elim (cases_order i j) [ inl same ↦ same | inr o ↦ elim o [ inl lt ↦ absurd (d i j lt jl e) | inr gt ↦ absurd (d j i gt il (sym e)) ] ])
