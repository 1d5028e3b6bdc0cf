-- What is reached from a start, and its table: a start begun, a member more.
use Rattle.std.proofs.Common.{◌≡◌, ℕ, suc, ◌+◌, ◌<◌, ◌≤◌, ◌==◌, true, false, List, [], ◌∷◌, ◌++◌, length, get_or, set, replicate, refl, sym, ap, subst, ◌∙◌, inl, inr, arith}
use Rattle.std.specs.List.{list_any}
use Rattle.std.proofs.lemmas.Bool.{cases_eq, cases_lt, eq-eqb, ne_eqb, eqb-false, eqb-true, or_parts, or_cases}
use Rattle.std.proofs.lemmas.List.{length-set, length-replicate, length_push, get_or-replicate, get_or-set_same, get_or-set_other, get_or_append_left, get_or_push}
use Rattle.uc_tree.specs.declared.target.Target.{Target}
use Rattle.uc_tree.specs.declared.target.Target.TheVariants.{Own}
use Rattle.uc_canon.specs.Numbering.{place_in}
use Rattle.uc_canon.specs.Starts.{IsTable, AreReached}
use Rattle.uc_canon.proofs.Arrangements.{distinct_push, length_distinct}
use Rattle.uc_canon.proofs.Places.{place_in-same, place_in-other}
use Rattle.uc_canon.proofs.Reach.{any_same, any_other}

-- ---- places

-- the place of what is added
pub place_in_push : (order : List ℕ) (x : ℕ) → list_any (λ y. y == x) order ≡ false → place_in (order ++ x ∷ []) x ≡ length order
place_in_push [] x e = place_in-same x x [] refl
place_in_push (y ∷ order) x e =
    let parts = or_parts (y == x) (list_any (λ z. z == x) order) e in
    place_in-other y x (order ++ x ∷ []) (eqb-false y x parts.0) ∙ ap suc (place_in_push order x parts.1)

-- the place of what stands in the front of a list
pub place_in_front : (order more : List ℕ) (u : ℕ) → list_any (λ y. y == u) order ≡ true → place_in (order ++ more) u ≡ place_in order u
place_in_front [] more u e = absurd cc
place_in_front (y ∷ order) more u e = elim (cases_eq y u) [
  | inl is ↦ place_in-same y u (order ++ more) is ∙ sym (place_in-same y u order is)
  | inr ne ↦ elim (or_cases (y == u) (list_any (λ z. z == u) order) e) [
    | inl a ↦ absurd (ne (eqb-true y u a))
    | inr b ↦ place_in-other y u (order ++ more) ne ∙ ap suc (place_in_front order more u b) ∙ sym (place_in-other y u order ne)
  ]
]

-- ---- the table

pub table_new : (count : ℕ) → IsTable count 0 (replicate count 0) (replicate count (Own 0))
table_new count = record {
  starts_size = length-replicate count 0;
  numbers_size = length-replicate count (Own 0);
  reached_before = λ u lt. omega (arith, get_or-replicate {A = ℕ} count u 0 0 lt);
}

-- nothing is reached from the next start yet
pub reached_none : (count start : ℕ) (starts : List ℕ) (numbers : List Target) → IsTable count start starts numbers → AreReached count (start + 1) starts numbers []
reached_none count start starts numbers t = record {
  table = record { starts_size = t.starts_size; numbers_size = t.numbers_size; reached_before = λ u lt. omega (arith, t.reached_before u lt) };
  below = λ k lt. absurd (omega arith);
  distinct = λ j k jk lt. absurd (omega arith);
  marked = λ u lt. ne_eqb (get_or starts u 0) (start + 1) (λ e. omega (arith, t.reached_before u lt, e));
  placed = λ u lt e. absurd cc;
}

-- so many members at most are reached
pub few_reached : (count start : ℕ) (starts : List ℕ) (numbers : List Target) (order : List ℕ) → AreReached count start starts numbers order → length order ≤ count
few_reached count start starts numbers order r = length_distinct order count r.distinct r.below

-- a member more is reached
pub reached_push : (count start : ℕ) (starts : List ℕ) (numbers : List Target) (order : List ℕ) (x : ℕ) → x < count → list_any (λ y. y == x) order ≡ false
    → AreReached count start starts numbers order → AreReached count start (set starts x start) (set numbers x (Own (length order))) (order ++ x ∷ [])
reached_push count start starts numbers order x lt fresh r = record {
  table = record {
    starts_size = length-set starts x start ∙ r.table.starts_size;
    numbers_size = length-set numbers x (Own (length order)) ∙ r.table.numbers_size;
    reached_before = λ u ul. elim (cases_eq x u) [
      | inl e ↦ let P : ℕ → Type 0 = λ z. get_or (set starts x start) z 0 ≡ start in omega (arith, subst P e (get_or-set_same starts x start 0 (omega (arith, r.table.starts_size))))
      | inr ne ↦ omega (arith, get_or-set_other starts x u start 0 (λ e. ne (sym e)), r.table.reached_before u ul)
    ];
  };
  below = λ k kl. elim (cases_lt k (length order)) [
    | inl l ↦ omega (arith, get_or_append_left order (x ∷ []) 0 k l, r.below k l)
    | inr ge ↦ omega (arith, get_or_push order x 0 k (omega (arith, length_push order x)))
  ];
  distinct = distinct_push order x r.distinct fresh;
  marked = λ u ul. elim (cases_eq x u) [
    | inl e ↦ let P : ℕ → Type 0 = λ z. get_or (set starts x start) z 0 ≡ start in
        let s : get_or (set starts x start) u 0 ≡ start = subst P e (get_or-set_same starts x start 0 (omega (arith, r.table.starts_size))) in
        eq-eqb (get_or (set starts x start) u 0) start s ∙ sym (any_same order x u e)
    | inr ne ↦ ap (λ z. z == start) (get_or-set_other starts x u start 0 (λ e. ne (sym e))) ∙ r.marked u ul ∙ sym (any_other order x u ne)
  ];
  placed = λ u ul there. elim (cases_eq x u) [
    | inl e ↦ let P : ℕ → Type 0 = λ z. get_or (set numbers x (Own (length order))) z (Own 0) ≡ Own (place_in (order ++ x ∷ []) z) in
        subst P e (get_or-set_same numbers x (Own (length order)) (Own 0) (omega (arith, r.table.numbers_size)) ∙ ap Own (sym (place_in_push order x fresh)))
    | inr ne ↦ let held : list_any (λ y. y == u) order ≡ true = sym (any_other order x u ne) ∙ there in
        get_or-set_other numbers x u (Own (length order)) (Own 0) (λ e. ne (sym e)) ∙ r.placed u ul held ∙ ap Own (sym (place_in_front order (x ∷ []) u held))
  ];
}
