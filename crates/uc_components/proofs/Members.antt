-- Members of components, gathered in order; and sets of numbers in order.
use Rattle.std.proofs.Common.{◌≡◌, ℕ, ◌<◌, ◌≤◌, ◌+◌, ◌⊎◌, suc, zero, List, [], ◌∷◌, ◌++◌, length, get_or, refl, sym, ◌∙◌, ap, subst, inl, inr, arith}
use Rattle.std.specs.List.{Contains}
use Rattle.std.proofs.lemmas.Bool.{cases_lt, cases_eq}
use Rattle.std.proofs.lemmas.List.Elements.{Contains-append_cases, Contains-append_left, Contains-append_right}
use Rattle.uc_base.specs.Graph.{row, Edge, IsAscending}
use Rattle.uc_components.specs.Rows.{pushed}
use Rattle.uc_components.specs.Order.{IsMembers}
use Rattle.uc_components.proofs.Pushed.{row_same, row_other, edge_new, edge_keeps, edge_cases}

pub head_in : (x : ℕ) (xs : List ℕ) → Contains (x ∷ xs) x
head_in x xs = (0, omega arith, refl)

pub tail_in : (x y : ℕ) (xs : List ℕ) → Contains xs y → Contains (x ∷ xs) y
tail_in x y xs (k, lt, e) = (suc k, omega arith, e)

pub in_cases : (x y : ℕ) (xs : List ℕ) → Contains (x ∷ xs) y → (x ≡ y) ⊎ Contains xs y
in_cases x y xs (zero, lt, e) = inl e
in_cases x y xs (suc k, lt, e) = inr (k, omega arith, e)

pub none_in : (x : ℕ) → Contains [] x → ⊥
none_in x h = omega (arith, h.1)

-- a greater one at the end of an ascending list
pub ascending_more : (xs : List ℕ) (n : ℕ) → IsAscending xs → ((x : ℕ) → Contains xs x → x < n) → IsAscending (xs ++ n ∷ [])
ascending_more [] n a b = (λ y h. absurd (none_in y h), tt)
ascending_more (x ∷ xs) n a b = (
  λ y h. elim (Contains-append_cases xs (n ∷ []) y h) [
    | inl i ↦ a.0 y i
    | inr i ↦ elim (in_cases n y [] i) [ inl e ↦ let q : x < n = b x (head_in x xs) in omega arith | inr o ↦ absurd (none_in y o) ]
  ],
  ascending_more xs n a.1 (λ y h. b y (tail_in x y xs h)),
)

-- the first of an ascending list is its least
pub first_least : (xs : List ℕ) (x : ℕ) → IsAscending xs → Contains xs x → get_or xs 0 0 ≤ x
first_least [] x a h = absurd (none_in x h)
first_least (y ∷ ys) x a h = elim (in_cases y x ys h) [ inl e ↦ omega arith | inr i ↦ let q : y < x = a.0 x i in omega arith ]

pub first_in : (xs : List ℕ) → 0 < length xs → Contains xs (get_or xs 0 0)
first_in [] lt = absurd (omega arith)
first_in (x ∷ xs) lt = head_in x xs

pub filled_by : (xs : List ℕ) (x : ℕ) → Contains xs x → 0 < length xs
filled_by xs x h = omega (arith, h.1)

-- the members so far: those below i
pub record IsGathered (home : List ℕ) (count i : ℕ) (parts : List (List ℕ)) : Type 0 where
  pub len : length parts ≡ count
  pub ascending : (c : ℕ) → IsAscending (row parts c)
  pub sound : (c v : ℕ) → Edge parts c v → (v < i) × (get_or home v 0 ≡ c)
  pub complete : (v : ℕ) → v < i → Edge parts (get_or home v 0) v

pub gathered_none : (home : List ℕ) (count : ℕ) (parts : List (List ℕ)) → length parts ≡ count → ((c : ℕ) → row parts c ≡ []) → IsGathered home count 0 parts
gathered_none home count parts e all = record {
  len = e;
  ascending = λ c. let P : List ℕ → Type 0 = λ xs. IsAscending xs in subst P (sym (all c)) tt;
  sound = λ c v h. let P : List ℕ → Type 0 = λ xs. Contains xs v in absurd (none_in v (subst P (all c) h));
  complete = λ v lt. absurd (omega arith);
}

edge_at : (g : List (List ℕ)) (a b u v : ℕ) → a ≡ u → b ≡ v → Edge g a b → Edge g u v
edge_at g a b u v e f h = let P : ℕ → Type 0 = λ x. Edge g x v in let Q : ℕ → Type 0 = λ x. Edge g a x in subst P e (subst Q f h)

pub gathered_more : (home : List ℕ) (count i : ℕ) (parts : List (List ℕ)) → get_or home i 0 < count → IsGathered home count i parts → length (pushed parts (get_or home i 0) i) ≡ count → IsGathered home count (i + 1) (pushed parts (get_or home i 0) i)
gathered_more home count i parts lt h le =
    let al : get_or home i 0 < length parts = omega (arith, h.len) in
    record {
      len = le;
      ascending = λ c. elim (cases_eq c (get_or home i 0)) [
        | inl e ↦
            let P : List ℕ → Type 0 = λ xs. IsAscending xs in
            let Q : ℕ → Type 0 = λ k. IsAscending (row (pushed parts (get_or home i 0) i) k) in
            subst Q (sym e) (subst P (sym (row_same parts (get_or home i 0) i al)) (ascending_more (row parts (get_or home i 0)) i (h.ascending (get_or home i 0)) (λ x m. (h.sound (get_or home i 0) x m).0)))
        | inr ne ↦ let P : List ℕ → Type 0 = λ xs. IsAscending xs in subst P (sym (row_other parts (get_or home i 0) i al c ne)) (h.ascending c)
      ];
      sound = λ c v ed. elim (edge_cases parts (get_or home i 0) i al c v ed) [
        | inl o ↦ let q : (v < i) × (get_or home v 0 ≡ c) = h.sound c v o in (omega (arith, q.0), q.1)
        | inr p ↦ (omega (arith, p.1), ap (λ x. get_or home x 0) p.1 ∙ sym p.0)
      ];
      complete = λ v vl. elim (cases_lt v i) [
        | inl l ↦ edge_keeps parts (get_or home i 0) i al (get_or home v 0) v (h.complete v l)
        | inr ge ↦ let e : i ≡ v = omega arith in edge_at (pushed parts (get_or home i 0) i) (get_or home i 0) i (get_or home v 0) v (ap (λ x. get_or home x 0) e) e (edge_new parts (get_or home i 0) i al)
      ];
    }

pub gathered_all : (home : List ℕ) (count n : ℕ) (parts : List (List ℕ)) → length home ≤ n → n ≤ length home → IsGathered home count n parts → (c : ℕ) → c < count → IsMembers home c (row parts c)
gathered_all home count n parts le ge h c cl = record {
  ascending = h.ascending c;
  sound = λ v m. let q : (v < n) × (get_or home v 0 ≡ c) = h.sound c v m in (omega (arith, q.0), q.1);
  complete = λ v vl e. edge_at parts (get_or home v 0) v c v e refl (h.complete v (omega arith));
}
