-- Rows after one more item.
use Rattle.std.proofs.Common.{◌≡◌, ℕ, ◌<◌, ◌≤◌, ◌+◌, ◌⊎◌, suc, zero, List, [], ◌∷◌, ◌++◌, length, get_or, set, map, refl, sym, ◌∙◌, ap, subst, inl, inr, arith, length-append, Vec}
use Rattle.std.specs.declared.alloc.Global.{Global}
use Rattle.std.specs.List.{Contains}
use Rattle.std.proofs.lemmas.Bool.{cases_lt, cases_eq}
use Rattle.std.proofs.lemmas.List.{length-map, length-set, get_or-map, get_or-set_same, get_or-set_other, map-set}
use Rattle.std.proofs.lemmas.List.Elements.{Contains-append_cases, Contains-append_left, Contains-append_right}
use Rattle.uc_base.specs.Graph.{row, Edge}
use Rattle.uc_components.specs.Rows.{lists, pushed}

-- a write through an index, as an equation of lists
pub push_lists : {X : Type 0} (xs : List (Vec X Global)) (at : ℕ) (item : X) (r s : Vec X Global) → at < length xs → s ≡ get_or xs at s → r.items ≡ s.items ++ item ∷ []
    → map (λ (x : Vec X Global). x.items) (set xs at r) ≡ pushed (map (λ (x : Vec X Global). x.items) xs) at item
push_lists {X} xs at item r s lt e f =
    let items : Vec X Global → List X = λ x. x.items in
    let g : get_or (map items xs) at [] ≡ s.items = get_or-map items xs at s [] lt ∙ ap items (sym e) in
    map-set items xs at r ∙ ap (λ y. set (map items xs) at y) (f ∙ ap (λ y. y ++ item ∷ []) (sym g))

-- a row more that is empty
pub empty_more : {X : Type 0} (xs : List (Vec X Global)) (v : Vec X Global) → v.items ≡ [] → ((at : ℕ) → get_or (map (λ (x : Vec X Global). x.items) xs) at [] ≡ [])
    → (at : ℕ) → get_or (map (λ (x : Vec X Global). x.items) (xs ++ v ∷ [])) at [] ≡ []
empty_more [] v e old zero = e
empty_more [] v e old (suc at) = refl
empty_more (x ∷ xs) v e old zero = old zero
empty_more (x ∷ xs) v e old (suc at) = empty_more xs v e (λ i. old (suc i)) at

pub length_more : {X : Type 0} (xs : List (Vec X Global)) (v : Vec X Global) (n : ℕ) → length (map (λ (x : Vec X Global). x.items) xs) ≡ n → length (map (λ (x : Vec X Global). x.items) (xs ++ v ∷ [])) ≡ n + 1
length_more {X} xs v n e = omega (arith, length-map (xs ++ v ∷ []) (λ (x : Vec X Global). x.items), length-map xs (λ (x : Vec X Global). x.items), length-append xs (v ∷ []))

module _ (rows : List (List ℕ)) (at item : ℕ) (lt : at < length rows) where
  pub row_same : row (pushed rows at item) at ≡ row rows at ++ item ∷ []
  row_same = get_or-set_same rows at (row rows at ++ item ∷ []) [] lt

  pub row_other : (k : ℕ) → (k ≡ at → ⊥) → row (pushed rows at item) k ≡ row rows k
  row_other k ne = get_or-set_other rows at k (row rows at ++ item ∷ []) [] ne

  pub edge_new : Edge (pushed rows at item) at item
  edge_new = let P : List ℕ → Type 0 = λ xs. Contains xs item in subst P (sym row_same) (Contains-append_right (row rows at) (item ∷ []) item (0, omega arith, refl))

  pub edge_keeps : (c d : ℕ) → Edge rows c d → Edge (pushed rows at item) c d
  edge_keeps c d h = elim (cases_eq c at) [
    | inl e ↦
        let P : List ℕ → Type 0 = λ xs. Contains xs d in
        let Q : ℕ → Type 0 = λ k. Edge rows k d in
        let R : ℕ → Type 0 = λ k. Edge (pushed rows at item) k d in
        subst R (sym e) (subst P (sym row_same) (Contains-append_left (row rows at) (item ∷ []) d (subst Q e h)))
    | inr ne ↦ let P : List ℕ → Type 0 = λ xs. Contains xs d in subst P (sym (row_other c ne)) h
  ]

  single : (d : ℕ) → Contains (item ∷ []) d → d ≡ item
  single d (zero, lt, e) = sym e
  single d (suc k, lt, e) = absurd (omega arith)

  pub edge_cases : (c d : ℕ) → Edge (pushed rows at item) c d → Edge rows c d ⊎ ((c ≡ at) × (d ≡ item))
  edge_cases c d h = elim (cases_eq c at) [
    | inl e ↦
        let P : List ℕ → Type 0 = λ xs. Contains xs d in
        let Q : ℕ → Type 0 = λ k. Edge rows k d in
        let R : ℕ → Type 0 = λ k. Edge (pushed rows at item) k d in
        elim (Contains-append_cases (row rows at) (item ∷ []) d (subst P row_same (subst R e h))) [
          | inl o ↦ inl (subst Q (sym e) o)
          | inr n ↦ inr (e, single d n)
        ]
    | inr ne ↦ let P : List ℕ → Type 0 = λ xs. Contains xs d in inl (subst P (row_other c ne) h)
  ]
