-- First reach in one component reaches each member, once.
use Rattle.std.proofs.Common.{◌≡◌, ℕ, zero, suc, ◌+◌, ◌<◌, ◌≤◌, ◌==◌, true, List, [], ◌∷◌, ◌++◌, Option, length, get_or, refl, sym, ap, subst, ◌∙◌, inl, inr, arith, append_assoc}
use Rattle.std.specs.List.{list_any, Contains, slice_get}
use Rattle.std.specs.Option.{option_map_or}
use Rattle.std.proofs.lemmas.Bool.{cases_Bool, cases_eq, cases_lt, eqb-true, eq-eqb}
use Rattle.std.proofs.lemmas.Option.{slice_get_past}
use Rattle.std.proofs.lemmas.List.{append-nil, get_or_append_left, get_or_default}
use Rattle.std.proofs.lemmas.List.Elements.{Contains-append_left, Contains-push}
use Rattle.std.proofs.lemmas.List.Folds.{list_any_at}
use Rattle.std.proofs.lemmas.Map.Views.{Contains-from_any}
use Rattle.uc_base.specs.Graph.{row, Edge, InRange, Reaches, Together}
use Rattle.uc_base.specs.Graph.Reaches.{one, more}
use Rattle.uc_base.proofs.GraphOrder.{head_in, in_cases}
use Rattle.uc_canon.specs.Members.{Members, count_of}
use Rattle.uc_canon.specs.Numbering.{rows_of, IsOneComponent, added, reached, order_from, place_in, IsArrangement}
use Rattle.uc_canon.proofs.Places.{place_in-same, place_in-other}
use Rattle.uc_canon.proofs.Reach.{added_held, added_new}
use Rattle.uc_canon.proofs.Orders.{reached_below, reached_more}
use Rattle.uc_canon.proofs.Arrangements.{pigeonhole, reached_distinct, length_distinct}
use Rattle.uc_canon.proofs.LeastText.{length-rows_of}

contains_along : (xs ys : List ℕ) (v : ℕ) → xs ≡ ys → Contains xs v → Contains ys v
contains_along xs ys v e h = let P : List ℕ → Type 0 = λ zs. Contains zs v in subst P e h

-- ---- what is added

pub any_contains : (xs : List ℕ) (x : ℕ) → list_any (λ y. y == x) xs ≡ true → Contains xs x
any_contains xs x e = Contains-from_any {eq = λ z y. y == z} (λ z y h. sym (eqb-true y z h)) x xs e

pub contains_any : (xs : List ℕ) (x : ℕ) → Contains xs x → list_any (λ y. y == x) xs ≡ true
contains_any xs x (k, lt, e) = list_any_at (λ y. y == x) xs k x lt (eq-eqb (get_or xs k x) x e)

added_front : (seen xs : List ℕ) → (ys : List ℕ) × (added seen xs ≡ seen ++ ys)
added_front seen [] = ([], sym (append-nil seen))
added_front seen (x ∷ xs) = elim (cases_Bool (list_any (λ y. y == x) seen)) [
  | inl e ↦ let r = added_front seen xs in (r.0, added_held seen xs x e ∙ r.1)
  | inr e ↦ let r = added_front (seen ++ x ∷ []) xs in (x ∷ r.0, added_new seen xs x e ∙ r.1 ∙ append_assoc seen (x ∷ []) r.0)
]

added_keeps : (seen xs : List ℕ) (v : ℕ) → Contains seen v → Contains (added seen xs) v
added_keeps seen xs v h = let r = added_front seen xs in contains_along (seen ++ r.0) (added seen xs) v (sym r.1) (Contains-append_left seen r.0 v h)

pub added_has : (seen xs : List ℕ) (v : ℕ) → Contains xs v → Contains (added seen xs) v
added_has seen [] v h = absurd (omega (arith, h.1))
added_has seen (x ∷ xs) v h = elim (cases_Bool (list_any (λ y. y == x) seen)) [
  | inl e ↦ contains_along (added seen xs) (added seen (x ∷ xs)) v (sym (added_held seen xs x e)) (elim (in_cases x v xs h) [
    | inl is ↦ let P : ℕ → Type 0 = λ z. Contains (added seen xs) z in subst P is (added_keeps seen xs x (any_contains seen x e))
    | inr m ↦ added_has seen xs v m
  ])
  | inr e ↦ contains_along (added (seen ++ x ∷ []) xs) (added seen (x ∷ xs)) v (sym (added_new seen xs x e)) (elim (in_cases x v xs h) [
    | inl is ↦ let P : ℕ → Type 0 = λ z. Contains (added (seen ++ x ∷ []) xs) z in subst P is (added_keeps (seen ++ x ∷ []) xs x (Contains-push seen x))
    | inr m ↦ added_has (seen ++ x ∷ []) xs v m
  ])
]

-- ---- what is reached, and stays

module _ (g : List (List ℕ)) (start : ℕ) where
  pub reached_front : (k n : ℕ) → k ≤ n → (ys : List ℕ) × (reached g start n ≡ reached g start k ++ ys)
  reached_front k zero le = let e : zero ≡ k = omega arith in ([], ap (reached g start) e ∙ sym (append-nil (reached g start k)))
  reached_front k (suc n) le = elim (cases_lt n k) [
    | inl lt ↦ let e : suc n ≡ k = omega arith in ([], ap (reached g start) e ∙ sym (append-nil (reached g start k)))
    | inr ge ↦
        let r = reached_front k n ge in
        let s = added_front (reached g start n) (option_map_or (row g) (slice_get (reached g start n) n) []) in
        (r.0 ++ s.0, s.1 ∙ ap (λ (xs : List ℕ). xs ++ s.0) r.1 ∙ append_assoc (reached g start k) r.0 s.0)
  ]

  reached_keeps : (k n v : ℕ) → k ≤ n → Contains (reached g start k) v → Contains (reached g start n) v
  reached_keeps k n v le h = let r = reached_front k n le in contains_along (reached g start k ++ r.0) (reached g start n) v (sym r.1) (Contains-append_left (reached g start k) r.0 v h)

  -- where no member has the next number, nothing is reached any more
  pub reached_stuck : (k n : ℕ) → length (reached g start k) ≤ k → k ≤ n → reached g start n ≡ reached g start k
  reached_stuck k zero short le = let e : zero ≡ k = omega arith in ap (reached g start) e
  reached_stuck k (suc n) short le = elim (cases_lt n k) [
    | inl lt ↦ let e : suc n ≡ k = omega arith in ap (reached g start) e
    | inr ge ↦
        let r = reached_stuck k n short ge in
        let none = slice_get_past (reached g start n) n (omega (arith, ap (λ (xs : List ℕ). length xs) r)) in
        ap (λ (o : Option ℕ). added (reached g start n) (option_map_or (row g) o [])) none ∙ r
  ]

  module _ (range : InRange g) (first : start < length g) where
    short : length (reached g start (length g)) ≤ length g
    short = length_distinct (reached g start (length g)) (length g) (reached_distinct g start (length g)) (λ k lt. reached_below g start (length g) range first k 0 lt)

    -- each link of what is reached is reached
    links_reached : (i v : ℕ) → i < length (reached g start (length g)) → Edge g (get_or (reached g start (length g)) i 0) v → Contains (reached g start (length g)) v
    links_reached i v lt edge =
        let below : i < length g = omega (arith, short) in
        let then' : i < length (reached g start i) = elim (cases_lt i (length (reached g start i))) [
          | inl l ↦ l
          | inr ge ↦ absurd (omega (arith, ap (λ (xs : List ℕ). length xs) (reached_stuck i (length g) ge (omega arith))))
        ] in
        let f = reached_front i (length g) (omega arith) in
        let x : ℕ = get_or (reached g start i) i 0 in
        let same : get_or (reached g start (length g)) i 0 ≡ x = ap (λ (xs : List ℕ). get_or xs i 0) f.1 ∙ get_or_append_left (reached g start i) f.0 0 i then' in
        let P : ℕ → Type 0 = λ z. Edge g z v in
        let h : Contains (added (reached g start i) (row g x)) v = added_has (reached g start i) (row g x) v (subst P same edge) in
        let m : added (reached g start i) (row g x) ≡ reached g start (i + 1) = reached_more g start i x (reached g start i) refl then' (get_or_default (reached g start i) i 0 x then') in
        reached_keeps (i + 1) (length g) v (omega arith) (contains_along _ _ v m h)

    member_links : (u v : ℕ) → Contains (reached g start (length g)) u → Edge g u v → Contains (reached g start (length g)) v
    member_links u v h edge =
        let P : ℕ → Type 0 = λ z. Edge g z v in
        links_reached h.0 v h.1 (subst P (sym (get_or_default (reached g start (length g)) h.0 0 u h.1 ∙ h.2)) edge)

    path_reached : {h : List (List ℕ)} {u v : ℕ} → h ≡ g → Reaches h u v → Contains (reached g start (length g)) u → Contains (reached g start (length g)) v
    path_reached {u = u} {v = v} e (one edge) m = let P : List (List ℕ) → Type 0 = λ x. Edge x u v in member_links u v m (subst P e edge)
    path_reached {u = u} e (more {v = x} edge p) m = let P : List (List ℕ) → Type 0 = λ y. Edge y u x in path_reached e p (member_links u x m (subst P e edge))

    start_reached : Contains (reached g start (length g)) start
    start_reached = reached_keeps 0 (length g) start (omega arith) (head_in start [])

    pub together_reached : (v : ℕ) → Together g start v → Contains (reached g start (length g)) v
    together_reached v (inl e) = let P : ℕ → Type 0 = λ z. Contains (reached g start (length g)) z in subst P e start_reached
    together_reached v (inr p) = path_reached refl p.0 start_reached

-- ---- places

-- the place of what stands in a list
pub place_found : (xs : List ℕ) (u : ℕ) → Contains xs u → (place_in xs u < length xs) × (get_or xs (place_in xs u) 0 ≡ u)
place_found [] u h = absurd (omega (arith, h.1))
place_found (x ∷ xs) u h = elim (cases_eq x u) [
  | inl e ↦ rw (place_in-same x u xs e) (omega arith, e)
  | inr ne ↦ elim (in_cases x u xs h) [
    | inl e ↦ absurd (ne e)
    | inr m ↦ let r = place_found xs u m in rw (place_in-other x u xs ne) (omega (arith, r.0), r.1)
  ]
]

-- in one component the order of a start has each member once
pub order_arranged : (m : Members) (start : ℕ) → IsOneComponent m → start < count_of m → IsArrangement (count_of m) (order_from m start)
order_arranged m start whole lt =
    let g = rows_of m in
    let n = length-rows_of m in
    let first : start < length g = omega arith in
    let Q : ℕ → Type 0 = λ k. (v : ℕ) → v < count_of m → Contains (reached g start k) v in
    let has : Q (count_of m) = subst Q n (λ v vl. together_reached g start whole.closed first v (whole.together start v lt vl)) in
    let order = order_from m start in
    let below : (k : ℕ) → k < length order → get_or order k 0 < count_of m = λ k kl. let b = reached_below g start (count_of m) whole.closed first k 0 kl in omega (arith, b) in
    let distinct = reached_distinct g start (count_of m) in
    let most : length order ≤ count_of m = length_distinct order (count_of m) distinct below in
    let least : count_of m ≤ length order = pigeonhole (count_of m) (length order) (place_in order) (λ u ul. (place_found order u (has u ul)).0)
    (λ u v ul vl e. sym (place_found order u (has u ul)).1 ∙ ap (λ k. get_or order k 0) e ∙ (place_found order v (has v vl)).1) in
    record { size = omega arith; below = below; distinct = distinct }
