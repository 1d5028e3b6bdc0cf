-- Two answers that meet the definition are one.
use Rattle.std.proofs.Common.{◌≡◌, ℕ, ◌<◌, ◌≤◌, ◌⊎◌, suc, zero, List, [], ◌∷◌, ◌++◌, refl, sym, subst, inl, inr, arith}
use Rattle.std.specs.List.{Contains}
use Rattle.uc_base.specs.Graph.{IsAscending, IsComponent, IsNext, IsOrderFrom, OrderIsUnique}

pub head_in : (x : ℕ) (xs : List ℕ) → Contains (x ∷ xs) x
head_in x xs = (0, omega arith, refl)

pub tail_in : (x y : ℕ) (xs : List ℕ) → Contains xs y → Contains (x ∷ xs) y
tail_in x y xs (k, lt, e) = (suc k, omega arith, e)

pub in_cases : (x y : ℕ) (xs : List ℕ) → Contains (x ∷ xs) y → (x ≡ y) ⊎ Contains xs y
in_cases x y xs (zero, lt, e) = inl e
in_cases x y xs (suc k, lt, e) = inr (k, omega arith, e)

-- an ascending list is determined by its members
heads_same : (x y : ℕ) (xs ys : List ℕ) → IsAscending (x ∷ xs) → IsAscending (y ∷ ys)
    → ((z : ℕ) → Contains (x ∷ xs) z → Contains (y ∷ ys) z) → ((z : ℕ) → Contains (y ∷ ys) z → Contains (x ∷ xs) z) → x ≡ y
heads_same x y xs ys ax ay to from =
    elim (in_cases y x ys (to x (head_in x xs))) [
      | inl e ↦ sym e
      | inr h ↦ elim (in_cases x y xs (from y (head_in y ys))) [
        | inl e ↦ e
        | inr i ↦ let p : y < x = ay.0 x h in let q : x < y = ax.0 y i in absurd (omega arith)
      ]
    ]

tails_to : (x y : ℕ) (xs ys : List ℕ) → x ≡ y → IsAscending (x ∷ xs)
    → ((z : ℕ) → Contains (x ∷ xs) z → Contains (y ∷ ys) z) → (z : ℕ) → Contains xs z → Contains ys z
tails_to x y xs ys e ax to z h =
    elim (in_cases y z ys (to z (tail_in x z xs h))) [
      | inl i ↦ let q : x < z = ax.0 z h in absurd (omega arith)
      | inr i ↦ i
    ]

pub same_members : (xs ys : List ℕ) → IsAscending xs → IsAscending ys
    → ((z : ℕ) → Contains xs z → Contains ys z) → ((z : ℕ) → Contains ys z → Contains xs z) → xs ≡ ys
same_members [] [] ax ay to from = refl
same_members [] (y ∷ ys) ax ay to from = let h = from y (head_in y ys) in absurd (omega (arith, h.1))
same_members (x ∷ xs) [] ax ay to from = let h = to x (head_in x xs) in absurd (omega (arith, h.1))
same_members (x ∷ xs) (y ∷ ys) ax ay to from =
    let e : x ≡ y = heads_same x y xs ys ax ay to from in
    let r : xs ≡ ys = same_members xs ys ax.1 ay.1 (tails_to x y xs ys e ax to) (tails_to y x ys xs (sym e) ay from) in
    cc

-- the next component is determined
next_vertex : (g : List (List ℕ)) (placed : List ℕ) (u v : ℕ) (c d : List ℕ) → IsNext g placed u c → IsNext g placed v d → u ≡ v
next_vertex g placed u v c d n m =
    let a : u ≤ v = n.least v m.ready in let b : v ≤ u = m.least u n.ready in omega arith

pub members_along : (g : List (List ℕ)) (u v : ℕ) (c : List ℕ) → u ≡ v → IsComponent g v c → IsComponent g u c
members_along g u v c e h = let P : ℕ → Type 0 = λ x. IsComponent g x c in subst P (sym e) h

next_same : (g : List (List ℕ)) (placed : List ℕ) (u v : ℕ) (c d : List ℕ) → IsNext g placed u c → IsNext g placed v d → c ≡ d
next_same g placed u v c d n m =
    let k : IsComponent g u d = members_along g u v d (next_vertex g placed u v c d n m) m.component in
    same_members c d n.component.ascending k.ascending
    (λ z h. k.complete z (n.component.sound z h)) (λ z h. n.component.complete z (k.sound z h))

order_along : (g : List (List ℕ)) (placed c d : List ℕ) (ds : List (List ℕ)) → c ≡ d → IsOrderFrom g (placed ++ d) ds → IsOrderFrom g (placed ++ c) ds
order_along g placed c d ds e h = let P : List ℕ → Type 0 = λ x. IsOrderFrom g (placed ++ x) ds in subst P (sym e) h

pub order_same : (g : List (List ℕ)) (placed : List ℕ) (cs ds : List (List ℕ)) → IsOrderFrom g placed cs → IsOrderFrom g placed ds → cs ≡ ds
order_same g placed [] [] p q = refl
order_same g placed [] (d ∷ ds) p q = absurd (q.0.1.ready.free (p q.0.0 q.0.1.ready.vertex))
order_same g placed (c ∷ cs) [] p q = absurd (p.0.1.ready.free (q p.0.0 p.0.1.ready.vertex))
order_same g placed (c ∷ cs) (d ∷ ds) p q =
    let e : c ≡ d = next_same g placed p.0.0 q.0.0 c d p.0.1 q.0.1 in
    let r : cs ≡ ds = order_same g (placed ++ c) cs ds p.1 (order_along g placed c d ds e q.1) in
    cc

pub unique : OrderIsUnique
unique g cs ds p q = order_same g [] cs ds p q
