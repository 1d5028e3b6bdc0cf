-- The components of a part of the numbers are those of the whole that lie in it.
use Rattle.std.proofs.Common.{◌≡◌, ℕ, ◌<◌, ◌≤◌, ◌⊎◌, List, [], ◌∷◌, ◌++◌, length, get_or, refl, sym, ◌∙◌, ap, subst, inl, inr, arith}
use Rattle.std.specs.List.{Contains}
use Rattle.std.proofs.lemmas.Bool.{cases_lt, cases_eq}
use Rattle.std.proofs.lemmas.List.{get_or_default}
use Rattle.std.proofs.lemmas.List.Elements.{Contains-append_cases, Contains-append_left, Contains-append_right, Contains-get_or}
use Rattle.uc_base.specs.Graph.{Edge, Reaches, Together, IsAscending, IsComponent, IsReady, IsNext, IsOrderFrom, IsPart, named, all_named, Kept, PartsAgree}
use Rattle.uc_base.specs.Graph.Reaches.{one, more}
use Rattle.uc_base.specs.Graph.Kept.{none, keep, skip}
use Rattle.uc_base.proofs.GraphOrder.{head_in, tail_in, in_cases, same_members, members_along}

decide : (xs : List ℕ) (x : ℕ) → Contains xs x ⊎ (Contains xs x → ⊥)
decide [] x = inr (λ h. omega (arith, h.1))
decide (y ∷ ys) x = elim (cases_eq y x) [
  | inl e ↦ inl (0, omega arith, e)
  | inr ne ↦ elim (decide ys x) [
    | inl h ↦ inl (tail_in y x ys h)
    | inr n ↦ inr (λ h. elim (in_cases y x ys h) [ inl e ↦ ne e | inr i ↦ n i ])
  ]
]

edge_along : (g : List (List ℕ)) (a b u v : ℕ) → a ≡ u → b ≡ v → Edge g a b → Edge g u v
edge_along g a b u v e f h = let P : ℕ → Type 0 = λ x. Edge g x v in let Q : ℕ → Type 0 = λ x. Edge g a x in subst P e (subst Q f h)

together_along : (g : List (List ℕ)) (a b u v : ℕ) → a ≡ u → b ≡ v → Together g a b → Together g u v
together_along g a b u v e f h = let P : ℕ → Type 0 = λ x. Together g x v in let Q : ℕ → Type 0 = λ x. Together g a x in subst P e (subst Q f h)

contains_along : (xs : List ℕ) (u v : ℕ) → u ≡ v → Contains xs u → Contains xs v
contains_along xs u v e h = let P : ℕ → Type 0 = λ x. Contains xs x in subst P e h

turned : (g : List (List ℕ)) (u v : ℕ) → Together g u v → Together g v u
turned g u v (inl e) = inl (sym e)
turned g u v (inr p) = inr (p.1, p.0)

at_part : (part : List ℕ) (v : ℕ) → Contains part v → (i : ℕ) × (i < length part) × (get_or part i 0 ≡ v)
at_part part v (k, lt, e) = (k, lt, get_or_default part k 0 v lt ∙ e)

at_named : (part d : List ℕ) (v : ℕ) → Contains (named part d) v → (j : ℕ) × Contains d j × (get_or part j 0 ≡ v)
at_named part [] v h = absurd (omega (arith, h.1))
at_named part (i ∷ is) v h = elim (in_cases (get_or part i 0) v (named part is) h) [
  | inl e ↦ (i, head_in i is, e)
  | inr m ↦ let r : (j : ℕ) × Contains is j × (get_or part j 0 ≡ v) = at_named part is v m in (r.0, tail_in i r.0 is r.1, r.2)
]

in_named : (part d : List ℕ) (j v : ℕ) → Contains d j → get_or part j 0 ≡ v → Contains (named part d) v
in_named part [] j v h e = absurd (omega (arith, h.1))
in_named part (i ∷ is) j v h e = elim (in_cases i j is h) [
  | inl f ↦ contains_along (named part (i ∷ is)) (get_or part i 0) v (ap (λ x. get_or part x 0) f ∙ e) (head_in (get_or part i 0) (named part is))
  | inr m ↦ tail_in (get_or part i 0) v (named part is) (in_named part is j v m e)
]

named_ascending : (part d : List ℕ) → ((i j : ℕ) → i < j → j < length part → get_or part i 0 < get_or part j 0) → IsAscending d → ((j : ℕ) → Contains d j → j < length part) → IsAscending (named part d)
named_ascending part [] up a within = tt
named_ascending part (i ∷ is) up a within = (
  λ y h. let r : (j : ℕ) × Contains is j × (get_or part j 0 ≡ y) = at_named part is y h in
      let q : get_or part i 0 < get_or part r.0 0 = up i r.0 (a.0 r.0 r.1) (within r.0 (tail_in i r.0 is r.1)) in omega (arith, r.2),
  named_ascending part is up a.1 (λ j m. within j (tail_in i j is m)),
)

module _ (g h : List (List ℕ)) (part : List ℕ) (w : IsPart g part h) where
  same_place : (i j : ℕ) → i < length part → j < length part → get_or part i 0 ≡ get_or part j 0 → i ≡ j
  same_place i j il jl e = elim (cases_lt i j) [
    | inl l ↦ let q : get_or part i 0 < get_or part j 0 = w.ascending i j l jl in absurd (omega arith)
    | inr ge ↦ elim (cases_lt j i) [
      | inl l ↦ let q : get_or part j 0 < get_or part i 0 = w.ascending j i l il in absurd (omega arith)
      | inr le ↦ omega arith
    ]
  ]

  above : (i j : ℕ) → i < length part → get_or part i 0 ≤ get_or part j 0 → i ≤ j
  above i j il le = elim (cases_lt j i) [
    | inl l ↦ let q : get_or part j 0 < get_or part i 0 = w.ascending j i l il in absurd (omega arith)
    | inr ge ↦ ge
  ]

  -- an edge from the part
  step_in : (i v : ℕ) → i < length part → Edge g (get_or part i 0) v → (j : ℕ) × (j < length part) × (get_or part j 0 ≡ v) × Edge h i j
  step_in i v il ed =
      let r : (j : ℕ) × (j < length part) × (get_or part j 0 ≡ v) = at_part part v (w.closed i v il ed) in
      (r.0, r.1, r.2, w.edges i r.0 il r.1 (edge_along g _ _ _ _ refl (sym r.2) ed))

  reaches_in : {k : List (List ℕ)} {u v : ℕ} (i : ℕ) → k ≡ g → u ≡ get_or part i 0 → i < length part → Reaches k u v → (j : ℕ) × (j < length part) × (get_or part j 0 ≡ v) × Reaches h i j
  reaches_in {u = u} {v = v} i e f il (one ed) =
      let P : List (List ℕ) → Type 0 = λ x. Edge x u v in
      let r : (j : ℕ) × (j < length part) × (get_or part j 0 ≡ v) × Edge h i j = step_in i v il (edge_along g _ _ _ _ f refl (subst P e ed)) in
      (r.0, r.1, r.2, one r.3)
  reaches_in {u = u} {v = v} i e f il (more {v = x} ed p) =
      let P : List (List ℕ) → Type 0 = λ y. Edge y u x in
      let r : (j : ℕ) × (j < length part) × (get_or part j 0 ≡ x) × Edge h i j = step_in i x il (edge_along g _ _ _ _ f refl (subst P e ed)) in
      let q : (j : ℕ) × (j < length part) × (get_or part j 0 ≡ v) × Reaches h r.0 j = reaches_in r.0 e (sym r.2) r.1 p in
      (q.0, q.1, q.2, more r.3 q.3)

  reaches_out : {k : List (List ℕ)} {i j : ℕ} → k ≡ h → Reaches k i j → Reaches g (get_or part i 0) (get_or part j 0)
  reaches_out {i = i} {j = j} e (one ed) = let P : List (List ℕ) → Type 0 = λ x. Edge x i j in one (w.only i j (subst P e ed)).2
  reaches_out {i = i} e (more {v = x} ed p) = let P : List (List ℕ) → Type 0 = λ y. Edge y i x in more (w.only i x (subst P e ed)).2 (reaches_out e p)

  together_in : (i v : ℕ) → i < length part → Together g (get_or part i 0) v → (j : ℕ) × (j < length part) × (get_or part j 0 ≡ v) × Together h i j
  together_in i v il (inl e) = (i, il, e, inl refl)
  together_in i v il (inr p) =
      let r : (j : ℕ) × (j < length part) × (get_or part j 0 ≡ v) × Reaches h i j = reaches_in i refl refl il p.0 in
      let q : (j : ℕ) × (j < length part) × (get_or part j 0 ≡ get_or part i 0) × Reaches h r.0 j = reaches_in r.0 refl (sym r.2) r.1 p.1 in
      let P : ℕ → Type 0 = λ x. Reaches h r.0 x in
      (r.0, r.1, r.2, inr (r.3, subst P (same_place q.0 i q.1 il q.2) q.3))

  together_out : (i j : ℕ) → Together h i j → Together g (get_or part i 0) (get_or part j 0)
  together_out i j (inl e) = inl (ap (λ x. get_or part x 0) e)
  together_out i j (inr p) = inr (reaches_out refl p.0, reaches_out refl p.1)

  together_both : (i j : ℕ) → i < length part → j < length part → Together g (get_or part i 0) (get_or part j 0) → Together h i j
  together_both i j il jl t =
      let r : (k : ℕ) × (k < length part) × (get_or part k 0 ≡ get_or part j 0) × Together h i k = together_in i (get_or part j 0) il t in
      together_along h _ _ _ _ refl (same_place r.0 j r.1 jl r.2) r.3

  record Matches (p q : List ℕ) : Type 0 where
    to : (i : ℕ) → i < length part → Contains p (get_or part i 0) → Contains q i
    from : (i : ℕ) → i < length part → Contains q i → Contains p (get_or part i 0)

  ready_to : (p q : List ℕ) (i : ℕ) → Matches p q → i < length part → IsReady g p (get_or part i 0) → IsReady h q i
  ready_to p q i m il r = record {
    vertex = omega (arith, w.size);
    free = λ c. r.free (m.from i il c);
    referred = λ j x t ed.
        let o : (j < length part) × (x < length part) × Edge g (get_or part j 0) (get_or part x 0) = w.only j x ed in
        elim (r.referred (get_or part j 0) (get_or part x 0) (together_out i j t) o.2) [
          | inl s ↦ inl (together_both i x il o.1 s)
          | inr c ↦ inr (m.to x o.1 c)
        ];
  }

  ready_from : (p q : List ℕ) (i : ℕ) → Matches p q → i < length part → IsReady h q i → IsReady g p (get_or part i 0)
  ready_from p q i m il r = record {
    vertex = w.within i il;
    free = λ c. r.free (m.to i il c);
    referred = λ v x t ed.
        let j : (j : ℕ) × (j < length part) × (get_or part j 0 ≡ v) × Together h i j = together_in i v il t in
        let k : (k : ℕ) × (k < length part) × (get_or part k 0 ≡ x) × Edge h j.0 k = step_in j.0 x j.1 (edge_along g _ _ _ _ (sym j.2) refl ed) in
        elim (r.referred j.0 k.0 j.3 k.3) [
          | inl s ↦ inl (together_along g _ _ _ _ refl k.2 (together_out i k.0 s))
          | inr c ↦ inr (contains_along p _ _ k.2 (m.from k.0 k.1 c))
        ];
  }

  -- one component, in the whole and in the part
  component_same : (i : ℕ) (c d : List ℕ) → i < length part → IsComponent g (get_or part i 0) c → IsComponent h i d → c ≡ named part d
  component_same i c d il a b =
      let within : (j : ℕ) → Contains d j → j < length part = λ j m. let t : Together h i j = b.sound j m in
      let r : (k : ℕ) × (k < length part) × (get_or part k 0 ≡ get_or part j 0) × Together h i k = together_in i (get_or part j 0) il (together_out i j t) in inside i j il t in
      same_members c (named part d) a.ascending (named_ascending part d w.ascending b.ascending within)
      (λ v m. let r : (j : ℕ) × (j < length part) × (get_or part j 0 ≡ v) × Together h i j = together_in i v il (a.sound v m) in in_named part d r.0 v (b.complete r.0 r.3) r.2)
      (λ v m. let r : (j : ℕ) × Contains d j × (get_or part j 0 ≡ v) = at_named part d v m in a.complete v (together_along g _ _ _ _ refl r.2 (together_out i r.0 (b.sound r.0 r.1))))
    where
      last_in : {k : List (List ℕ)} {a b : ℕ} → k ≡ h → Reaches k a b → b < length part
      last_in {a = a} {b = b} e (one ed) = let P : List (List ℕ) → Type 0 = λ x. Edge x a b in (w.only a b (subst P e ed)).1
      last_in e (more ed p) = last_in e p

      inside : (i j : ℕ) → i < length part → Together h i j → j < length part
      inside i j il (inl e) = omega arith
      inside i j il (inr p) = last_in refl p.0

  -- a component that is not in the part
  apart : (u : ℕ) (c : List ℕ) → (Contains part u → ⊥) → IsComponent g u c → (v : ℕ) → Contains c v → Contains part v → ⊥
  apart u c out k v m n =
      let i : (i : ℕ) × (i < length part) × (get_or part i 0 ≡ v) = at_part part v n in
      let r : (j : ℕ) × (j < length part) × (get_or part j 0 ≡ u) × Together h i.0 j = together_in i.0 u i.1 (together_along g _ _ _ _ (sym i.2) refl (turned g u v (k.sound v m))) in
      out (contains_along part _ _ r.2 (Contains-get_or part r.0 0 r.1))

  matches_skip : (p q c : List ℕ) → Matches p q → ((v : ℕ) → Contains c v → Contains part v → ⊥) → Matches (p ++ c) q
  matches_skip p q c m off = record {
    to = λ i il x. elim (Contains-append_cases p c (get_or part i 0) x) [ inl y ↦ m.to i il y | inr y ↦ absurd (off (get_or part i 0) y (Contains-get_or part i 0 il)) ];
    from = λ i il x. Contains-append_left p c (get_or part i 0) (m.from i il x);
  }

  matches_keep : (p q c d : List ℕ) (i0 : ℕ) → i0 < length part → Matches p q → IsComponent g (get_or part i0 0) c → IsComponent h i0 d → Matches (p ++ c) (q ++ d)
  matches_keep p q c d i0 i0l m a b = record {
    to = λ i il x. elim (Contains-append_cases p c (get_or part i 0) x) [
      | inl y ↦ Contains-append_left q d i (m.to i il y)
      | inr y ↦ Contains-append_right q d i (b.complete i (together_both i0 i i0l il (a.sound (get_or part i 0) y)))
    ];
    from = λ i il x. elim (Contains-append_cases q d i x) [
      | inl y ↦ Contains-append_left p c (get_or part i 0) (m.from i il y)
      | inr y ↦ Contains-append_right p c (get_or part i 0) (a.complete (get_or part i 0) (together_out i0 i (b.sound i y)))
    ];
  }

  ready_along : (k : List (List ℕ)) (p : List ℕ) (u v : ℕ) → u ≡ v → IsReady k p u → IsReady k p v
  ready_along k p u v e r = let P : ℕ → Type 0 = λ x. IsReady k p x in subst P e r

  -- the next component of the whole, where it is in the part, is the next one of the part
  next_place : (p q c d : List ℕ) (u x i : ℕ) → Matches p q → i < length part → get_or part i 0 ≡ u → IsNext g p u c → IsNext h q x d → x ≡ i
  next_place p q c d u x i m il e a b =
      let one : x ≤ i = b.least i (ready_to p q i m il (ready_along g p u _ (sym e) a.ready)) in
      let xl : x < length part = omega (arith, b.ready.vertex, w.size) in
      let two : u ≤ get_or part x 0 = a.least (get_or part x 0) (ready_from p q x m xl b.ready) in
      let three : i ≤ x = above i x il (omega arith) in
      omega arith

  in_whole : (u i : ℕ) (c : List ℕ) → i < length part → IsComponent g (get_or part i 0) c → (v : ℕ) → Contains c v → Contains part v
  in_whole u i c il k v m =
      let r : (j : ℕ) × (j < length part) × (get_or part j 0 ≡ v) × Together h i j = together_in i v il (k.sound v m) in
      contains_along part _ _ r.2 (Contains-get_or part r.0 0 r.1)

  keep_next : (cs ds : List (List ℕ)) (p q c d : List ℕ) (u x i : ℕ) → Matches p q → i < length part → get_or part i 0 ≡ u → IsNext g p u c → IsNext h q x d
      → (Matches (p ++ c) (q ++ d) → Kept part cs (all_named part ds)) → Kept part (c ∷ cs) (all_named part (d ∷ ds))
  keep_next cs ds p q c d u x i m il e a b rest =
      let f : x ≡ i = next_place p q c d u x i m il e a b in
      let k : IsComponent g (get_or part i 0) c = members_along g _ u c e a.component in
      let l : IsComponent h i d = members_along h _ x d (sym f) b.component in
      let P : List ℕ → Type 0 = λ y. Kept part (c ∷ cs) (y ∷ all_named part ds) in
      subst P (component_same i c d il k l) (keep (in_whole u i c il k) (rest (matches_keep p q c d i il m k l)))

  agree : (cs ds : List (List ℕ)) (p q : List ℕ) → Matches p q → IsOrderFrom g p cs → IsOrderFrom h q ds → Kept part cs (all_named part ds)
  agree [] [] p q m a b = none
  agree [] (d ∷ ds) p q m a b =
      let u : ℕ = b.0.0 in
      let ul : u < length part = omega (arith, b.0.1.ready.vertex, w.size) in
      absurd (b.0.1.ready.free (m.to u ul (a (get_or part u 0) (w.within u ul))))
  agree (c ∷ cs) [] p q m a b =
      elim (decide part a.0.0) [
        | inl n ↦
            let i : (i : ℕ) × (i < length part) × (get_or part i 0 ≡ a.0.0) = at_part part a.0.0 n in
            let r : IsReady h q i.0 = ready_to p q i.0 m i.1 (ready_along g p a.0.0 _ (sym i.2) a.0.1.ready) in
            absurd (r.free (b i.0 r.vertex))
        | inr out ↦
            let off : (v : ℕ) → Contains c v → Contains part v → ⊥ = apart a.0.0 c out a.0.1.component in
            skip off (agree cs [] (p ++ c) q (matches_skip p q c m off) a.1 b)
      ]
  agree (c ∷ cs) (d ∷ ds) p q m a b =
      elim (decide part a.0.0) [
        | inl n ↦
            let i : (i : ℕ) × (i < length part) × (get_or part i 0 ≡ a.0.0) = at_part part a.0.0 n in
            keep_next cs ds p q c d a.0.0 b.0.0 i.0 m i.1 i.2 a.0.1 b.0.1 (λ m2. agree cs ds (p ++ c) (q ++ d) m2 a.1 b.1)
        | inr out ↦
            let off : (v : ℕ) → Contains c v → Contains part v → ⊥ = apart a.0.0 c out a.0.1.component in
            skip off (agree cs (d ∷ ds) (p ++ c) q (matches_skip p q c m off) a.1 b)
      ]

pub agrees : PartsAgree
agrees g h part cs ds w a b = agree g h part w cs ds [] [] (record { to = λ i il c. absurd (omega (arith, c.1)); from = λ i il c. absurd (omega (arith, c.1)) }) a b
