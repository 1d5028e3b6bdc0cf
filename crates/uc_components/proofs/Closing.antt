-- The last part is closed as a component.
use Rattle.std.proofs.Common.{◌≡◌, ℕ, ◌<◌, ◌≤◌, ◌+◌, ◌-◌, ◌⊎◌, suc, zero, List, [], ◌∷◌, ◌++◌, Bool, true, false, length, get_or, set, take, refl, sym, ◌∙◌, ap, subst, inl, inr, arith}
use Rattle.std.proofs.lemmas.Bool.{cases_lt, cases_eq}
use Rattle.std.proofs.lemmas.List.{get_or-take, length-take-le, get_or-set_same, get_or-set_other, length-set}
use Rattle.uc_base.specs.Graph.{row, Edge, Together}
use Rattle.uc_components.specs.Searched.{Comes}
use Rattle.uc_components.specs.Searched.{State, Good, Known, Closes, shut, without_last}
use Rattle.uc_components.proofs.Paths.{comes_trans, comes_edge, comes_at, together}
use Rattle.uc_components.proofs.Places.{len_pop, at_pop, old_place, len_push, each_push}
use Rattle.uc_components.proofs.Leaving.{off_known}

pub bool_cases : (b : Bool) → (b ≡ true) ⊎ (b ≡ false)
bool_cases true = inl refl
bool_cases false = inr refl

-- nothing is closed yet, and one vertex more
pub closes_none : (s : State) (from c : ℕ) → Closes s from from c s.closed s.home
closes_none s from c = record {
  closed_len = refl;
  home_len = refl;
  inside = λ i le lt. absurd (omega arith);
  outside = λ v off. (refl, refl);
}

pub closes_more : (s : State) (from i c : ℕ) (closed : List Bool) (home : List ℕ) → Closes s from i c closed home → from ≤ i
    → get_or s.opened i 0 < length closed → get_or s.opened i 0 < length home
    → Closes s from (i + 1) c (set closed (get_or s.opened i 0) true) (set home (get_or s.opened i 0) c)
closes_more s from i c closed home h le cl hl = record {
  closed_len = length-set closed (get_or s.opened i 0) true ∙ h.closed_len;
  home_len = length-set home (get_or s.opened i 0) c ∙ h.home_len;
  inside = λ j a b. elim (cases_eq (get_or s.opened j 0) (get_or s.opened i 0)) [
    | inl e ↦ let P : ℕ → Type 0 = λ v. (get_or (set closed (get_or s.opened i 0) true) v false ≡ true) × (get_or (set home (get_or s.opened i 0) c) v 0 ≡ c) in
        subst P (sym e) (get_or-set_same closed (get_or s.opened i 0) true false cl, get_or-set_same home (get_or s.opened i 0) c 0 hl)
    | inr ne ↦ elim (cases_lt j i) [
      | inl l ↦ let q : (get_or closed (get_or s.opened j 0) false ≡ true) × (get_or home (get_or s.opened j 0) 0 ≡ c) = h.inside j a l in
          (get_or-set_other closed (get_or s.opened i 0) (get_or s.opened j 0) true false ne ∙ q.0, get_or-set_other home (get_or s.opened i 0) (get_or s.opened j 0) c 0 ne ∙ q.1)
      | inr ge ↦ let e : j ≡ i = omega arith in absurd (ne (ap (λ x. get_or s.opened x 0) e))
    ]
  ];
  outside = λ v off.
      let ne : v ≡ get_or s.opened i 0 → ⊥ = λ e. off i le (omega arith) (sym e) in
      let q : (get_or closed v false ≡ get_or s.closed v false) × (get_or home v 0 ≡ get_or s.home v 0) = h.outside v (λ j a b e. off j a (omega arith) e) in
      (get_or-set_other closed (get_or s.opened i 0) v true false ne ∙ q.0, get_or-set_other home (get_or s.opened i 0) v c 0 ne ∙ q.1);
}

-- v is closed now, or nothing changed at it
abbrev Inside : State → ℕ → List Bool → List ℕ → ℕ → Type 0
Inside s from closed home v = (i : ℕ) × (from ≤ i) × (i < length s.opened) × (get_or s.opened i 0 ≡ v) × (get_or closed v false ≡ true) × (get_or home v 0 ≡ length s.heads)

abbrev Outside : State → ℕ → List Bool → List ℕ → ℕ → Type 0
Outside s from closed home v = ((i : ℕ) → from ≤ i → i < length s.opened → get_or s.opened i 0 ≡ v → ⊥) × (get_or closed v false ≡ get_or s.closed v false) × (get_or home v 0 ≡ get_or s.home v 0)

inside_at : (s : State) (from : ℕ) (closed : List Bool) (home : List ℕ) (i v : ℕ) → Closes s from (length s.opened) (length s.heads) closed home
    → from ≤ i → i < length s.opened → get_or s.opened i 0 ≡ v → Inside s from closed home v
inside_at s from closed home i v h a b e =
    let P : ℕ → Type 0 = λ x. (get_or closed x false ≡ true) × (get_or home x 0 ≡ length s.heads) in
    let q : (get_or closed v false ≡ true) × (get_or home v 0 ≡ length s.heads) = subst P e (h.inside i a b) in
    (i, a, b, e, q.0, q.1)

outside_at : (s : State) (from : ℕ) (closed : List Bool) (home : List ℕ) (v : ℕ) → Closes s from (length s.opened) (length s.heads) closed home
    → ((i : ℕ) → from ≤ i → i < length s.opened → get_or s.opened i 0 ≡ v → ⊥) → Outside s from closed home v
outside_at s from closed home v h off = let q : (get_or closed v false ≡ get_or s.closed v false) × (get_or home v 0 ≡ get_or s.home v 0) = h.outside v off in (off, q.0, q.1)

-- a closed vertex is not open
closed_off : (g : List (List ℕ)) (s : State) (from v : ℕ) → Good g s → get_or s.closed v false ≡ true → (i : ℕ) → from ≤ i → i < length s.opened → get_or s.opened i 0 ≡ v → ⊥
closed_off g s from v h c i a b e =
    let q : get_or s.closed (get_or s.opened i 0) false ≡ false = h.open_free i b in
    let r : get_or s.closed (get_or s.opened i 0) false ≡ get_or s.closed v false = ap (λ x. get_or s.closed x false) e in cc

-- a vertex before the part is not in it
low_off : (g : List (List ℕ)) (s : State) (from k : ℕ) → Good g s → k < from → k < length s.opened → (i : ℕ) → from ≤ i → i < length s.opened → get_or s.opened i 0 ≡ get_or s.opened k 0 → ⊥
low_off g s from k h kf kl i a b e =
    let p : get_or s.index (get_or s.opened i 0) 0 ≡ i = h.open_index i b in
    let q : get_or s.index (get_or s.opened k 0) 0 ≡ k = h.open_index k kl in
    let r : get_or s.index (get_or s.opened i 0) 0 ≡ get_or s.index (get_or s.opened k 0) 0 = ap (λ x. get_or s.index x 0) e in omega arith

cases : (g : List (List ℕ)) (s : State) (from : ℕ) (closed : List Bool) (home : List ℕ) (v : ℕ) → Good g s → Closes s from (length s.opened) (length s.heads) closed home
    → Inside s from closed home v ⊎ Outside s from closed home v
cases g s from closed home v h c =
    elim (bool_cases (get_or s.closed v false)) [
      | inl shut ↦ inr (outside_at s from closed home v c (closed_off g s from v h shut))
      | inr free ↦ elim (bool_cases (get_or s.seen v false)) [
        | inr un ↦ inr (outside_at s from closed home v c (λ i a b e.
            let q : get_or s.seen (get_or s.opened i 0) false ≡ true = h.open_seen i b in
            let r : get_or s.seen (get_or s.opened i 0) false ≡ get_or s.seen v false = ap (λ x. get_or s.seen x false) e in cc))
        | inl se ↦
            let o : (get_or s.index v 0 < length s.opened) × (get_or s.opened (get_or s.index v 0) 0 ≡ v) = h.seen_open v se free in
            elim (cases_lt (get_or s.index v 0) from) [
              | inr ge ↦ inl (inside_at s from closed home (get_or s.index v 0) v c ge o.0 o.1)
              | inl l ↦ inr (outside_at s from closed home v c (λ i a b e. low_off g s from (get_or s.index v 0) h l o.0 i a b (e ∙ sym o.1)))
            ]
      ]
    ]

-- what is given of the part that is closed
pub record Shuts (g : List (List ℕ)) (s : State) (t k0 from : ℕ) (closed : List Bool) (home : List ℕ) : Type 0 where
  pub good : Good g s
  pub top : t + 1 ≡ length s.path
  pub all : length (row g (get_or s.opened (get_or s.path t 0) 0)) ≤ get_or s.nexts t 0
  pub last : k0 + 1 ≡ length s.bounds
  pub bound : get_or s.bounds k0 0 ≡ from
  pub path : get_or s.path t 0 ≡ from
  pub closes : Closes s from (length s.opened) (length s.heads) closed home

part_known : (g : List (List ℕ)) (s : State) (t k0 from : ℕ) (closed : List Bool) (home : List ℕ) (i y : ℕ) → Shuts g s t k0 from closed home
    → from ≤ i → i < length s.opened → Edge g (get_or s.opened i 0) y → Known s i y
part_known g s t k0 from closed home i y w le il edge =
    off_known g s t i y w.good w.top w.all il (λ j jt e. let q : get_or s.path j 0 < get_or s.path t 0 = w.good.path_up j t jt (omega (arith, w.top)) in omega (arith, w.path)) edge

from_in : (g : List (List ℕ)) (s : State) (t k0 from : ℕ) (closed : List Bool) (home : List ℕ) → Shuts g s t k0 from closed home → from < length s.opened
from_in g s t k0 from closed home w = let q : get_or s.bounds k0 0 < length s.opened = w.good.bounds_in k0 (omega (arith, w.last)) in omega (arith, w.bound)

seen_open_shut : (g : List (List ℕ)) (s : State) (t k0 from : ℕ) (closed : List Bool) (home : List ℕ) (v : ℕ) → Shuts g s t k0 from closed home
    → get_or s.seen v false ≡ true → get_or closed v false ≡ false → (get_or s.index v 0 < length (take from s.opened)) × (get_or (take from s.opened) (get_or s.index v 0) 0 ≡ v)
seen_open_shut g s t k0 from closed home v w se fr =
    elim (cases g s from closed home v w.good w.closes) [
      | inl p ↦ let q : get_or closed v false ≡ true = p.4 in cc
      | inr p ↦
          let o : (get_or s.index v 0 < length s.opened) × (get_or s.opened (get_or s.index v 0) 0 ≡ v) = w.good.seen_open v se (sym p.1 ∙ fr) in
          elim (cases_lt (get_or s.index v 0) from) [
            | inl l ↦ (omega (arith, length-take-le from s.opened (omega (arith, from_in g s t k0 from closed home w))), get_or-take from s.opened (get_or s.index v 0) 0 l ∙ o.1)
            | inr ge ↦ absurd (p.0 (get_or s.index v 0) ge o.0 o.1)
          ]
    ]

known_shut : (g : List (List ℕ)) (s : State) (t k0 from : ℕ) (closed : List Bool) (home : List ℕ) (i y : ℕ) → Shuts g s t k0 from closed home → Known s i y → Known (shut s from closed home) i y
known_shut g s t k0 from closed home i y w k = (
  k.0,
  λ fr n nl le.
      elim (cases g s from closed home y w.good w.closes) [
        | inl p ↦ let q : get_or closed y false ≡ true = p.4 in cc
        | inr p ↦
            let e : get_or (without_last s.bounds) n 0 ≡ get_or s.bounds n 0 = at_pop s.bounds n nl in
            let q : get_or s.bounds n 0 ≤ get_or s.index y 0 = k.1 (sym p.1 ∙ fr) n (old_place s.bounds n nl) (omega arith) in omega arith
      ],
)

edges_shut : (g : List (List ℕ)) (s : State) (t k0 from : ℕ) (closed : List Bool) (home : List ℕ) (v y : ℕ) → Shuts g s t k0 from closed home
    → get_or closed v false ≡ true → Edge g v y → (get_or closed y false ≡ true) × (get_or home y 0 ≤ get_or home v 0)
edges_shut g s t k0 from closed home v y w cl edge =
    elim (cases g s from closed home v w.good w.closes) [
      | inl p ↦
          let P : ℕ → Type 0 = λ x. Edge g x y in
          let k : Known s p.0 y = part_known g s t k0 from closed home p.0 y w p.1 p.2 (subst P (sym p.3) edge) in
          elim (cases g s from closed home y w.good w.closes) [
            | inl q ↦ (q.4, omega (arith, p.5, q.5))
            | inr q ↦ elim (bool_cases (get_or s.closed y false)) [
              | inl c ↦ let r : get_or s.home y 0 < length s.heads = w.good.closed_home y c in (q.1 ∙ c, omega (arith, p.5, q.2))
              | inr f ↦
                  let o : (get_or s.index y 0 < length s.opened) × (get_or s.opened (get_or s.index y 0) 0 ≡ y) = w.good.seen_open y k.0 f in
                  let r : get_or s.bounds k0 0 ≤ get_or s.index y 0 = k.1 f k0 (omega (arith, w.last)) (omega (arith, p.1, w.bound)) in
                  absurd (q.0 (get_or s.index y 0) (omega (arith, w.bound)) o.0 o.1)
            ]
          ]
      | inr p ↦
          let c : (get_or s.closed y false ≡ true) × (get_or s.home y 0 ≤ get_or s.home v 0) = w.good.closed_edges v y (sym p.1 ∙ cl) edge in
          let q : Outside s from closed home y = outside_at s from closed home y w.closes (closed_off g s from y w.good c.0) in
          (q.1 ∙ c.0, omega (arith, p.2, q.2, c.1))
    ]

part_comes : (g : List (List ℕ)) (s : State) (t k0 from : ℕ) (closed : List Bool) (home : List ℕ) (i : ℕ) → Shuts g s t k0 from closed home → from ≤ i → i < length s.opened
    → Comes g (get_or s.opened i 0) (get_or s.opened from 0) × Comes g (get_or s.opened from 0) (get_or s.opened i 0)
part_comes g s t k0 from closed home i w le il =
    let e : get_or s.opened from 0 ≡ get_or s.opened (get_or s.bounds k0 0) 0 = ap (λ x. get_or s.opened x 0) (sym w.bound) in (
      comes_at g _ _ _ _ refl e (w.good.back k0 i (omega (arith, w.last)) (omega (arith, w.bound)) il (λ m. absurd (omega (arith, w.last)))),
      comes_at g _ _ _ _ e refl (w.good.forth k0 i (omega (arith, w.last)) (omega (arith, w.bound)) il),
    )

part_together : (g : List (List ℕ)) (s : State) (t k0 from : ℕ) (closed : List Bool) (home : List ℕ) (i j u v : ℕ) → Shuts g s t k0 from closed home
    → from ≤ i → i < length s.opened → from ≤ j → j < length s.opened → get_or s.opened i 0 ≡ u → get_or s.opened j 0 ≡ v → Together g u v
part_together g s t k0 from closed home i j u v w a b c d e f =
    let p : Comes g (get_or s.opened i 0) (get_or s.opened from 0) × Comes g (get_or s.opened from 0) (get_or s.opened i 0) = part_comes g s t k0 from closed home i w a b in
    let q : Comes g (get_or s.opened j 0) (get_or s.opened from 0) × Comes g (get_or s.opened from 0) (get_or s.opened j 0) = part_comes g s t k0 from closed home j w c d in
    together g u v (comes_at g _ _ _ _ (sym e) (sym f) (comes_trans g _ _ _ p.0 q.1)) (comes_at g _ _ _ _ (sym f) (sym e) (comes_trans g _ _ _ q.0 p.1))

together_shut : (g : List (List ℕ)) (s : State) (t k0 from : ℕ) (closed : List Bool) (home : List ℕ) (u v : ℕ) → Shuts g s t k0 from closed home
    → get_or closed u false ≡ true → get_or closed v false ≡ true → get_or home u 0 ≡ get_or home v 0 → Together g u v
together_shut g s t k0 from closed home u v w cu cv e =
    elim (cases g s from closed home u w.good w.closes) [
      | inl p ↦ elim (cases g s from closed home v w.good w.closes) [
        | inl q ↦ part_together g s t k0 from closed home p.0 q.0 u v w p.1 p.2 q.1 q.2 p.3 q.3
        | inr q ↦ let r : get_or s.home v 0 < length s.heads = w.good.closed_home v (sym q.1 ∙ cv) in absurd (omega (arith, p.5, q.2))
      ]
      | inr p ↦ elim (cases g s from closed home v w.good w.closes) [
        | inl q ↦ let r : get_or s.home u 0 < length s.heads = w.good.closed_home u (sym p.1 ∙ cu) in absurd (omega (arith, q.5, p.2))
        | inr q ↦ w.good.closed_together u v (sym p.1 ∙ cu) (sym q.1 ∙ cv) (sym p.2 ∙ e ∙ q.2)
      ]
    ]

bounds_path_shut : (g : List (List ℕ)) (s : State) (t k0 from : ℕ) (closed : List Bool) (home : List ℕ) (k : ℕ) → Shuts g s t k0 from closed home
    → k < k0 → (j : ℕ) × (j < length (without_last s.path)) × (get_or (without_last s.path) j 0 ≡ get_or s.bounds k 0)
bounds_path_shut g s t k0 from closed home k w kl =
    let p : (j : ℕ) × (j < length s.path) × (get_or s.path j 0 ≡ get_or s.bounds k 0) = w.good.bounds_path k (omega (arith, w.last)) in
    let lt : length (without_last s.path) ≡ t = omega (arith, len_pop s.path, w.top) in
    let up : get_or s.bounds k 0 < get_or s.bounds k0 0 = w.good.bounds_up k k0 kl (omega (arith, w.last)) in
    elim (cases_lt p.0 t) [
      | inl l ↦ let m : p.0 < length (without_last s.path) = omega arith in (p.0, m, at_pop s.path p.0 m ∙ p.2)
      | inr ge ↦
          let e : p.0 ≡ t = omega (arith, p.1, w.top) in
          let f : get_or s.path p.0 0 ≡ get_or s.path t 0 = ap (λ x. get_or s.path x 0) e in
          absurd (omega (arith, p.2, w.path, w.bound))
    ]

pub shut_good : (g : List (List ℕ)) (s : State) (t k0 from : ℕ) (closed : List Bool) (home : List ℕ) → Shuts g s t k0 from closed home → Good g (shut s from closed home)
shut_good g s t k0 from closed home w =
    let h : Good g s = w.good in
    let fi : from < length s.opened = from_in g s t k0 from closed home w in
    let lt : length (without_last s.path) ≡ t = omega (arith, len_pop s.path, w.top) in
    let ln : length (without_last s.nexts) ≡ t = omega (arith, len_pop s.nexts, w.top, h.nexts_len) in
    let lb : length (without_last s.bounds) ≡ k0 = omega (arith, len_pop s.bounds, w.last) in
    let lo : length (take from s.opened) ≡ from = length-take-le from s.opened (omega arith) in
    let lh : length (s.heads ++ get_or s.opened from 0 ∷ []) ≡ length s.heads + 1 = len_push s.heads (get_or s.opened from 0) in
    record {
      seen_len = h.seen_len;
      closed_len = w.closes.closed_len ∙ h.closed_len;
      index_len = h.index_len;
      home_len = w.closes.home_len ∙ h.home_len;
      nexts_len = omega arith;
      open_in = λ i il. let P : ℕ → Type 0 = λ x. x < length g in subst P (sym (get_or-take from s.opened i 0 (omega arith))) (h.open_in i (omega arith));
      open_seen = λ i il. let P : ℕ → Type 0 = λ x. get_or s.seen x false ≡ true in subst P (sym (get_or-take from s.opened i 0 (omega arith))) (h.open_seen i (omega arith));
      open_index = λ i il. let P : ℕ → Type 0 = λ x. get_or s.index x 0 ≡ i in subst P (sym (get_or-take from s.opened i 0 (omega arith))) (h.open_index i (omega arith));
      open_free = λ i il. let P : ℕ → Type 0 = λ x. get_or closed x false ≡ false in subst P (sym (get_or-take from s.opened i 0 (omega arith)))
          (let o : Outside s from closed home (get_or s.opened i 0) = outside_at s from closed home (get_or s.opened i 0) w.closes (low_off g s from i h (omega arith) (omega arith)) in o.1 ∙ h.open_free i (omega arith));
      seen_open = λ v se fr. seen_open_shut g s t k0 from closed home v w se fr;
      closed_seen = λ v c. elim (cases g s from closed home v h w.closes) [
        | inl p ↦ let P : ℕ → Type 0 = λ x. get_or s.seen x false ≡ true in subst P p.3 (h.open_seen p.0 p.2)
        | inr p ↦ h.closed_seen v (sym p.1 ∙ c)
      ];
      bounds_in = λ k kl.
          let e : get_or (without_last s.bounds) k 0 ≡ get_or s.bounds k 0 = at_pop s.bounds k kl in
          let q : get_or s.bounds k 0 < get_or s.bounds k0 0 = h.bounds_up k k0 (omega arith) (omega (arith, w.last)) in omega (arith, w.bound);
      bounds_up = λ k l kl ll.
          let e : get_or (without_last s.bounds) k 0 ≡ get_or s.bounds k 0 = at_pop s.bounds k (omega arith) in
          let f : get_or (without_last s.bounds) l 0 ≡ get_or s.bounds l 0 = at_pop s.bounds l ll in
          let q : get_or s.bounds k 0 < get_or s.bounds l 0 = h.bounds_up k l kl (old_place s.bounds l ll) in omega arith;
      bounds_first = λ ol.
          let b : (0 < length s.bounds) × (get_or s.bounds 0 0 ≡ 0) = h.bounds_first (omega arith) in
          let pos : 0 < k0 = elim (cases_lt 0 k0) [ inl l ↦ l | inr z ↦ let e : k0 ≡ 0 = omega arith in let f : get_or s.bounds k0 0 ≡ get_or s.bounds 0 0 = ap (λ x. get_or s.bounds x 0) e in absurd (omega (arith, b.1, w.bound)) ] in
          (omega arith, at_pop s.bounds 0 (omega arith) ∙ b.1);
      path_in = λ j jl. let e : get_or (without_last s.path) j 0 ≡ get_or s.path j 0 = at_pop s.path j jl in let q : get_or s.path j 0 < get_or s.path t 0 = h.path_up j t (omega arith) (omega (arith, w.top)) in omega (arith, w.path);
      path_up = λ k l kl ll.
          let e : get_or (without_last s.path) k 0 ≡ get_or s.path k 0 = at_pop s.path k (omega arith) in
          let f : get_or (without_last s.path) l 0 ≡ get_or s.path l 0 = at_pop s.path l ll in
          let q : get_or s.path k 0 < get_or s.path l 0 = h.path_up k l kl (old_place s.path l ll) in omega arith;
      bounds_path = λ k kl. let p : (j : ℕ) × (j < length (without_last s.path)) × (get_or (without_last s.path) j 0 ≡ get_or s.bounds k 0) = bounds_path_shut g s t k0 from closed home k w (omega arith) in (p.0, p.1, p.2 ∙ sym (at_pop s.bounds k kl));
      forth = λ k i kl le il.
          let e : get_or (without_last s.bounds) k 0 ≡ get_or s.bounds k 0 = at_pop s.bounds k kl in
          let q : get_or s.bounds k 0 < get_or s.bounds k0 0 = h.bounds_up k k0 (omega arith) (omega (arith, w.last)) in
          comes_at g _ _ _ _ (ap (λ x. get_or (take from s.opened) x 0) e ∙ get_or-take from s.opened (get_or s.bounds k 0) 0 (omega (arith, w.bound))) (get_or-take from s.opened i 0 (omega arith)) (h.forth k i (old_place s.bounds k kl) (omega arith) (omega arith));
      back = λ k i kl le il next.
          let e : get_or (without_last s.bounds) k 0 ≡ get_or s.bounds k 0 = at_pop s.bounds k kl in
          let q : get_or s.bounds k 0 < get_or s.bounds k0 0 = h.bounds_up k k0 (omega arith) (omega (arith, w.last)) in
          comes_at g _ _ _ _ (get_or-take from s.opened i 0 (omega arith)) (ap (λ x. get_or (take from s.opened) x 0) e ∙ get_or-take from s.opened (get_or s.bounds k 0) 0 (omega (arith, w.bound)))
          (h.back k i (old_place s.bounds k kl) (omega arith) (omega arith) (λ m. elim (cases_lt (k + 1) k0) [
            | inl l ↦ let n : k + 1 < length (without_last s.bounds) = omega arith in let r : i < get_or (without_last s.bounds) (k + 1) 0 = next n in let f : get_or (without_last s.bounds) (k + 1) 0 ≡ get_or s.bounds (k + 1) 0 = at_pop s.bounds (k + 1) n in omega arith
            | inr ge ↦ let r : k + 1 ≡ k0 = omega arith in let f : get_or s.bounds (k + 1) 0 ≡ get_or s.bounds k0 0 = ap (λ x. get_or s.bounds x 0) r in omega (arith, w.bound)
          ]));
      done = λ i y il off ed.
          let P : ℕ → Type 0 = λ x. Edge g x y in
          known_shut g s t k0 from closed home i y w (off_known g s t i y h w.top w.all (omega arith)
          (λ j jl e. let m : j < length (without_last s.path) = omega arith in off j m (at_pop s.path j m ∙ e)) (subst P (get_or-take from s.opened i 0 (omega arith)) ed));
      tried = λ j e jl el.
          let p : get_or (without_last s.path) j 0 ≡ get_or s.path j 0 = at_pop s.path j jl in
          let n : get_or (without_last s.nexts) j 0 ≡ get_or s.nexts j 0 = at_pop s.nexts j (omega arith) in
          let q : get_or s.path j 0 < get_or s.path t 0 = h.path_up j t (omega arith) (omega (arith, w.top)) in
          let f : get_or (take from s.opened) (get_or s.path j 0) 0 ≡ get_or s.opened (get_or s.path j 0) 0 = get_or-take from s.opened (get_or s.path j 0) 0 (omega (arith, w.path)) in
          let Q : ℕ → Type 0 = λ x. Known (shut s from closed home) x (get_or (row g (get_or (take from s.opened) x 0)) e 0) in
          let R : ℕ → Type 0 = λ x. Known (shut s from closed home) (get_or s.path j 0) (get_or (row g x) e 0) in
          subst Q (sym p) (subst R (sym f) (known_shut g s t k0 from closed home _ _ w (h.tried j e (old_place s.path j jl) (omega arith))));
      closed_edges = λ v y c ed. edges_shut g s t k0 from closed home v y w c ed;
      closed_together = λ u v a b e. together_shut g s t k0 from closed home u v w a b e;
      closed_home = λ v c. elim (cases g s from closed home v h w.closes) [
        | inl p ↦ omega (arith, p.5)
        | inr p ↦ let r : get_or s.home v 0 < length s.heads = h.closed_home v (sym p.1 ∙ c) in omega (arith, p.2)
      ];
      heads_closed = each_push (λ (c : ℕ) (z : ℕ). (get_or closed z false ≡ true) × (get_or home z 0 ≡ c)) s.heads (get_or s.opened from 0)
          (λ c cl.
          let o : (get_or s.closed (get_or s.heads c 0) false ≡ true) × (get_or s.home (get_or s.heads c 0) 0 ≡ c) = h.heads_closed c cl in
          let p : Outside s from closed home (get_or s.heads c 0) = outside_at s from closed home (get_or s.heads c 0) w.closes (closed_off g s from (get_or s.heads c 0) h o.0) in
          (p.1 ∙ o.0, p.2 ∙ o.1))
          (w.closes.inside from (omega arith) fi);
    }
