-- The path goes back one, within a part.
use Rattle.std.proofs.Common.{◌≡◌, ℕ, ◌<◌, ◌≤◌, ◌+◌, ◌-◌, ◌⊎◌, suc, zero, List, [], ◌∷◌, ◌++◌, Bool, true, false, length, get_or, set, take, refl, sym, ◌∙◌, ap, subst, inl, inr, arith}
use Rattle.std.proofs.lemmas.List.{get_or_default}
use Rattle.std.proofs.lemmas.Bool.{cases_lt, cases_eq}
use Rattle.uc_base.specs.Graph.{row, Edge}
use Rattle.uc_components.specs.Searched.{Comes}
use Rattle.uc_components.specs.Searched.{State, Good, Known, left, without_last}
use Rattle.uc_components.proofs.Places.{len_pop, at_pop, old_place}
use Rattle.uc_components.proofs.Merging.{below_top}

-- each reference of the top of the path was looked at
pub top_known : (g : List (List ℕ)) (s : State) (t i y : ℕ) → Good g s → t + 1 ≡ length s.path
    → length (row g (get_or s.opened (get_or s.path t 0) 0)) ≤ get_or s.nexts t 0 → get_or s.path t 0 ≡ i → Edge g (get_or s.opened i 0) y → Known s i y
top_known g s t i y h te all e edge =
    let P : ℕ → Type 0 = λ n. Edge g (get_or s.opened n 0) y → Known s n y in
    let Q : ℕ → Type 0 = λ z. Known s (get_or s.path t 0) z in
    subst P e (λ ed. subst Q (get_or_default _ ed.0 0 y ed.1 ∙ ed.2) (h.tried t ed.0 (omega arith) (omega (arith, ed.1)))) edge

-- off the path but for its top
pub off_known : (g : List (List ℕ)) (s : State) (t i y : ℕ) → Good g s → t + 1 ≡ length s.path
    → length (row g (get_or s.opened (get_or s.path t 0) 0)) ≤ get_or s.nexts t 0 → i < length s.opened
    → ((j : ℕ) → j < t → get_or s.path j 0 ≡ i → ⊥) → Edge g (get_or s.opened i 0) y → Known s i y
off_known g s t i y h te all il off edge =
    elim (cases_eq (get_or s.path t 0) i) [
      | inl e ↦ top_known g s t i y h te all e edge
      | inr ne ↦ h.done i y il (λ j jl e. elim (cases_lt j t) [
        | inl l ↦ off j l e
        | inr ge ↦ let q : j ≡ t = omega arith in ne (ap (λ x. get_or s.path x 0) (sym q) ∙ e)
      ]) edge
    ]

bounds_path_left : (g : List (List ℕ)) (s : State) (t k0 k : ℕ) → Good g s → t + 1 ≡ length s.path → k0 + 1 ≡ length s.bounds → (get_or s.bounds k0 0 ≡ get_or s.path t 0 → ⊥)
    → k < length s.bounds → (j : ℕ) × (j < length (without_last s.path)) × (get_or (without_last s.path) j 0 ≡ get_or s.bounds k 0)
bounds_path_left g s t k0 k h te ke ne kl =
    let p : (j : ℕ) × (j < length s.path) × (get_or s.path j 0 ≡ get_or s.bounds k 0) = h.bounds_path k kl in
    let lt : length (without_last s.path) ≡ t = omega (arith, len_pop s.path) in
    elim (cases_lt p.0 t) [
      | inl l ↦ let m : p.0 < length (without_last s.path) = omega arith in (p.0, m, at_pop s.path p.0 m ∙ p.2)
      | inr ge ↦
          let e : p.0 ≡ t = omega (arith, p.1) in
          let f : get_or s.path p.0 0 ≡ get_or s.path t 0 = ap (λ x. get_or s.path x 0) e in
          let top : get_or s.bounds k0 0 ≤ get_or s.path t 0 = below_top g s k0 t h te (omega arith) in
          elim (cases_lt k k0) [
            | inl l ↦ let q : get_or s.bounds k 0 < get_or s.bounds k0 0 = h.bounds_up k k0 l (omega arith) in absurd (omega (arith, p.2))
            | inr ge2 ↦ let q : k ≡ k0 = omega arith in let r : get_or s.bounds k 0 ≡ get_or s.bounds k0 0 = ap (λ x. get_or s.bounds x 0) q in absurd (ne (sym r ∙ sym p.2 ∙ f))
          ]
    ]

pub left_good : (g : List (List ℕ)) (s : State) (t k0 : ℕ) → Good g s → t + 1 ≡ length s.path
    → length (row g (get_or s.opened (get_or s.path t 0) 0)) ≤ get_or s.nexts t 0 → k0 + 1 ≡ length s.bounds → (get_or s.bounds k0 0 ≡ get_or s.path t 0 → ⊥) → Good g (left s)
left_good g s t k0 h te all ke ne =
    let lt : length (without_last s.path) ≡ t = omega (arith, len_pop s.path) in
    record {
      seen_len = h.seen_len;
      closed_len = h.closed_len;
      index_len = h.index_len;
      home_len = h.home_len;
      nexts_len = omega (arith, len_pop s.path, len_pop s.nexts, h.nexts_len);
      open_in = h.open_in;
      open_seen = h.open_seen;
      open_index = h.open_index;
      open_free = h.open_free;
      seen_open = h.seen_open;
      closed_seen = h.closed_seen;
      bounds_in = h.bounds_in;
      bounds_up = h.bounds_up;
      bounds_first = h.bounds_first;
      path_in = λ j jl. let e : get_or (without_last s.path) j 0 ≡ get_or s.path j 0 = at_pop s.path j jl in let q : get_or s.path j 0 < length s.opened = h.path_in j (old_place s.path j jl) in omega arith;
      path_up = λ k l kl ll.
          let e : get_or (without_last s.path) k 0 ≡ get_or s.path k 0 = at_pop s.path k (omega arith) in
          let f : get_or (without_last s.path) l 0 ≡ get_or s.path l 0 = at_pop s.path l ll in
          let q : get_or s.path k 0 < get_or s.path l 0 = h.path_up k l kl (old_place s.path l ll) in omega arith;
      bounds_path = λ k kl. bounds_path_left g s t k0 k h te ke ne kl;
      forth = h.forth;
      back = h.back;
      done = λ i y il off ed. off_known g s t i y h te all il (λ j jl e. let m : j < length (without_last s.path) = omega arith in off j m (at_pop s.path j m ∙ e)) ed;
      tried = λ j e jl el.
          let p : get_or (without_last s.path) j 0 ≡ get_or s.path j 0 = at_pop s.path j jl in
          let n : get_or (without_last s.nexts) j 0 ≡ get_or s.nexts j 0 = at_pop s.nexts j (omega (arith, len_pop s.path, len_pop s.nexts, h.nexts_len)) in
          let Q : ℕ → Type 0 = λ x. Known s x (get_or (row g (get_or s.opened x 0)) e 0) in
          subst Q (sym p) (h.tried j e (old_place s.path j jl) (omega arith));
      closed_edges = h.closed_edges;
      closed_together = h.closed_together;
      closed_home = h.closed_home;
      heads_closed = h.heads_closed;
    }
