-- The last two parts are one.
use Rattle.std.proofs.Common.{◌≡◌, ℕ, ◌<◌, ◌≤◌, ◌+◌, ◌-◌, ◌⊎◌, suc, zero, List, [], ◌∷◌, ◌++◌, Bool, true, false, length, get_or, set, take, refl, sym, ◌∙◌, ap, subst, inl, inr, arith}
use Rattle.std.proofs.lemmas.Bool.{cases_lt, cases_eq}
use Rattle.uc_base.specs.Graph.{row, Edge}
use Rattle.uc_components.specs.Searched.{Comes}
use Rattle.uc_components.specs.Searched.{State, Good, Known, merged, without_last}
use Rattle.uc_components.proofs.Paths.{comes_trans, comes_edge, comes_at}
use Rattle.uc_components.proofs.Places.{len_pop, at_pop, old_place}

-- no bound is above the top of the path
pub below_top : (g : List (List ℕ)) (s : State) (k t : ℕ) → Good g s → t + 1 ≡ length s.path → k < length s.bounds → get_or s.bounds k 0 ≤ get_or s.path t 0
below_top g s k t h te kl =
    let j : (j : ℕ) × (j < length s.path) × (get_or s.path j 0 ≡ get_or s.bounds k 0) = h.bounds_path k kl in
    elim (cases_lt j.0 t) [
      | inl l ↦ let q : get_or s.path j.0 0 < get_or s.path t 0 = h.path_up j.0 t l (omega arith) in omega (arith, j.2)
      | inr ge ↦ let e : j.0 ≡ t = omega (arith, j.1) in let q : get_or s.path j.0 0 ≡ get_or s.path t 0 = ap (λ i. get_or s.path i 0) e in omega (arith, j.2)
    ]

-- what stands before the next bound comes to this one
pub to_bound : (g : List (List ℕ)) (s : State) (k i : ℕ) → Good g s → k < length s.bounds → i < length s.opened → (k + 1 < length s.bounds → i < get_or s.bounds (k + 1) 0)
    → Comes g (get_or s.opened i 0) (get_or s.opened (get_or s.bounds k 0) 0)
to_bound g s zero i h kl il next = let b : (0 < length s.bounds) × (get_or s.bounds 0 0 ≡ 0) = h.bounds_first (omega arith) in h.back 0 i kl (omega (arith, b.1)) il next
to_bound g s (suc k) i h kl il next =
    elim (cases_lt i (get_or s.bounds (suc k) 0)) [
      | inl l ↦
          let up : get_or s.bounds k 0 < get_or s.bounds (suc k) 0 = h.bounds_up k (suc k) (omega arith) kl in
          let e : k + 1 ≡ suc k = omega arith in
          let f : get_or s.bounds (k + 1) 0 ≡ get_or s.bounds (suc k) 0 = ap (λ x. get_or s.bounds x 0) e in
          comes_trans g _ _ _ (to_bound g s k i h (omega arith) il (λ m. omega arith))
          (h.forth k (get_or s.bounds (suc k) 0) (omega arith) (omega arith) (h.bounds_in (suc k) kl))
      | inr ge ↦ h.back (suc k) i kl ge il next
    ]

known_merged : (s : State) (i y : ℕ) → Known s i y → Known (merged s) i y
known_merged s i y k = (
  k.0,
  λ fr n nl le.
      let e : get_or (without_last s.bounds) n 0 ≡ get_or s.bounds n 0 = at_pop s.bounds n nl in
      let q : get_or s.bounds n 0 ≤ get_or s.index y 0 = k.1 fr n (old_place s.bounds n nl) (omega arith) in omega arith,
)

back_merged : (g : List (List ℕ)) (s : State) (t y k0 k i : ℕ) → Good g s → t + 1 ≡ length s.path → Edge g (get_or s.opened (get_or s.path t 0) 0) y
    → get_or s.seen y false ≡ true → get_or s.closed y false ≡ false → k0 + 1 ≡ length s.bounds → get_or s.index y 0 < get_or s.bounds k0 0
    → k < k0 → get_or s.bounds k 0 ≤ i → i < length s.opened → (k + 1 < k0 → i < get_or s.bounds (k + 1) 0)
    → Comes g (get_or s.opened i 0) (get_or s.opened (get_or s.bounds k 0) 0)
back_merged g s t y k0 k i h te edge se fr ke low kl le il next =
    elim (cases_lt (k + 1) k0) [
      | inl l ↦ h.back k i (omega arith) le il (λ _. next l)
      | inr ge ↦
          let e : k + 1 ≡ k0 = omega arith in
          let f : get_or s.bounds (k + 1) 0 ≡ get_or s.bounds k0 0 = ap (λ x. get_or s.bounds x 0) e in
          elim (cases_lt i (get_or s.bounds k0 0)) [
            | inl l ↦ h.back k i (omega arith) le il (λ _. omega arith)
            | inr above ↦
                let o : (get_or s.index y 0 < length s.opened) × (get_or s.opened (get_or s.index y 0) 0 ≡ y) = h.seen_open y se fr in
                let one : Comes g (get_or s.opened i 0) (get_or s.opened (get_or s.bounds k0 0) 0) = h.back k0 i (omega arith) above il (λ m. absurd (omega arith)) in
                let two : Comes g (get_or s.opened (get_or s.bounds k0 0) 0) (get_or s.opened (get_or s.path t 0) 0) = h.forth k0 (get_or s.path t 0) (omega arith) (below_top g s k0 t h te (omega arith)) (h.path_in t (omega arith)) in
                let three : Comes g (get_or s.opened (get_or s.path t 0) 0) y = comes_edge g _ y edge in
                let four : Comes g y (get_or s.opened (get_or s.bounds k 0) 0) = comes_at g _ _ _ _ (sym o.1) refl (to_bound g s k (get_or s.index y 0) h (omega arith) o.0 (λ m. omega arith)) in
                comes_trans g _ _ _ one (comes_trans g _ _ _ two (comes_trans g _ _ _ three four))
          ]
    ]

pub merged_good : (g : List (List ℕ)) (s : State) (t y k0 : ℕ) → Good g s → t + 1 ≡ length s.path → Edge g (get_or s.opened (get_or s.path t 0) 0) y
    → get_or s.seen y false ≡ true → get_or s.closed y false ≡ false → k0 + 1 ≡ length s.bounds → get_or s.index y 0 < get_or s.bounds k0 0 → Good g (merged s)
merged_good g s t y k0 h te edge se fr ke low =
    let lb : length (without_last s.bounds) ≡ k0 = omega (arith, len_pop s.bounds) in
    let o : (get_or s.index y 0 < length s.opened) × (get_or s.opened (get_or s.index y 0) 0 ≡ y) = h.seen_open y se fr in
    let b : (0 < length s.bounds) × (get_or s.bounds 0 0 ≡ 0) = h.bounds_first (omega (arith, o.0)) in
    let pos : 0 < k0 = elim (cases_lt 0 k0) [ inl l ↦ l | inr z ↦ let e : k0 ≡ 0 = omega arith in let f : get_or s.bounds k0 0 ≡ get_or s.bounds 0 0 = ap (λ x. get_or s.bounds x 0) e in absurd (omega (arith, b.1)) ] in
    record {
      seen_len = h.seen_len;
      closed_len = h.closed_len;
      index_len = h.index_len;
      home_len = h.home_len;
      nexts_len = h.nexts_len;
      open_in = h.open_in;
      open_seen = h.open_seen;
      open_index = h.open_index;
      open_free = h.open_free;
      seen_open = h.seen_open;
      closed_seen = h.closed_seen;
      bounds_in = λ k kl. let e : get_or (without_last s.bounds) k 0 ≡ get_or s.bounds k 0 = at_pop s.bounds k kl in let q : get_or s.bounds k 0 < length s.opened = h.bounds_in k (old_place s.bounds k kl) in omega arith;
      bounds_up = λ k l kl ll.
          let e : get_or (without_last s.bounds) k 0 ≡ get_or s.bounds k 0 = at_pop s.bounds k (omega arith) in
          let f : get_or (without_last s.bounds) l 0 ≡ get_or s.bounds l 0 = at_pop s.bounds l ll in
          let q : get_or s.bounds k 0 < get_or s.bounds l 0 = h.bounds_up k l kl (old_place s.bounds l ll) in omega arith;
      bounds_first = λ _. (omega arith, at_pop s.bounds 0 (omega arith) ∙ b.1);
      path_in = h.path_in;
      path_up = h.path_up;
      bounds_path = λ k kl. let p : (j : ℕ) × (j < length s.path) × (get_or s.path j 0 ≡ get_or s.bounds k 0) = h.bounds_path k (old_place s.bounds k kl) in (p.0, p.1, p.2 ∙ sym (at_pop s.bounds k kl));
      forth = λ k i kl le il.
          let e : get_or (without_last s.bounds) k 0 ≡ get_or s.bounds k 0 = at_pop s.bounds k kl in
          comes_at g _ _ _ _ (ap (λ x. get_or s.opened x 0) e) refl (h.forth k i (old_place s.bounds k kl) (omega arith) il);
      back = λ k i kl le il next.
          let e : get_or (without_last s.bounds) k 0 ≡ get_or s.bounds k 0 = at_pop s.bounds k kl in
          comes_at g _ _ _ _ refl (ap (λ x. get_or s.opened x 0) e)
          (back_merged g s t y k0 k i h te edge se fr ke low (omega arith) (omega arith) il
          (λ l. let m : k + 1 < length (without_last s.bounds) = omega arith in let f : get_or (without_last s.bounds) (k + 1) 0 ≡ get_or s.bounds (k + 1) 0 = at_pop s.bounds (k + 1) m in let n : i < get_or (without_last s.bounds) (k + 1) 0 = next m in omega arith));
      done = λ i z il off ed. known_merged s i z (h.done i z il off ed);
      tried = λ j e jl el. known_merged s _ _ (h.tried j e jl el);
      closed_edges = h.closed_edges;
      closed_together = h.closed_together;
      closed_home = h.closed_home;
      heads_closed = h.heads_closed;
    }
