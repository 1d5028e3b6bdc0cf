-- One more reference was looked at.
use Rattle.std.proofs.Common.{◌≡◌, ℕ, ◌<◌, ◌≤◌, ◌+◌, ◌-◌, ◌⊎◌, List, [], ◌∷◌, ◌++◌, Bool, true, false, length, get_or, set, take, refl, sym, ◌∙◌, ap, subst, inl, inr, arith}
use Rattle.std.proofs.lemmas.List.{length-set, get_or-set_same, get_or-set_other}
use Rattle.std.proofs.lemmas.Bool.{cases_lt, cases_eq}
use Rattle.uc_base.specs.Graph.{row, Edge}
use Rattle.uc_components.specs.Searched.{State, Good, Known, counted}
use Rattle.uc_components.proofs.Places.{each_set}

last_known : (g : List (List ℕ)) (s : State) (t e : ℕ) → Good g s → t < length s.path
    → Known s (get_or s.path t 0) (get_or (row g (get_or s.opened (get_or s.path t 0) 0)) (get_or s.nexts t 0) 0)
    → e < get_or s.nexts t 0 + 1 → Known s (get_or s.path t 0) (get_or (row g (get_or s.opened (get_or s.path t 0) 0)) e 0)
last_known g s t e h lt k le =
    elim (cases_lt e (get_or s.nexts t 0)) [
      | inl l ↦ h.tried t e lt l
      | inr ge ↦
          let q : get_or s.nexts t 0 ≡ e = omega arith in
          let P : ℕ → Type 0 = λ x. Known s (get_or s.path t 0) (get_or (row g (get_or s.opened (get_or s.path t 0) 0)) x 0) in
          subst P q k
    ]

pub counted_good : (g : List (List ℕ)) (s : State) (t : ℕ) → Good g s → t < length s.path
    → Known s (get_or s.path t 0) (get_or (row g (get_or s.opened (get_or s.path t 0) 0)) (get_or s.nexts t 0) 0) → Good g (counted s t)
counted_good g s t h lt k = record {
  seen_len = h.seen_len;
  closed_len = h.closed_len;
  index_len = h.index_len;
  home_len = h.home_len;
  nexts_len = length-set s.nexts t (get_or s.nexts t 0 + 1) ∙ h.nexts_len;
  open_in = h.open_in;
  open_seen = h.open_seen;
  open_index = h.open_index;
  open_free = h.open_free;
  seen_open = h.seen_open;
  closed_seen = h.closed_seen;
  bounds_in = h.bounds_in;
  bounds_up = h.bounds_up;
  bounds_first = h.bounds_first;
  path_in = h.path_in;
  path_up = h.path_up;
  bounds_path = h.bounds_path;
  forth = h.forth;
  back = h.back;
  done = h.done;
  tried = λ j e l m.
      let P : ℕ → ℕ → Type 0 = λ i z. i < length s.path → e < z → Known s (get_or s.path i 0) (get_or (row g (get_or s.opened (get_or s.path i 0) 0)) e 0) in
      let n : t < length s.nexts = omega (arith, h.nexts_len) in
      each_set P s.nexts t (get_or s.nexts t 0 + 1) n (λ i ne a b. h.tried i e a b) (λ a b. last_known g s t e h lt k b) j l m;
  closed_edges = h.closed_edges;
  closed_together = h.closed_together;
  closed_home = h.closed_home;
  heads_closed = h.heads_closed;
}
