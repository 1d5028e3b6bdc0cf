-- What the search leaves at the end.
use Rattle.std.proofs.Common.{◌≡◌, ℕ, ◌<◌, ◌≤◌, ◌+◌, ◌-◌, ◌⊎◌, suc, zero, List, [], ◌∷◌, ◌++◌, Bool, true, false, length, get_or, map, refl, sym, ◌∙◌, ap, subst, inl, inr, arith}
use Rattle.std.proofs.lemmas.List.{length-map}
use Rattle.uc_base.specs.Graph.{row, Edge, Reaches, Together, InRange}
use Rattle.uc_base.specs.Graph.Reaches.{one, more}
use Rattle.uc_components.specs.Searched.{State, Good, IsSearched, IsHome, flag}
use Rattle.uc_components.proofs.Looks.{all_closed, flag_in}

pub searched_all : (g : List (List ℕ)) (s : State) (n i : ℕ) → Good g s → length s.path ≡ 0 → ((v : ℕ) → v < i → get_or s.seen v false ≡ true) → n ≤ i → n ≡ length g → IsSearched g s
searched_all g s n i h pe seen le ne = record {
  good = h;
  all = λ v lt. all_closed g s v h pe (seen v (omega arith));
}

-- a number never grows along a path
module _ (g : List (List ℕ)) (s : State) (w : IsSearched g s) (range : InRange g) where
  down : {h : List (List ℕ)} {u v : ℕ} → h ≡ g → Reaches h u v → u < length g → (v < length g) × (get_or s.home v 0 ≤ get_or s.home u 0)
  down {u = u} {v = v} e (one ed) lt = let P : List (List ℕ) → Type 0 = λ x. Edge x u v in let f : Edge g u v = subst P e ed in
      (range u v f, (w.good.closed_edges u v (w.all u lt) f).1)
  down {u = u} e (more {v = x} ed p) lt =
      let P : List (List ℕ) → Type 0 = λ y. Edge y u x in
      let f : Edge g u x = subst P e ed in
      let r = down e p (range u x f) in
      let c : (get_or s.closed x false ≡ true) × (get_or s.home x 0 ≤ get_or s.home u 0) = w.good.closed_edges u x (w.all u lt) f in
      (r.0, omega (arith, r.1, c.1))

  same : (u v : ℕ) → u < length g → Together g u v → get_or s.home u 0 ≡ get_or s.home v 0
  same u v lt (inl e) = ap (λ x. get_or s.home x 0) e
  same u v lt (inr p) = let a : (v < length g) × (get_or s.home v 0 ≤ get_or s.home u 0) = down refl p.0 lt in let b : (u < length g) × (get_or s.home u 0 ≤ get_or s.home v 0) = down refl p.1 a.0 in omega (arith, a.1, b.1)

  pub homes : IsHome g s.home (length s.heads)
  homes = record {
    len = w.good.home_len;
    below = λ v lt. w.good.closed_home v (w.all v lt);
    used = λ c lt. let o : (get_or s.closed (get_or s.heads c 0) false ≡ true) × (get_or s.home (get_or s.heads c 0) 0 ≡ c) = w.good.heads_closed c lt in
        (get_or s.heads c 0, (let f : get_or s.heads c 0 < length s.closed = flag_in s.closed (get_or s.heads c 0) o.0 in omega (arith, w.good.closed_len)), o.1);
    sound = λ u v ul vl e. w.good.closed_together u v (w.all u ul) (w.all v vl) e;
    complete = λ u v ul t. same u v ul t;
    edges = λ u v ul ed. (w.good.closed_edges u v (w.all u ul) ed).1;
  }

pub found : (g : List (List ℕ)) (s : State) (n : ℕ) → IsSearched g s → InRange g → n ≡ length s.heads → IsHome g s.home n
found g s n w range e = let P : ℕ → Type 0 = λ x. IsHome g s.home x in subst P (sym e) (homes g s w range)
