-- The reference at hand is looked at.
use Rattle.std.proofs.Common.{◌≡◌, ℕ, ◌<◌, ◌≤◌, ◌+◌, ◌-◌, ◌⊎◌, suc, zero, List, [], ◌∷◌, ◌++◌, Bool, true, false, length, get_or, set, take, refl, sym, ◌∙◌, ap, subst, inl, inr, arith}
use Rattle.std.proofs.lemmas.List.Elements.{Contains-get_or}
use Rattle.std.proofs.lemmas.Bool.{cases_lt, cases_eq}
use Rattle.std.proofs.lemmas.List.{get_or_append_left, get_or_push, get_or-set_same, get_or-set_other, length-set, get_or_past, get_or_read}
use Rattle.uc_base.specs.Graph.{row, Edge, InRange}
use Rattle.uc_components.specs.Searched.{Comes}
use Rattle.uc_components.specs.Searched.{State, Good, Known, entered, merged, without_last, Looking, Looked, Merging, target, Leaving, left, counted, Closes, shut, Grows}
use Rattle.uc_components.proofs.Places.{len_push, each_push, len_pop, at_pop}
use Rattle.uc_components.proofs.Entering.{entered_good, seen_stays}
use Rattle.uc_components.proofs.Merging.{merged_good, to_bound}
use Rattle.uc_components.proofs.Counting.{counted_good}
use Rattle.uc_components.proofs.Leaving.{left_good}
use Rattle.uc_components.proofs.Closing.{Shuts, shut_good, bool_cases as flag_cases}

pub flag_in : (xs : List Bool) (v : ℕ) → get_or xs v false ≡ true → v < length xs
flag_in xs v e = elim (cases_lt v (length xs)) [ inl l ↦ l | inr ge ↦ let q : get_or xs v false ≡ false = get_or_past xs v false ge in cc ]

pub edge_at_hand : (g : List (List ℕ)) (s : State) (t : ℕ) → Looking g s t → Edge g (get_or s.opened (get_or s.path t 0) 0) (target g s t)
edge_at_hand g s t h = Contains-get_or (row g (get_or s.opened (get_or s.path t 0) 0)) (get_or s.nexts t 0) 0 h.next

pub place_in : (g : List (List ℕ)) (s : State) (t : ℕ) → Good g s → t < length s.path → get_or s.opened (get_or s.path t 0) 0 < length g
place_in g s t h lt = h.open_in (get_or s.path t 0) (h.path_in t lt)

pub bounds_some : (g : List (List ℕ)) (s : State) (t : ℕ) → Good g s → t < length s.path → 0 < length s.bounds
bounds_some g s t h lt = let q : get_or s.path t 0 < length s.opened = h.path_in t lt in let b : (0 < length s.bounds) × (get_or s.bounds 0 0 ≡ 0) = h.bounds_first (omega arith) in b.0

pub merging_step : (g : List (List ℕ)) (s : State) (t k0 : ℕ) → Merging g s t → k0 + 1 ≡ length s.bounds → get_or s.index (target g s t) 0 < get_or s.bounds k0 0 → Merging g (merged s) t
merging_step g s t k0 h ke low = record {
  looking = record { good = merged_good g s t (target g s t) k0 h.looking.good h.looking.top (edge_at_hand g s t h.looking) h.seen h.free ke low; top = h.looking.top; next = h.looking.next };
  seen = h.seen;
  free = h.free;
}

pub merged_looked : (g : List (List ℕ)) (s : State) (t k0 : ℕ) → Merging g s t → k0 + 1 ≡ length s.bounds → get_or s.bounds k0 0 ≤ get_or s.index (target g s t) 0 → Looked g s t
merged_looked g s t k0 h ke le = record {
  good = h.looking.good;
  top = omega (arith, h.looking.top);
  next = h.looking.next;
  known = (
    h.seen,
    λ fr k kl bl. elim (cases_lt k k0) [
      | inl l ↦ let q : get_or s.bounds k 0 < get_or s.bounds k0 0 = h.looking.good.bounds_up k k0 l (omega arith) in omega arith
      | inr ge ↦ let e : k ≡ k0 = omega arith in let f : get_or s.bounds k 0 ≡ get_or s.bounds k0 0 = ap (λ x. get_or s.bounds x 0) e in omega arith
    ],
  );
}

pub closed_looked : (g : List (List ℕ)) (s : State) (t : ℕ) → Looking g s t → get_or s.closed (target g s t) false ≡ true → Looked g s t
closed_looked g s t h c = record {
  good = h.good;
  top = omega (arith, h.top);
  next = h.next;
  known = (h.good.closed_seen (target g s t) c, λ fr k kl bl. cc);
}

pub entered_looked : (g : List (List ℕ)) (s : State) (t : ℕ) → InRange g → Looking g s t → get_or s.seen (target g s t) false ≡ false → Looked g (entered s (target g s t)) t
entered_looked g s t range h un =
    let v : ℕ = target g s t in
    let lt : v < length g = range (get_or s.opened (get_or s.path t 0) 0) v (edge_at_hand g s t h) in
    let tl : t < length s.path = omega (arith, h.top) in
    let m : ℕ = length s.opened in
    let p : get_or (s.path ++ m ∷ []) t 0 ≡ get_or s.path t 0 = get_or_append_left s.path (m ∷ []) 0 t tl in
    let o : get_or (s.opened ++ v ∷ []) (get_or s.path t 0) 0 ≡ get_or s.opened (get_or s.path t 0) 0 = get_or_append_left s.opened (v ∷ []) 0 (get_or s.path t 0) (h.good.path_in t tl) in
    let n : get_or (s.nexts ++ 0 ∷ []) t 0 ≡ get_or s.nexts t 0 = get_or_append_left s.nexts (0 ∷ []) 0 t (omega (arith, h.good.nexts_len)) in
    let P : ℕ → ℕ → Type 0 = λ x y. Known (entered s v) (get_or (s.path ++ m ∷ []) t 0) (get_or (row g (get_or (s.opened ++ v ∷ []) x 0)) y 0) in
    let q : get_or (s.opened ++ v ∷ []) (get_or (s.path ++ m ∷ []) t 0) 0 ≡ get_or s.opened (get_or s.path t 0) 0 = ap (λ x. get_or (s.opened ++ v ∷ []) x 0) p ∙ o in
    let e : target g (entered s v) t ≡ v = ap (λ x. get_or (row g x) (get_or (s.nexts ++ 0 ∷ []) t 0) 0) q ∙ ap (λ x. get_or (row g (get_or s.opened (get_or s.path t 0) 0)) x 0) n in
    let i : get_or (set s.index v m) v 0 ≡ m = get_or-set_same s.index v m 0 (omega (arith, h.good.index_len)) in
    let K : ℕ → Type 0 = λ y. Known (entered s v) (get_or (s.path ++ m ∷ []) t 0) y in
    let N : ℕ → ℕ → Type 0 = λ x y. y < length (row g x) in
    record {
      good = entered_good g s v h.good lt un (λ u ue. let f : u ≡ t = omega (arith, h.top) in let E : ℕ → Type 0 = λ x. Edge g (get_or s.opened (get_or s.path x 0) 0) v in subst E (sym f) (edge_at_hand g s t h));
      top = omega (arith, len_push s.path m, h.top);
      known = subst K (sym e) (
        get_or-set_same s.seen v true false (omega (arith, h.good.seen_len)),
        λ fr k kl bl. let B : ℕ → ℕ → Type 0 = λ x b. b ≤ get_or (set s.index v m) v 0 in
            each_push B s.bounds m (λ x xl. let z : get_or s.bounds x 0 < m = h.good.bounds_in x xl in omega arith) (omega arith) k kl,
      );
      next = let A : ℕ → Type 0 = λ x. get_or (s.nexts ++ 0 ∷ []) t 0 < length (row g x) in subst A (sym q) (let C : ℕ → Type 0 = λ y. y < length (row g (get_or s.opened (get_or s.path t 0) 0)) in subst C (sym n) h.next);
    }

-- steps of the code, with what its reads give

pub merge_more : (g : List (List ℕ)) (s : State) (t low n b m : ℕ) (bounds : List ℕ) → Merging g s t → low ≡ get_or s.index (target g s t) 0 → n ≡ length s.bounds
    → b ≡ get_or s.bounds (n - 1) b → low < b → m ≡ length s.bounds → bounds ≡ take (m - 1) s.bounds
    → Merging g (record s { bounds = bounds }) t × (low ≡ get_or s.index (target g s t) 0)
merge_more g s t low n b m bounds h le ne be lt me e =
    let pos : 0 < length s.bounds = bounds_some g s t h.looking.good (omega (arith, h.looking.top)) in
    let be0 : b ≡ get_or s.bounds (n - 1) 0 = get_or_read s.bounds (n - 1) b (omega arith) be 0 in
    let P : List ℕ → Type 0 = λ x. Merging g (record s { bounds = x }) t in
    (subst P (sym (e ∙ ap (λ x. take (x - 1) s.bounds) me)) (merging_step g s t (n - 1) h (omega arith) (omega arith)), le)

pub merge_done : (g : List (List ℕ)) (s : State) (t low n b : ℕ) → Merging g s t → low ≡ get_or s.index (target g s t) 0 → n ≡ length s.bounds
    → b ≡ get_or s.bounds (n - 1) b → b ≤ low → Looked g s t
merge_done g s t low n b h le ne be lt =
    let pos : 0 < length s.bounds = bounds_some g s t h.looking.good (omega (arith, h.looking.top)) in
    let be0 : b ≡ get_or s.bounds (n - 1) 0 = get_or_read s.bounds (n - 1) b (omega arith) be 0 in
    merged_looked g s t (n - 1) h (omega arith) (omega arith)

pub target_at : (g : List (List ℕ)) (s : State) (t p o n y : ℕ) → Looking g s t → p ≡ get_or s.path t p → o ≡ get_or s.opened p o → n ≡ get_or s.nexts t n → y ≡ get_or (row g o) n 0 → y ≡ target g s t
target_at g s t p o n y h pe oe ne ye =
    let tl : t < length s.path = omega (arith, h.top) in
    let p0 : p ≡ get_or s.path t 0 = get_or_read s.path t p tl pe 0 in
    let pl : p < length s.opened = let q : get_or s.path t 0 < length s.opened = h.good.path_in t tl in omega arith in
    let o0 : o ≡ get_or s.opened p 0 = get_or_read s.opened p o pl oe 0 in
    let n0 : n ≡ get_or s.nexts t 0 = get_or_read s.nexts t n (omega (arith, h.good.nexts_len)) ne 0 in
    cc

pub target_in : (g : List (List ℕ)) (s : State) (t y : ℕ) → InRange g → Looking g s t → y ≡ target g s t → y < length g
target_in g s t y range h e = let q : target g s t < length g = range (get_or s.opened (get_or s.path t 0) 0) (target g s t) (edge_at_hand g s t h) in omega arith

pub flag_at : (xs : List Bool) (y : ℕ) (r b : Bool) → y < length xs → r ≡ get_or xs y r → r ≡ b → get_or xs y false ≡ b
flag_at xs y r b lt re e = sym (get_or_read xs y r lt re false) ∙ e

pub look_enter : (g : List (List ℕ)) (s s' : State) (t y : ℕ) → InRange g → Looking g s t → y ≡ target g s t → get_or s.seen y false ≡ false → s' ≡ entered s y → Looked g s' t
look_enter g s s' t y range h e un se =
    let P : ℕ → Type 0 = λ x. get_or s.seen x false ≡ false in
    let Q : ℕ → Type 0 = λ x. Looked g (entered s x) t in
    let R : State → Type 0 = λ x. Looked g x t in
    subst R (sym se) (subst Q (sym e) (entered_looked g s t range h (subst P e un)))

pub look_closed : (g : List (List ℕ)) (s : State) (t y : ℕ) → Looking g s t → y ≡ target g s t → get_or s.closed y false ≡ true → Looked g s t
look_closed g s t y h e c = let P : ℕ → Type 0 = λ x. get_or s.closed x false ≡ true in closed_looked g s t h (subst P e c)

pub look_merging : (g : List (List ℕ)) (s : State) (t y : ℕ) → Looking g s t → y ≡ target g s t → get_or s.seen y false ≡ true → get_or s.closed y false ≡ false → Merging g s t
look_merging g s t y h e se c = record {
  looking = h;
  seen = let P : ℕ → Type 0 = λ x. get_or s.seen x false ≡ true in subst P e se;
  free = let P : ℕ → Type 0 = λ x. get_or s.closed x false ≡ false in subst P e c;
}

pub leave_shut : (g : List (List ℕ)) (s s' : State) (t n p b : ℕ) (closed : List Bool) (home : List ℕ) → Leaving g s t → p ≡ get_or s.path t p → n ≡ length s.bounds → b ≡ get_or s.bounds (n - 1) b → b ≡ p
    → Closes s p (length s.opened) (length s.heads) closed home × (s' ≡ shut s p closed home) → Good g s'
leave_shut g s s' t n p b closed home h pe ne be bp c =
    let pos : 0 < length s.bounds = bounds_some g s t h.good (omega (arith, h.top)) in
    let b0 : b ≡ get_or s.bounds (n - 1) 0 = get_or_read s.bounds (n - 1) b (omega arith) be 0 in
    let p0 : p ≡ get_or s.path t 0 = get_or_read s.path t p (omega (arith, h.top)) pe 0 in
    let w : Shuts g s t (n - 1) p closed home = record { good = h.good; top = h.top; all = h.all; last = omega arith; bound = sym b0 ∙ bp; path = sym p0; closes = c.0 } in
    let R : State → Type 0 = λ x. Good g x in
    subst R (sym c.1) (shut_good g s t (n - 1) p closed home w)

pub leave_plain : (g : List (List ℕ)) (s : State) (t n p b x y : ℕ) (path nexts : List ℕ) → Leaving g s t → p ≡ get_or s.path t p → n ≡ length s.bounds → b ≡ get_or s.bounds (n - 1) b → (b ≡ p → ⊥)
    → x ≡ length s.path → y ≡ length s.nexts → path ≡ take (x - 1) s.path → nexts ≡ take (y - 1) s.nexts → Good g (record s { path = path; nexts = nexts })
leave_plain g s t n p b x y path nexts h pe ne be bp xe ye e f =
    let pos : 0 < length s.bounds = bounds_some g s t h.good (omega (arith, h.top)) in
    let b0 : b ≡ get_or s.bounds (n - 1) 0 = get_or_read s.bounds (n - 1) b (omega arith) be 0 in
    let p0 : p ≡ get_or s.path t 0 = get_or_read s.path t p (omega (arith, h.top)) pe 0 in
    let P : List ℕ → Type 0 = λ x. Good g (record s { path = x; nexts = nexts }) in
    let Q : List ℕ → Type 0 = λ x. Good g (record s { path = take (length s.path - 1) s.path; nexts = x }) in
    subst P (sym (e ∙ ap (λ z. take (z - 1) s.path) xe)) (subst Q (sym (f ∙ ap (λ z. take (z - 1) s.nexts) ye)) (left_good g s t (n - 1) h.good h.top h.all (omega arith) (λ q. bp (b0 ∙ q ∙ sym p0))))

pub low_at : (g : List (List ℕ)) (s : State) (t y r : ℕ) → y < length s.index → r ≡ get_or s.index y r → y ≡ target g s t → r ≡ get_or s.index (target g s t) 0
low_at g s t y r lt re e = get_or_read s.index y r lt re 0 ∙ ap (λ x. get_or s.index x 0) e

pub enter_grows : (s s' : State) (v : ℕ) → v < length s.seen → s' ≡ entered s v → Grows s s'
enter_grows s s' v lt e = let P : State → Type 0 = λ x. Grows s x in subst P (sym e) (λ z se. seen_stays s.seen v z lt se)

pub shut_grows : (s s' : State) (p : ℕ) (closed : List Bool) (home : List ℕ) → s' ≡ shut s p closed home → Grows s s'
shut_grows s s' p closed home e = let P : State → Type 0 = λ x. Grows s x in subst P (sym e) (λ z se. se)

-- once the path is left, all that was met is closed
pub all_closed : (g : List (List ℕ)) (s : State) (v : ℕ) → Good g s → length s.path ≡ 0 → get_or s.seen v false ≡ true → get_or s.closed v false ≡ true
all_closed g s v h pe se =
    elim (flag_cases (get_or s.closed v false)) [
      | inl c ↦ c
      | inr f ↦
          let o : (get_or s.index v 0 < length s.opened) × (get_or s.opened (get_or s.index v 0) 0 ≡ v) = h.seen_open v se f in
          let b : (0 < length s.bounds) × (get_or s.bounds 0 0 ≡ 0) = h.bounds_first (omega (arith, o.0)) in
          let j : (j : ℕ) × (j < length s.path) × (get_or s.path j 0 ≡ get_or s.bounds 0 0) = h.bounds_path 0 b.0 in
          absurd (omega (arith, j.1))
    ]

-- the walk of one vertex begins
pub begin : (g : List (List ℕ)) (s s' : State) (v : ℕ) → Good g s → v < length g → length s.path ≡ 0 → get_or s.seen v false ≡ false → s' ≡ entered s v → Good g s' × Grows s s' × (get_or s'.seen v false ≡ true)
begin g s s' v h lt pe un e =
    let sl : v < length s.seen = omega (arith, h.seen_len) in
    let P : State → Type 0 = λ x. Good g x × Grows s x × (get_or x.seen v false ≡ true) in
    subst P (sym e) (entered_good g s v h lt un (λ t te. absurd (omega arith)), λ z se. seen_stays s.seen v z sl se, get_or-set_same s.seen v true false sl)
