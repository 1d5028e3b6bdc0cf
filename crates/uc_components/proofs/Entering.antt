-- A vertex is met.
use Rattle.std.proofs.Common.{◌≡◌, ℕ, ◌<◌, ◌≤◌, ◌+◌, ◌-◌, ◌⊎◌, List, [], ◌∷◌, ◌++◌, Bool, true, false, length, get_or, set, take, refl, sym, ◌∙◌, ap, subst, inl, inr, arith}
use Rattle.std.proofs.lemmas.List.{get_or_append_left, get_or_push, get_or-set_same, get_or-set_other, length-set}
use Rattle.std.proofs.lemmas.Bool.{cases_lt, cases_eq}
use Rattle.uc_base.specs.Graph.{row, Edge}
use Rattle.uc_components.specs.Searched.{Comes}
use Rattle.uc_components.specs.Searched.{State, Good, Known, entered}
use Rattle.uc_components.proofs.Paths.{comes_trans, comes_edge, comes_at}
use Rattle.uc_components.proofs.Places.{len_push, each_push, each_set, each_flag}

not_true : (b : Bool) → (b ≡ true → ⊥) → b ≡ false
not_true true n = absurd (n refl)
not_true false n = refl

pub free_new : (g : List (List ℕ)) (s : State) (v : ℕ) → Good g s → get_or s.seen v false ≡ false → get_or s.closed v false ≡ false
free_new g s v h un = not_true (get_or s.closed v false) (λ e. let q : get_or s.seen v false ≡ true = h.closed_seen v e in cc)

other : (xs : List Bool) (v z : ℕ) → get_or xs v false ≡ false → get_or xs z false ≡ true → z ≡ v → ⊥
other xs v z un se e = let q : get_or xs z false ≡ get_or xs v false = ap (λ i. get_or xs i false) e in cc

pub seen_stays : (xs : List Bool) (v z : ℕ) → v < length xs → get_or xs z false ≡ true → get_or (set xs v true) z false ≡ true
seen_stays xs v z lt se = let P : ℕ → Bool → Type 0 = λ i b. get_or xs i false ≡ true → b ≡ true in each_flag P xs v true lt (λ i ne q. q) (λ q. refl) z se

index_stays : (g : List (List ℕ)) (s : State) (v z : ℕ) → get_or s.seen v false ≡ false → get_or s.seen z false ≡ true → get_or (entered s v).index z 0 ≡ get_or s.index z 0
index_stays g s v z un se = get_or-set_other s.index v z (length s.opened) 0 (other s.seen v z un se)

pub known_stays : (g : List (List ℕ)) (s : State) (v i y : ℕ) → Good g s → v < length g → get_or s.seen v false ≡ false → i < length s.opened → Known s i y → Known (entered s v) i y
known_stays g s v i y h lt un il k = (
  seen_stays s.seen v y (omega (arith, h.seen_len)) k.0,
  λ fr.
      let P : ℕ → ℕ → Type 0 = λ n b. b ≤ i → b ≤ get_or (entered s v).index y 0 in
      let e : get_or (entered s v).index y 0 ≡ get_or s.index y 0 = index_stays g s v y un k.0 in
      each_push P s.bounds (length s.opened) (λ n nl bl. let q : get_or s.bounds n 0 ≤ get_or s.index y 0 = k.1 fr n nl bl in omega arith) (λ bl. absurd (omega arith)),
)

seen_open_new : (g : List (List ℕ)) (s : State) (v z : ℕ) → Good g s → v < length g → get_or s.seen v false ≡ false
    → get_or (entered s v).seen z false ≡ true → get_or s.closed z false ≡ false
    → (get_or (entered s v).index z 0 < length (entered s v).opened) × (get_or (entered s v).opened (get_or (entered s v).index z 0) 0 ≡ z)
seen_open_new g s v z h lt un se fr =
    elim (cases_eq z v) [
      | inl e ↦
          let P : ℕ → Type 0 = λ x. (get_or (entered s v).index x 0 < length (entered s v).opened) × (get_or (entered s v).opened (get_or (entered s v).index x 0) 0 ≡ x) in
          let i : get_or (entered s v).index v 0 ≡ length s.opened = get_or-set_same s.index v (length s.opened) 0 (omega (arith, h.index_len)) in
          subst P (sym e) (omega (arith, len_push s.opened v), get_or_push s.opened v 0 (get_or (entered s v).index v 0) (sym i))
      | inr ne ↦
          let se0 : get_or s.seen z false ≡ true = sym (get_or-set_other s.seen v z true false ne) ∙ se in
          let i : get_or (entered s v).index z 0 ≡ get_or s.index z 0 = get_or-set_other s.index v z (length s.opened) 0 ne in
          let o : (get_or s.index z 0 < length s.opened) × (get_or s.opened (get_or s.index z 0) 0 ≡ z) = h.seen_open z se0 fr in (
            omega (arith, len_push s.opened v, o.0),
            ap (λ k. get_or (entered s v).opened k 0) i ∙ get_or_append_left s.opened (v ∷ []) 0 (get_or s.index z 0) o.0 ∙ o.1,
          )
    ]

bounds_first_new : (g : List (List ℕ)) (s : State) (v : ℕ) → Good g s → (0 < length (entered s v).bounds) × (get_or (entered s v).bounds 0 0 ≡ 0)
bounds_first_new g s v h =
    elim (cases_lt 0 (length s.opened)) [
      | inl l ↦
          let o : (0 < length s.bounds) × (get_or s.bounds 0 0 ≡ 0) = h.bounds_first l in
          (omega (arith, len_push s.bounds (length s.opened), o.0), get_or_append_left s.bounds (length s.opened ∷ []) 0 0 o.0 ∙ o.1)
      | inr ge ↦
          elim (cases_lt 0 (length s.bounds)) [
            | inl l ↦ let q : get_or s.bounds 0 0 < length s.opened = h.bounds_in 0 l in absurd (omega arith)
            | inr e ↦
                let z : length s.bounds ≡ 0 = omega arith in
                let m : length s.opened ≡ 0 = omega arith in
                (omega (arith, len_push s.bounds (length s.opened)), get_or_push s.bounds (length s.opened) 0 0 z ∙ m)
          ]
    ]

-- each number that is pushed on an ascending list is above it
up_push : (xs : List ℕ) (m : ℕ) → ((k : ℕ) → k < length xs → get_or xs k 0 < m) → ((k l : ℕ) → k < l → l < length xs → get_or xs k 0 < get_or xs l 0)
    → (k l : ℕ) → k < l → l < length (xs ++ m ∷ []) → get_or (xs ++ m ∷ []) k 0 < get_or (xs ++ m ∷ []) l 0
up_push xs m below up k l kl lt =
    let P : ℕ → ℕ → Type 0 = λ i b. k < i → get_or (xs ++ m ∷ []) k 0 < b in
    each_push P xs m
    (λ i il ki. let q : get_or xs k 0 < get_or xs i 0 = up k i ki il in let e : get_or (xs ++ m ∷ []) k 0 ≡ get_or xs k 0 = get_or_append_left xs (m ∷ []) 0 k (omega arith) in omega arith)
    (λ ki. let q : get_or xs k 0 < m = below k ki in let e : get_or (xs ++ m ∷ []) k 0 ≡ get_or xs k 0 = get_or_append_left xs (m ∷ []) 0 k ki in omega arith)
    l lt kl

-- the bound k comes to the top of the path, which refers to v
comes_new : (g : List (List ℕ)) (s : State) (v k : ℕ) → Good g s → ((t : ℕ) → t + 1 ≡ length s.path → Edge g (get_or s.opened (get_or s.path t 0) 0) v)
    → k < length s.bounds → Comes g (get_or s.opened (get_or s.bounds k 0) 0) v
comes_new g s v k h edge kl =
    let j : (j : ℕ) × (j < length s.path) × (get_or s.path j 0 ≡ get_or s.bounds k 0) = h.bounds_path k kl in
    let t : ℕ = length s.path - 1 in
    let tl : t < length s.path = omega (arith, j.1) in
    let le : get_or s.bounds k 0 ≤ get_or s.path t 0 = elim (cases_lt j.0 t) [
      | inl l ↦ let q : get_or s.path j.0 0 < get_or s.path t 0 = h.path_up j.0 t l tl in omega (arith, j.2)
      | inr ge ↦ let e : j.0 ≡ t = omega (arith, j.1) in let q : get_or s.path j.0 0 ≡ get_or s.path t 0 = ap (λ i. get_or s.path i 0) e in omega (arith, j.2)
    ] in
    comes_trans g _ (get_or s.opened (get_or s.path t 0) 0) v (h.forth k (get_or s.path t 0) kl le (h.path_in t tl)) (comes_edge g _ v (edge t (omega arith)))

forth_new : (g : List (List ℕ)) (s : State) (v k i : ℕ) → Good g s → ((t : ℕ) → t + 1 ≡ length s.path → Edge g (get_or s.opened (get_or s.path t 0) 0) v)
    → k < length (entered s v).bounds → get_or (entered s v).bounds k 0 ≤ i → i < length (entered s v).opened
    → Comes g (get_or (entered s v).opened (get_or (entered s v).bounds k 0) 0) (get_or (entered s v).opened i 0)
forth_new g s v k i h edge kl le il =
    let P : ℕ → ℕ → Type 0 = λ n b. b ≤ i → Comes g (get_or (entered s v).opened b 0) (get_or (entered s v).opened i 0) in
    each_push P s.bounds (length s.opened)
    (λ n nl bl.
    let e : get_or (entered s v).opened (get_or s.bounds n 0) 0 ≡ get_or s.opened (get_or s.bounds n 0) 0 = get_or_append_left s.opened (v ∷ []) 0 (get_or s.bounds n 0) (h.bounds_in n nl) in
    let Q : ℕ → ℕ → Type 0 = λ m z. get_or s.bounds n 0 ≤ m → Comes g (get_or (entered s v).opened (get_or s.bounds n 0) 0) z in
    each_push Q s.opened v (λ m ml bm. comes_at g _ _ _ _ e refl (h.forth n m nl bm ml)) (λ bm. comes_at g _ _ _ _ e refl (comes_new g s v n h edge nl)) i il bl)
    (λ bl. let e : length s.opened ≡ i = omega (arith, len_push s.opened v) in inl (ap (λ m. get_or (entered s v).opened m 0) e))
    k kl le

back_new : (g : List (List ℕ)) (s : State) (v k i : ℕ) → Good g s
    → k < length (entered s v).bounds → get_or (entered s v).bounds k 0 ≤ i → i < length (entered s v).opened → (k + 1 < length (entered s v).bounds → i < get_or (entered s v).bounds (k + 1) 0)
    → Comes g (get_or (entered s v).opened i 0) (get_or (entered s v).opened (get_or (entered s v).bounds k 0) 0)
back_new g s v k i h kl le il next =
    let P : ℕ → ℕ → Type 0 = λ n b. b ≤ i → (n + 1 < length (entered s v).bounds → i < get_or (entered s v).bounds (n + 1) 0) → Comes g (get_or (entered s v).opened i 0) (get_or (entered s v).opened b 0) in
    each_push P s.bounds (length s.opened)
    (λ n nl bl nx.
    let i1 : i < get_or (entered s v).bounds (n + 1) 0 = nx (omega (arith, len_push s.bounds (length s.opened))) in
    let up : get_or (entered s v).bounds (n + 1) 0 ≤ length s.opened =
    let R : ℕ → ℕ → Type 0 = λ m b. b ≤ length s.opened in
    each_push R s.bounds (length s.opened) (λ m ml. let q : get_or s.bounds m 0 < length s.opened = h.bounds_in m ml in omega arith) (omega arith) (n + 1) (omega (arith, len_push s.bounds (length s.opened))) in
    let im : i < length s.opened = omega arith in
    let e : get_or (entered s v).opened (get_or s.bounds n 0) 0 ≡ get_or s.opened (get_or s.bounds n 0) 0 = get_or_append_left s.opened (v ∷ []) 0 (get_or s.bounds n 0) (h.bounds_in n nl) in
    let f : get_or (entered s v).opened i 0 ≡ get_or s.opened i 0 = get_or_append_left s.opened (v ∷ []) 0 i im in
    comes_at g _ _ _ _ f e (h.back n i nl bl im (λ n1. let q : get_or (entered s v).bounds (n + 1) 0 ≡ get_or s.bounds (n + 1) 0 = get_or_append_left s.bounds (length s.opened ∷ []) 0 (n + 1) n1 in omega arith)))
    (λ bl nx. let e : i ≡ length s.opened = omega (arith, len_push s.opened v) in inl (ap (λ m. get_or (entered s v).opened m 0) e))
    k kl le next

done_new : (g : List (List ℕ)) (s : State) (v i y : ℕ) → Good g s → v < length g → get_or s.seen v false ≡ false
    → i < length (entered s v).opened → ((j : ℕ) → j < length (entered s v).path → get_or (entered s v).path j 0 ≡ i → ⊥) → Edge g (get_or (entered s v).opened i 0) y → Known (entered s v) i y
done_new g s v i y h lt un il off edge =
    let P : ℕ → ℕ → Type 0 = λ n z. ((j : ℕ) → j < length (entered s v).path → get_or (entered s v).path j 0 ≡ n → ⊥) → Edge g z y → Known (entered s v) n y in
    each_push P s.opened v
    (λ n nl of ed. known_stays g s v n y h lt un nl (h.done n y nl (λ j jl e. of j (omega (arith, len_push s.path (length s.opened))) (get_or_append_left s.path (length s.opened ∷ []) 0 j jl ∙ e)) ed))
    (λ of ed. absurd (of (length s.path) (omega (arith, len_push s.path (length s.opened))) (get_or_push s.path (length s.opened) 0 (length s.path) refl)))
    i il off edge

tried_new : (g : List (List ℕ)) (s : State) (v j e : ℕ) → Good g s → v < length g → get_or s.seen v false ≡ false
    → j < length (entered s v).path → e < get_or (entered s v).nexts j 0
    → Known (entered s v) (get_or (entered s v).path j 0) (get_or (row g (get_or (entered s v).opened (get_or (entered s v).path j 0) 0)) e 0)
tried_new g s v j e h lt un jl el =
    let P : ℕ → ℕ → Type 0 = λ n p. e < get_or (entered s v).nexts n 0 → Known (entered s v) p (get_or (row g (get_or (entered s v).opened p 0)) e 0) in
    each_push P s.path (length s.opened)
    (λ n nl en.
    let q : get_or (entered s v).nexts n 0 ≡ get_or s.nexts n 0 = get_or_append_left s.nexts (0 ∷ []) 0 n (omega (arith, h.nexts_len)) in
    let f : get_or (entered s v).opened (get_or s.path n 0) 0 ≡ get_or s.opened (get_or s.path n 0) 0 = get_or_append_left s.opened (v ∷ []) 0 (get_or s.path n 0) (h.path_in n nl) in
    let Q : ℕ → Type 0 = λ x. Known (entered s v) (get_or s.path n 0) (get_or (row g x) e 0) in
    subst Q (sym f) (known_stays g s v _ _ h lt un (h.path_in n nl) (h.tried n e nl (omega arith))))
    (λ en. let q : get_or (entered s v).nexts (length s.path) 0 ≡ 0 = get_or_push s.nexts 0 0 (length s.path) h.nexts_len in absurd (omega arith))
    j jl el

pub entered_good : (g : List (List ℕ)) (s : State) (v : ℕ) → Good g s → v < length g → get_or s.seen v false ≡ false
    → ((t : ℕ) → t + 1 ≡ length s.path → Edge g (get_or s.opened (get_or s.path t 0) 0) v) → Good g (entered s v)
entered_good g s v h lt un edge =
    let m : ℕ = length s.opened in
    let sl : v < length s.seen = omega (arith, h.seen_len) in
    let il : v < length s.index = omega (arith, h.index_len) in
    record {
      seen_len = length-set s.seen v true ∙ h.seen_len;
      closed_len = h.closed_len;
      index_len = length-set s.index v m ∙ h.index_len;
      home_len = h.home_len;
      nexts_len = len_push s.nexts 0 ∙ ap (λ x. x + 1) h.nexts_len ∙ sym (len_push s.path m);
      open_in = each_push (λ (i : ℕ) (z : ℕ). z < length g) s.opened v h.open_in lt;
      open_seen = each_push (λ (i : ℕ) (z : ℕ). get_or (set s.seen v true) z false ≡ true) s.opened v (λ i l. seen_stays s.seen v _ sl (h.open_seen i l)) (get_or-set_same s.seen v true false sl);
      open_index = each_push (λ (i : ℕ) (z : ℕ). get_or (set s.index v m) z 0 ≡ i) s.opened v (λ i l. index_stays g s v _ un (h.open_seen i l) ∙ h.open_index i l) (get_or-set_same s.index v m 0 il);
      open_free = each_push (λ (i : ℕ) (z : ℕ). get_or s.closed z false ≡ false) s.opened v h.open_free (free_new g s v h un);
      seen_open = λ z se fr. seen_open_new g s v z h lt un se fr;
      closed_seen = λ z c. seen_stays s.seen v z sl (h.closed_seen z c);
      bounds_in = each_push (λ (i : ℕ) (z : ℕ). z < length (s.opened ++ v ∷ [])) s.bounds m (λ i l. let q : get_or s.bounds i 0 < length s.opened = h.bounds_in i l in omega (arith, len_push s.opened v)) (omega (arith, len_push s.opened v));
      bounds_up = up_push s.bounds m h.bounds_in h.bounds_up;
      bounds_first = λ _. bounds_first_new g s v h;
      path_in = each_push (λ (i : ℕ) (z : ℕ). z < length (s.opened ++ v ∷ [])) s.path m (λ i l. let q : get_or s.path i 0 < length s.opened = h.path_in i l in omega (arith, len_push s.opened v)) (omega (arith, len_push s.opened v));
      path_up = up_push s.path m h.path_in h.path_up;
      bounds_path = each_push (λ (i : ℕ) (z : ℕ). (j : ℕ) × (j < length (s.path ++ m ∷ [])) × (get_or (s.path ++ m ∷ []) j 0 ≡ z)) s.bounds m
          (λ i l. let o : (j : ℕ) × (j < length s.path) × (get_or s.path j 0 ≡ get_or s.bounds i 0) = h.bounds_path i l in (o.0, omega (arith, len_push s.path m, o.1), get_or_append_left s.path (m ∷ []) 0 o.0 o.1 ∙ o.2))
          (length s.path, omega (arith, len_push s.path m), get_or_push s.path m 0 (length s.path) refl);
      forth = λ k i a b c. forth_new g s v k i h edge a b c;
      back = λ k i a b c d. back_new g s v k i h a b c d;
      done = λ i y a b c. done_new g s v i y h lt un a b c;
      tried = λ j e a b. tried_new g s v j e h lt un a b;
      closed_edges = h.closed_edges;
      closed_together = h.closed_together;
      closed_home = h.closed_home;
      heads_closed = h.heads_closed;
    }
