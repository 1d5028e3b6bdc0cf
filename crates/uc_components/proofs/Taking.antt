-- The ready component with the least member is placed.
use Rattle.std.proofs.Common.{◌≡◌, ℕ, ◌<◌, ◌≤◌, ◌+◌, ◌⊎◌, suc, zero, List, [], ◌∷◌, ◌++◌, Bool, true, false, length, get_or, set, refl, sym, ◌∙◌, ap, subst, inl, inr, arith}
use Rattle.std.specs.List.{Contains}
use Rattle.std.proofs.lemmas.Bool.{cases_lt, cases_eq}
use Rattle.std.proofs.lemmas.List.{length-set, get_or-set_same, get_or-set_other, get_or_past}
use Rattle.uc_base.specs.Graph.{row, Edge}
use Rattle.uc_components.specs.Searched.{flag}
use Rattle.uc_components.specs.Order.{Stage, IsStage, IsFront, IsFree, IsKnown, IsMembers, AllKnown, TakesLeast, IsTaken, placed_at}
use Rattle.uc_components.proofs.Members.{first_in, first_least}
use Rattle.uc_components.proofs.Stages.{edge_in, edge_value, flag_along, readied}

pub bool_cases : (b : Bool) → (b ≡ true) ⊎ (b ≡ false)
bool_cases true = inl refl
bool_cases false = inr refl

pub differ : true ≡ false → ⊥
differ e = cc

pub grows : (placed : List Bool) (c d : ℕ) → flag placed d ≡ true → flag (set placed c true) d ≡ true
grows placed c d h = elim (cases_eq d c) [
  | inl e ↦ elim (cases_lt c (length placed)) [
    | inl l ↦ flag_along (set placed c true) c d true (sym e) (get_or-set_same placed c true false l)
    | inr ge ↦ let q : flag placed d ≡ false = get_or_past placed d false (omega arith) in absurd (differ (sym h ∙ q))
  ]
  | inr ne ↦ get_or-set_other placed c d true false ne ∙ h
]

pub new_not : (placed : List Bool) (c d : ℕ) → c < length placed → flag (set placed c true) d ≡ false → (d ≡ c → ⊥) × (flag placed d ≡ false)
new_not placed c d lt h = elim (cases_eq d c) [
  | inl e ↦ absurd (differ (sym (flag_along (set placed c true) c d true (sym e) (get_or-set_same placed c true false lt)) ∙ h))
  | inr ne ↦ (ne, sym (get_or-set_other placed c d true false ne) ∙ h)
]

pub still_new : (placed : List Bool) (c d : ℕ) → (d ≡ c → ⊥) → flag placed d ≡ false → flag (set placed c true) d ≡ false
still_new placed c d ne h = get_or-set_other placed c d true false ne ∙ h

abbrev pub mid : Stage → ℕ → List ℕ → Stage
mid s x r = placed_at (readied s r) (get_or s.home x 0)

module _ (references : List (List ℕ)) (s : Stage) (x : ℕ) (r : List ℕ) (h : IsStage references s) (w : TakesLeast s.ready x r) where
  front : IsFront references s x
  front = h.ready x w.has

  pub below : get_or s.home x 0 < length s.placed
  below = h.home_in x front.vertex

  pub below_after : get_or s.home x 0 < length (set s.placed (get_or s.home x 0) true)
  below_after = omega (arith, below, length-set s.placed (get_or s.home x 0) true)

  free_grows : (c : ℕ) → IsFree references s.placed c → IsFree references (set s.placed (get_or s.home x 0) true) c
  free_grows c f d ed = grows s.placed (get_or s.home x 0) d (f d ed)

  other_row : (c : ℕ) → (c ≡ get_or s.home x 0 → ⊥) → row (set s.parts (get_or s.home x 0) []) c ≡ row s.parts c
  other_row c ne = get_or-set_other s.parts (get_or s.home x 0) c [] [] ne

  ready_after : (y : ℕ) → Contains r y → IsFront references (mid s x r) y
  ready_after y m =
      let q : Contains s.ready y × (y ≡ x → ⊥) = w.without y m in
      let f : IsFront references s y = h.ready y q.0 in
      let ne : get_or s.home y 0 ≡ get_or s.home x 0 → ⊥ = λ e. q.1 (sym f.least ∙ ap (λ c. get_or (row s.parts c) 0 0) e ∙ front.least) in
      record {
        vertex = f.vertex;
        new = still_new s.placed (get_or s.home x 0) (get_or s.home y 0) ne f.new;
        free = free_grows (get_or s.home y 0) f.free;
        least = ap (λ xs. get_or xs 0 0) (other_row (get_or s.home y 0) ne) ∙ f.least;
      }

  pub placed_stage : IsStage references (mid s x r)
  placed_stage =
      let le : length (set s.placed (get_or s.home x 0) true) ≡ length s.placed = length-set s.placed (get_or s.home x 0) true in
      record {
        len = h.len ∙ sym le;
        parts_len = length-set s.parts (get_or s.home x 0) [] ∙ h.parts_len ∙ sym le;
        cursors_len = h.cursors_len ∙ sym le;
        home_in = λ v lt. let q : get_or s.home v 0 < length s.placed = h.home_in v lt in omega arith;
        descends = h.descends;
        parts = λ c lt new.
            let q : (c ≡ get_or s.home x 0 → ⊥) × (flag s.placed c ≡ false) = new_not s.placed (get_or s.home x 0) c below new in
            let P : List ℕ → Type 0 = λ xs. IsMembers s.home c xs × (0 < length xs) in
            subst P (sym (other_row c q.0)) (h.parts c (omega arith) q.1);
        passed = λ c k lt kl. grows s.placed (get_or s.home x 0) (get_or (row references c) k 0) (h.passed c k lt kl);
        ready = ready_after;
        closed = λ c p. elim (cases_eq c (get_or s.home x 0)) [
          | inl e ↦ let P : ℕ → Type 0 = λ d. IsFree references (set s.placed (get_or s.home x 0) true) d in subst P (sym e) (free_grows (get_or s.home x 0) front.free)
          | inr ne ↦ free_grows c (h.closed c (sym (get_or-set_other s.placed (get_or s.home x 0) c true false ne) ∙ p))
        ];
      }

  pub referrers_new : (c : ℕ) → Edge references c (get_or s.home x 0) → (c < length (set s.placed (get_or s.home x 0) true)) × (flag (set s.placed (get_or s.home x 0) true) c ≡ false)
  referrers_new c ed =
      let le : length (set s.placed (get_or s.home x 0) true) ≡ length s.placed = length-set s.placed (get_or s.home x 0) true in
      let lt : get_or s.home x 0 < c = h.descends c (get_or s.home x 0) ed in (
        omega (arith, edge_in references c (get_or s.home x 0) ed, h.len),
        still_new s.placed (get_or s.home x 0) c (λ e. omega arith) (elim (bool_cases (flag s.placed c)) [
          | inl t ↦ absurd (differ (sym (h.closed c t (get_or s.home x 0) ed) ∙ front.new))
          | inr f ↦ f
        ]),
      )

  -- what is known of the others still is, but for those that wait for the placed one
  known_after : (t : Stage) (c : ℕ) → (c ≡ get_or s.home x 0 → ⊥) → c < length s.placed → flag s.placed c ≡ false → IsKnown references s c
      → ((d : ℕ) → Edge references d (get_or s.home x 0) → IsKnown references t d) → ((d : ℕ) → IsKnown references (mid s x r) d → IsKnown references t d) → IsKnown references t c
  known_after t c ne lt new (inl m) woken keeps =
      let p : IsMembers s.home c (row s.parts c) × (0 < length (row s.parts c)) = h.parts c lt new in
      let o : get_or s.home (get_or (row s.parts c) 0 0) 0 ≡ c = (p.0.sound (get_or (row s.parts c) 0 0) (first_in (row s.parts c) p.1)).1 in
      let P : List ℕ → Type 0 = λ xs. Contains r (get_or xs 0 0) in
      keeps c (inl (subst P (sym (other_row c ne)) (w.others (get_or (row s.parts c) 0 0) m (λ e. ne (sym o ∙ ap (λ v. get_or s.home v 0) e)))))
  known_after t c ne lt new (inr v) woken keeps =
      let d : ℕ = get_or (row references c) (get_or s.cursors c 0) 0 in
      let ed : Edge references c d = edge_value references c (get_or s.cursors c 0) v.0 in
      elim (cases_eq d (get_or s.home x 0)) [
        | inl e ↦ let P : ℕ → Type 0 = λ z. Edge references c z in woken c (subst P e ed)
        | inr nd ↦ keeps c (inr (v.0, still_new s.placed (get_or s.home x 0) d nd v.1))
      ]

  least_of : AllKnown references s → (v : ℕ) → v < length s.home → flag s.placed (get_or s.home v 0) ≡ false → IsFree references s.placed (get_or s.home v 0) → x ≤ v
  least_of all v vl new free =
      let c : ℕ = get_or s.home v 0 in
      let p : IsMembers s.home c (row s.parts c) × (0 < length (row s.parts c)) = h.parts c (h.home_in v vl) new in
      let le : get_or (row s.parts c) 0 0 ≤ v = first_least (row s.parts c) v p.0.ascending (p.0.complete v vl refl) in
      elim (all c (h.home_in v vl) new) [
        | inl m ↦ let q : x ≤ get_or (row s.parts c) 0 0 = w.least (get_or (row s.parts c) 0 0) m in omega arith
        | inr k ↦ absurd (differ (sym (free (get_or (row references c) (get_or s.cursors c 0) 0) (edge_value references c (get_or s.cursors c 0) k.0)) ∙ k.1))
      ]

  pub taken : (t : Stage) (members : List ℕ) → AllKnown references s → members ≡ row s.parts (get_or s.home x 0) → t.home ≡ s.home → t.placed ≡ set s.placed (get_or s.home x 0) true → IsStage references t
      → ((d : ℕ) → Edge references d (get_or s.home x 0) → IsKnown references t d) → ((d : ℕ) → IsKnown references (mid s x r) d → IsKnown references t d) → IsTaken references s t members
  taken t members all e he pe st woken keeps =
      let p : IsMembers s.home (get_or s.home x 0) (row s.parts (get_or s.home x 0)) × (0 < length (row s.parts (get_or s.home x 0))) = h.parts (get_or s.home x 0) below front.new in
      let P : List ℕ → Type 0 = λ xs. IsMembers s.home (get_or s.home x 0) xs × (0 < length xs) in
      let q : IsMembers s.home (get_or s.home x 0) members × (0 < length members) = subst P (sym e) p in
      let f : get_or members 0 0 ≡ x = ap (λ xs. get_or xs 0 0) e ∙ front.least in
      record {
        part = get_or s.home x 0;
        below = below;
        new = front.new;
        free = front.free;
        is_part = q.0;
        filled = q.1;
        placed = pe;
        home = he;
        stage = st;
        least = λ v vl new free. let l : x ≤ v = least_of all v vl new free in omega arith;
        known = λ c lt new.
            let n : flag (set s.placed (get_or s.home x 0) true) c ≡ false = ap (λ ps. flag ps c) (sym pe) ∙ new in
            let m : (c ≡ get_or s.home x 0 → ⊥) × (flag s.placed c ≡ false) = new_not s.placed (get_or s.home x 0) c below n in
            let le : length t.placed ≡ length s.placed = ap (λ ps. length ps) pe ∙ length-set s.placed (get_or s.home x 0) true in
            let lt2 : c < length s.placed = omega arith in
            known_after t c m.0 lt2 m.1 (all c lt2 m.1) woken keeps;
      }
