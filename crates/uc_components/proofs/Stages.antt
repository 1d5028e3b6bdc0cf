-- What moves of cursors, and new ready components, do to a stage.
use Rattle.std.proofs.Common.{◌≡◌, ℕ, ◌<◌, ◌≤◌, ◌+◌, ◌⊎◌, suc, zero, List, [], ◌∷◌, ◌++◌, Bool, true, false, length, get_or, set, refl, sym, ◌∙◌, ap, subst, inl, inr, arith}
use Rattle.std.specs.List.{Contains}
use Rattle.std.proofs.lemmas.Bool.{cases_lt, cases_eq}
use Rattle.std.proofs.lemmas.List.{length-set, get_or-set_same, get_or-set_other, get_or_past, get_or_default}
use Rattle.std.proofs.lemmas.List.Elements.{Contains-get_or}
use Rattle.uc_base.specs.Graph.{row, Edge}
use Rattle.uc_components.specs.Searched.{flag}
use Rattle.uc_components.specs.Order.{Stage, IsStage, IsFront, IsFree, IsKnown, IsWaiting, IsMembers}
use Rattle.uc_components.proofs.Members.{first_in, none_in}
use Rattle.uc_components.proofs.Places.{each_set}

pub edge_in : (rows : List (List ℕ)) (c d : ℕ) → Edge rows c d → c < length rows
edge_in rows c d h = elim (cases_lt c (length rows)) [
  | inl l ↦ l
  | inr ge ↦ let P : List ℕ → Type 0 = λ xs. Contains xs d in absurd (none_in d (subst P (get_or_past rows c [] ge) h))
]

pub edge_value : (rows : List (List ℕ)) (c k : ℕ) → k < length (row rows c) → Edge rows c (get_or (row rows c) k 0)
edge_value rows c k lt = Contains-get_or (row rows c) k 0 lt

pub flag_along : (placed : List Bool) (c d : ℕ) (b : Bool) → c ≡ d → flag placed c ≡ b → flag placed d ≡ b
flag_along placed c d b e h = ap (λ x. flag placed x) (sym e) ∙ h

-- c's cursor is at k
abbrev pub moved : Stage → ℕ → ℕ → Stage
moved s c k = record s { cursors = set s.cursors c k }

-- the least members of ready components are r
abbrev pub readied : Stage → List ℕ → Stage
readied s r = record s { ready = r }

module _ (references : List (List ℕ)) where
  front_moved : (s : Stage) (c k x : ℕ) → IsFront references s x → IsFront references (moved s c k) x
  front_moved s c k x f = record { vertex = f.vertex; new = f.new; free = f.free; least = f.least }

  front_readied : (s : Stage) (r : List ℕ) (x : ℕ) → IsFront references s x → IsFront references (readied s r) x
  front_readied s r x f = record { vertex = f.vertex; new = f.new; free = f.free; least = f.least }

  pub moved_stage : (s : Stage) (c k : ℕ) → IsStage references s → c < length s.placed
      → ((j : ℕ) → get_or s.cursors c 0 ≤ j → j < k → j < length (row references c) → flag s.placed (get_or (row references c) j 0) ≡ true) → IsStage references (moved s c k)
  moved_stage s c k h cl new = record {
    len = h.len;
    parts_len = h.parts_len;
    cursors_len = length-set s.cursors c k ∙ h.cursors_len;
    home_in = h.home_in;
    descends = h.descends;
    parts = h.parts;
    closed = h.closed;
    ready = λ x m. front_moved s c k x (h.ready x m);
    passed = λ d j.
        let P : ℕ → ℕ → Type 0 = λ i z. (j : ℕ) → j < z → j < length (row references i) → flag s.placed (get_or (row references i) j 0) ≡ true in
        each_set P s.cursors c k (omega (arith, h.cursors_len)) (λ i ne j. h.passed i j)
        (λ j jk jl. elim (cases_lt j (get_or s.cursors c 0)) [ inl l ↦ h.passed c j l jl | inr ge ↦ new j ge jk jl ]) d j;
  }

  pub moved_known : (s : Stage) (c k d : ℕ) → (d ≡ c → ⊥) → IsKnown references s d → IsKnown references (moved s c k) d
  moved_known s c k d ne (inl r) = inl r
  moved_known s c k d ne (inr w) =
      let P : ℕ → Type 0 = λ z. (z < length (row references d)) × (flag s.placed (get_or (row references d) z 0) ≡ false) in
      inr (subst P (sym (get_or-set_other s.cursors c d k 0 ne)) w)

  pub moved_waits : (s : Stage) (c k : ℕ) → c < length s.cursors → k < length (row references c) → flag s.placed (get_or (row references c) k 0) ≡ false → IsKnown references (moved s c k) c
  moved_waits s c k cl kl f =
      let P : ℕ → Type 0 = λ z. (z < length (row references c)) × (flag s.placed (get_or (row references c) z 0) ≡ false) in
      inr (subst P (sym (get_or-set_same s.cursors c k 0 cl)) (kl, f))

  pub readied_stage : (s : Stage) (r : List ℕ) (x : ℕ) → IsStage references s → IsFront references s x → ((y : ℕ) → Contains r y → (y ≡ x) ⊎ Contains s.ready y) → IsStage references (readied s r)
  readied_stage s r x h f cases = record {
    len = h.len;
    parts_len = h.parts_len;
    cursors_len = h.cursors_len;
    home_in = h.home_in;
    descends = h.descends;
    parts = h.parts;
    passed = h.passed;
    closed = h.closed;
    ready = λ y m. elim (cases y m) [
      | inl e ↦ let P : ℕ → Type 0 = λ z. IsFront references (readied s r) z in subst P (sym e) (front_readied s r x f)
      | inr o ↦ front_readied s r y (h.ready y o)
    ];
  }

  pub readied_known : (s : Stage) (r : List ℕ) (d : ℕ) → ((y : ℕ) → Contains s.ready y → Contains r y) → IsKnown references s d → IsKnown references (readied s r) d
  readied_known s r d keeps (inl m) = inl (keeps (get_or (row s.parts d) 0 0) m)
  readied_known s r d keeps (inr w) = inr w

  -- every reference was passed
  free_past : (s : Stage) (c k : ℕ) → IsStage references (moved s c k) → c < length s.cursors → length (row references c) ≤ k → IsFree references s.placed c
  free_past s c k h cl le d ed =
      let q : get_or (set s.cursors c k) c 0 ≡ k = get_or-set_same s.cursors c k 0 cl in
      flag_along s.placed (get_or (row references c) ed.0 0) d true (get_or_default (row references c) ed.0 0 d ed.1 ∙ ed.2) (h.passed c ed.0 (omega (arith, ed.1)) ed.1)

  pub front_past : (s : Stage) (c k : ℕ) → IsStage references s → IsStage references (moved s c k) → c < length s.placed → flag s.placed c ≡ false → length (row references c) ≤ k
      → IsFront references (moved s c k) (get_or (row s.parts c) 0 0)
  front_past s c k h m cl new le =
      let p : IsMembers s.home c (row s.parts c) × (0 < length (row s.parts c)) = h.parts c cl new in
      let o : (get_or (row s.parts c) 0 0 < length s.home) × (get_or s.home (get_or (row s.parts c) 0 0) 0 ≡ c) = p.0.sound (get_or (row s.parts c) 0 0) (first_in (row s.parts c) p.1) in
      let F : ℕ → Type 0 = λ d. IsFree references s.placed d in
      record {
        vertex = o.0;
        new = flag_along s.placed c (get_or s.home (get_or (row s.parts c) 0 0) 0) false (sym o.1) new;
        free = subst F (sym o.1) (free_past s c k m (omega (arith, h.cursors_len)) le);
        least = ap (λ d. get_or (row s.parts d) 0 0) o.1;
      }

  -- what the pass over a row of references found
  pub record Passed (s : Stage) (c from k : ℕ) (xs : List ℕ) (ps : List Bool) : Type 0 where
    pub row_is : xs ≡ row references c
    pub placed_is : ps ≡ s.placed
    pub from_is : from ≡ get_or s.cursors c 0
    pub passed : (j : ℕ) → from ≤ j → j < k → j < length xs → flag ps (get_or xs j 0) ≡ true
    pub stops : k < length xs → flag ps (get_or xs k 0) ≡ false

  pub pass_stage : (s : Stage) (c from k : ℕ) (xs : List ℕ) (ps : List Bool) → IsStage references s → c < length s.placed → Passed s c from k xs ps → IsStage references (moved s c k)
  pass_stage s c from k xs ps h cl p =
      let M : List ℕ → List Bool → ℕ → Type 0 = λ ys qs f. (j : ℕ) → f ≤ j → j < k → j < length ys → flag qs (get_or ys j 0) ≡ true in
      let A : List ℕ → Type 0 = λ ys. M ys s.placed (get_or s.cursors c 0) in
      let B : List Bool → Type 0 = λ qs. M xs qs (get_or s.cursors c 0) in
      let C : ℕ → Type 0 = λ f. M xs ps f in
      moved_stage s c k h cl (subst A p.row_is (subst B p.placed_is (subst C p.from_is p.passed)))

  pub pass_waits : (s : Stage) (c from k : ℕ) (xs : List ℕ) (ps : List Bool) → IsStage references s → c < length s.placed → Passed s c from k xs ps → k < length xs → IsKnown references (moved s c k) c
  pass_waits s c from k xs ps h cl p lt =
      let A : List ℕ → Type 0 = λ ys. (k < length ys) × (flag s.placed (get_or ys k 0) ≡ false) in
      let B : List Bool → Type 0 = λ qs. (k < length xs) × (flag qs (get_or xs k 0) ≡ false) in
      let r : (k < length (row references c)) × (flag s.placed (get_or (row references c) k 0) ≡ false) = subst A p.row_is (subst B p.placed_is (lt, p.stops lt)) in
      moved_waits s c k (omega (arith, h.cursors_len)) r.0 r.1

  pub pass_keeps : (s : Stage) (c k d : ℕ) → IsKnown references (moved s c k) c → IsKnown references s d → IsKnown references (moved s c k) d
  pass_keeps s c k d new old = elim (cases_eq d c) [
    | inl e ↦ let P : ℕ → Type 0 = λ z. IsKnown references (moved s c k) z in subst P (sym e) new
    | inr ne ↦ moved_known s c k d ne old
  ]

  -- past the last reference
  pub past_front : (s : Stage) (c from k x : ℕ) (xs : List ℕ) (ps : List Bool) → IsStage references s → c < length s.placed → flag s.placed c ≡ false → Passed s c from k xs ps → length xs ≤ k
      → x ≡ get_or (row s.parts c) 0 0 → IsFront references (moved s c k) x
  past_front s c from k x xs ps h cl new p le e =
      let A : List ℕ → Type 0 = λ ys. length ys ≤ k in
      let P : ℕ → Type 0 = λ z. IsFront references (moved s c k) z in
      subst P (sym e) (front_past s c k h (pass_stage s c from k xs ps h cl p) cl new (subst A p.row_is le))

  pub past_stage : (s : Stage) (c from k x : ℕ) (xs r : List ℕ) (ps : List Bool) → IsStage references s → c < length s.placed → flag s.placed c ≡ false → Passed s c from k xs ps → length xs ≤ k
      → x ≡ get_or (row s.parts c) 0 0 → ((y : ℕ) → Contains r y → (y ≡ x) ⊎ Contains s.ready y) → IsStage references (readied (moved s c k) r)
  past_stage s c from k x xs r ps h cl new p le e cases = readied_stage (moved s c k) r x (pass_stage s c from k xs ps h cl p) (past_front s c from k x xs ps h cl new p le e) cases

  pub past_known : (s : Stage) (c k x : ℕ) (r : List ℕ) → x ≡ get_or (row s.parts c) 0 0 → Contains r x → IsKnown references (readied (moved s c k) r) c
  past_known s c k x r e h = let P : ℕ → Type 0 = λ z. Contains r z in inl (subst P e h)

  pub past_keeps : (s : Stage) (c k x d : ℕ) (r : List ℕ) → x ≡ get_or (row s.parts c) 0 0 → Contains r x → ((y : ℕ) → Contains s.ready y → Contains r y)
      → IsKnown references s d → IsKnown references (readied (moved s c k) r) d
  past_keeps s c k x d r e h keeps old = elim (cases_eq d c) [
    | inl q ↦ let P : ℕ → Type 0 = λ z. IsKnown references (readied (moved s c k) r) z in subst P (sym q) (past_known s c k x r e h)
    | inr ne ↦ readied_known (moved s c k) r d keeps (moved_known s c k d ne old)
  ]

  pub pass_in : (s : Stage) (c : ℕ) (xs : List ℕ) (ps : List Bool) → IsStage references s → xs ≡ row references c → ps ≡ s.placed → (k : ℕ) → k < length xs → get_or xs k 0 < length ps
  pass_in s c xs ps h e f k lt =
      let A : List ℕ → Type 0 = λ ys. k < length ys in
      let ed : Edge references c (get_or (row references c) k 0) = edge_value references c k (subst A e lt) in
      let B : List Bool → Type 0 = λ qs. get_or (row references c) k 0 < length qs in
      let C : List ℕ → Type 0 = λ ys. get_or ys k 0 < length ps in
      let q : get_or (row references c) k 0 < c = h.descends c (get_or (row references c) k 0) ed in
      subst C (sym e) (subst B (sym f) (omega (arith, edge_in references c (get_or (row references c) k 0) ed, h.len)))

-- rows as they are read
pub edge_of : (rows : List (List ℕ)) (c k : ℕ) (xs : List ℕ) → xs ≡ row rows c → k < length xs → Edge rows c (get_or xs k 0)
edge_of rows c k xs e lt = let P : List ℕ → Type 0 = λ ys. Contains ys (get_or xs k 0) in subst P e (Contains-get_or xs k 0 lt)

pub each_of : (M : ℕ → Type 0) (rows : List (List ℕ)) (c : ℕ) (xs : List ℕ) → xs ≡ row rows c → ((k : ℕ) → k < length xs → M (get_or xs k 0)) → (d : ℕ) → Edge rows c d → M d
each_of M rows c xs e all d ed =
    let P : List ℕ → Type 0 = λ ys. Contains ys d in
    let h : Contains xs d = subst P (sym e) ed in
    subst M (get_or_default xs h.0 0 d h.1 ∙ h.2) (all h.0 h.1)
