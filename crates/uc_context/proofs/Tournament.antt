-- The least unused number in a tree of tallies.
use Rattle.std.proofs.Common.{◌≡◌, ◌≢◌, ℕ, zero, suc, ◌+◌, ◌*◌, ◌-◌, ◌/◌, ◌<◌, ◌≤◌, Bool, true, false, cond, eqb, List, [], ◌∷◌, ◌++◌, length, set, min, arith, refl, sym, ap, ◌∙◌, ◌⊎◌, inl, inr, subst}
use Rattle.std.specs.Prelude.{slice_index}
use Rattle.std.proofs.lemmas.List.{get_or-set_same, get_or-set_other, get_or_past, get_or_push, get_or_append_left, length_push, map-set, set-get_or, get_or-map, length-map}
use Rattle.std.proofs.lemmas.Bool.{cases_eq, cases_lt, cases_order, eqb-true}
use Rattle.uc_context.specs.declared.numbers.Tally.{Tally}
use Rattle.uc_context.specs.Numbers.{tally_at, winner_at, IsPlayed, IsTournament, uses_of}

-- a tally that is written, with the uses that stood there and the least number that its place has to have
module _ (ts : List Tally) (at : ℕ) (t : Tally) (within : at < length ts) (same : t.uses ≡ (tally_at ts at).uses) (won : t.least ≡ winner_at ts at) where
  elsewhere : (x : ℕ) → x ≢ at → 2 * x + 1 ≢ at → 2 * x + 2 ≢ at → IsPlayed ts x → IsPlayed (set ts at t) x
  elsewhere x here left right played =
      let a : tally_at (set ts at t) x ≡ tally_at ts x = get_or-set_other ts at x t (record { uses = 0; least = x }) here in
      let b : tally_at (set ts at t) (2 * x + 1) ≡ tally_at ts (2 * x + 1) = get_or-set_other ts at (2 * x + 1) t (record { uses = 0; least = 2 * x + 1 }) left in
      let c : tally_at (set ts at t) (2 * x + 2) ≡ tally_at ts (2 * x + 2) = get_or-set_other ts at (2 * x + 2) t (record { uses = 0; least = 2 * x + 2 }) right in
      rw (a, b, c) played

  here : IsPlayed (set ts at t) at
  here =
      let a : tally_at (set ts at t) at ≡ t = get_or-set_same ts at t (record { uses = 0; least = at }) within in
      let b : tally_at (set ts at t) (2 * at + 1) ≡ tally_at ts (2 * at + 1) = get_or-set_other ts at (2 * at + 1) t (record { uses = 0; least = 2 * at + 1 }) (omega arith) in
      let c : tally_at (set ts at t) (2 * at + 2) ≡ tally_at ts (2 * at + 2) = get_or-set_other ts at (2 * at + 2) t (record { uses = 0; least = 2 * at + 2 }) (omega arith) in
      rw (a, b, c, same) won

  pub stays_played : (x : ℕ) → 2 * x + 1 ≢ at → 2 * x + 2 ≢ at → ((y : ℕ) → y ≢ at → IsPlayed ts y) → IsPlayed (set ts at t) x
  stays_played x left right others = go (cases_eq x at)
    where
      go : (x ≡ at) ⊎ (x ≡ at → ⊥) → IsPlayed (set ts at t) x
      go (inl e) = rw e here
      go (inr n) = elsewhere x n left right (others x n)

  -- above the root there is nothing
  pub played_at_root : at ≡ 0 → ((y : ℕ) → y ≢ at → IsPlayed ts y) → IsTournament (set ts at t)
  played_at_root root others x = stays_played x (omega arith) (omega arith) others

  -- elsewhere all but the place right above is played
  pub played_below : 0 < at → ((y : ℕ) → y ≢ at → IsPlayed ts y) → (x : ℕ) → x ≢ (at - 1) / 2 → IsPlayed (set ts at t) x
  played_below inner others x above = stays_played x (omega arith) (omega arith) others

  pub uses-set : uses_of (set ts at t) ≡ uses_of ts
  uses-set =
      map-set (λ (s : Tally). s.uses) ts at t
      ∙ ap (set (uses_of ts) at) (same ∙ sym (get_or-map (λ (s : Tally). s.uses) ts at (record { uses = 0; least = at }) 0 within))
      ∙ set-get_or (uses_of ts) at 0

module _ (ts : List Tally) (played : IsTournament ts) where
  -- what holds of the least number below a place: it is no smaller than the place, and unused
  Leads : ℕ → ℕ → Type 0
  Leads x n = (x ≤ n) × ((tally_at ts n).uses ≡ 0)

  least_of_two : (x l r : ℕ) → Leads (2 * x + 1) l → Leads (2 * x + 2) r → Leads x (min l r)
  unfolding Leads
  least_of_two x l r a b = elim (cases_lt l r) [ inl h ↦ let e : min l r ≡ l = omega arith in rw e (omega (arith, a.0), a.1) | inr h ↦ let e : min l r ≡ r = omega arith in rw e (omega (arith, b.0), b.1) ]

  least_by_use : (x n l r : ℕ) (b : Bool) → eqb (tally_at ts x).uses 0 ≡ b → n ≡ cond b x (min l r) → Leads (2 * x + 1) l → Leads (2 * x + 2) r → Leads x n
  unfolding Leads
  least_by_use x n l r true is e a b = rw e (omega arith, eqb-true (tally_at ts x).uses 0 is)
  least_by_use x n l r false is e a b = rw e (unfold Leads in least_of_two x l r a b)

  leads : (room x : ℕ) → length ts ≤ x + room → Leads x (tally_at ts x).least
  unfolding Leads
  leads zero x end =
      let e : tally_at ts x ≡ record { uses = 0; least = x } = get_or_past ts x (record { uses = 0; least = x }) (omega arith) in
      let f : (tally_at ts x).least ≡ x = ap (λ (t : Tally). t.least) e in
      rw f (omega arith, ap (λ (t : Tally). t.uses) e)
  leads (suc room) x end =
      least_by_use x (tally_at ts x).least (tally_at ts (2 * x + 1)).least (tally_at ts (2 * x + 2)).least (eqb (tally_at ts x).uses 0) refl (played x)
      (leads room (2 * x + 1) (omega arith)) (leads room (2 * x + 2) (omega arith))

  -- the least number below a place is no larger than that below a place right below
  above_left : (p m : ℕ) (b : Bool) → (tally_at ts p).least ≡ cond b p (min (tally_at ts (2 * p + 1)).least (tally_at ts (2 * p + 2)).least) → (tally_at ts (2 * p + 1)).least ≤ m → (tally_at ts p).least ≤ m
  unfolding Leads
  above_left p m true e le = omega (arith, (leads (length ts) (2 * p + 1) (omega arith)).0)
  above_left p m false e le = omega arith

  above_right : (p m : ℕ) (b : Bool) → (tally_at ts p).least ≡ cond b p (min (tally_at ts (2 * p + 1)).least (tally_at ts (2 * p + 2)).least) → (tally_at ts (2 * p + 2)).least ≤ m → (tally_at ts p).least ≤ m
  unfolding Leads
  above_right p m true e le = omega (arith, (leads (length ts) (2 * p + 2) (omega arith)).0)
  above_right p m false e le = omega arith

  above : (p x m : ℕ) → (x ≡ 2 * p + 1) ⊎ (x ≡ 2 * p + 2) → (tally_at ts x).least ≤ m → (tally_at ts p).least ≤ m
  above p x m (inl e) le = above_left p m (eqb (tally_at ts p).uses 0) (played p) (subst (λ (y : ℕ). (tally_at ts y).least ≤ m) e le)
  above p x m (inr e) le = above_right p m (eqb (tally_at ts p).uses 0) (played p) (subst (λ (y : ℕ). (tally_at ts y).least ≤ m) e le)

  left_or_right : (x : ℕ) → (suc x ≡ 2 * (x / 2) + 1) ⊎ (suc x ≡ 2 * (x / 2) + 2)
  left_or_right x = elim (cases_eq (suc x) (2 * (x / 2) + 1)) [ inl e ↦ inl e | inr n ↦ inr (omega arith) ]

  -- no unused number is below the least one at the root
  upwards : (room x m : ℕ) → x ≤ room → (tally_at ts x).least ≤ m → (tally_at ts 0).least ≤ m
  upwards room zero m h le = le
  upwards zero (suc x) m h le = absurd (omega arith)
  upwards (suc room) (suc x) m h le = upwards room (x / 2) m (omega arith) (above (x / 2) (suc x) m (left_or_right x) le)

  pub root_unused : (tally_at ts (tally_at ts 0).least).uses ≡ 0
  unfolding Leads
  root_unused = (leads (length ts) 0 (omega arith)).1

  pub root_least : (m : ℕ) → (tally_at ts m).uses ≡ 0 → (tally_at ts 0).least ≤ m
  root_least m unused =
      let e : (tally_at ts m).least ≡ m = played m ∙ rw unused refl in
      upwards m m m (omega arith) (omega arith)

-- other uses with the least numbers as they are
module _ (ts : List Tally) (at : ℕ) (t : Tally) (within : at < length ts) (least : t.least ≡ (tally_at ts at).least) where
  least-set : (x : ℕ) → (tally_at (set ts at t) x).least ≡ (tally_at ts x).least
  least-set x = elim (cases_eq x at) [
    | inl e ↦ subst (λ (y : ℕ). (tally_at (set ts at t) y).least ≡ (tally_at ts y).least) (sym e) (ap (λ (s : Tally). s.least) (get_or-set_same ts at t (record { uses = 0; least = at }) within) ∙ least)
    | inr n ↦ ap (λ (s : Tally). s.least) (get_or-set_other ts at x t (record { uses = 0; least = x }) n)
  ]

  pub others_stay_played : IsTournament ts → (x : ℕ) → x ≢ at → IsPlayed (set ts at t) x
  others_stay_played played x n =
      let a : (tally_at (set ts at t) x).uses ≡ (tally_at ts x).uses = ap (λ (s : Tally). s.uses) (get_or-set_other ts at x t (record { uses = 0; least = x }) n) in
      rw (least-set x, a, least-set (2 * x + 1), least-set (2 * x + 2)) (played x)

-- a number more, which is unused
pub tally_at-push : (ts : List Tally) (n x : ℕ) → length ts ≡ n → tally_at (ts ++ record { uses = 0; least = n } ∷ []) x ≡ tally_at ts x
tally_at-push ts n x e = elim (cases_order x n) [
  | inl here ↦ subst (λ (y : ℕ). tally_at (ts ++ record { uses = 0; least = n } ∷ []) y ≡ tally_at ts y) (sym here)
      (get_or_push ts (record { uses = 0; least = n }) (record { uses = 0; least = n }) n e ∙ sym (get_or_past ts n (record { uses = 0; least = n }) (omega arith)))
  | inr (inl below) ↦ get_or_append_left ts (record { uses = 0; least = n } ∷ []) (record { uses = 0; least = x }) x (omega arith)
  | inr (inr past) ↦ get_or_past (ts ++ record { uses = 0; least = n } ∷ []) x (record { uses = 0; least = x }) (omega (arith, length_push ts (record { uses = 0; least = n }))) ∙ sym (get_or_past ts x (record { uses = 0; least = x }) (omega arith))
]

-- uses as the tallies have them
pub uses_at-tally : (ts : List Tally) (x : ℕ) → slice_index (uses_of ts) x ≡ (tally_at ts x).uses
uses_at-tally ts x = elim (cases_lt x (length ts)) [
  | inl h ↦ get_or-map (λ (t : Tally). t.uses) ts x (record { uses = 0; least = x }) 0 h
  | inr h ↦ get_or_past (uses_of ts) x 0 (omega (arith, length-map ts (λ (t : Tally). t.uses))) ∙ ap (λ (t : Tally). t.uses) (sym (get_or_past ts x (record { uses = 0; least = x }) h))
]

module _ (ts front : List Tally) (uses : List ℕ) (n : ℕ) (view : uses_of ts ≡ uses) (played : IsTournament ts) (same : front ≡ ts) (is : n ≡ (tally_at front 0).least) where
  root : n ≡ (tally_at ts 0).least
  root = is ∙ ap (λ (us : List Tally). (tally_at us 0).least) same

  pub least_is_unused : slice_index uses n ≡ 0
  least_is_unused = subst (λ (u : List ℕ). slice_index u n ≡ 0) view (rw root (uses_at-tally ts (tally_at ts 0).least ∙ root_unused ts played))

  pub below_least_is_used : (m : ℕ) → m < n → 0 < slice_index uses m
  below_least_is_used m below = subst (λ (u : List ℕ). 0 < slice_index u m) view (go (slice_index (uses_of ts) m) refl)
    where
      go : (k : ℕ) → slice_index (uses_of ts) m ≡ k → 0 < slice_index (uses_of ts) m
      go zero e = absurd (omega (arith, root, root_least ts played m (sym (uses_at-tally ts m) ∙ e)))
      go (suc k) e = omega (arith, e)

pub same_uses : (ts us : List Tally) (uses : List ℕ) → uses_of ts ≡ uses → ((x : ℕ) → tally_at us x ≡ tally_at ts x) → (x : ℕ) → slice_index (uses_of us) x ≡ slice_index uses x
same_uses ts us uses view same x = uses_at-tally us x ∙ ap (λ (t : Tally). t.uses) (same x) ∙ sym (uses_at-tally ts x) ∙ ap (λ (u : List ℕ). slice_index u x) view
