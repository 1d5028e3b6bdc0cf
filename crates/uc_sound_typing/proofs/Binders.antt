-- The types of binders.
use Rattle.std.proofs.Common.{◌≡◌, ℕ, Bool, true, false, cond, eqb, List, [], ◌∷◌, ◌++◌, Option, Some, None, refl, sym, ap, subst, ◌∙◌, append_assoc}
use Rattle.std.specs.List.{list_any}
use Rattle.std.specs.Option.{option_or}
use Rattle.std.proofs.lemmas.Bool.{or_parts, or_from, eqb-true, eq-eqb, false≢true, false_from_ne_true}
use Rattle.std.proofs.lemmas.Option.{none-some, same_Some}
use Rattle.uc_kinds.specs.WellFormed.{Arity}
use Rattle.uc_kinds.specs.Polytypes.{Poly}
use Rattle.uc_context.specs.declared.entry.Entry.{Entry}
use Rattle.uc_context.specs.declared.entry.Entry.TheVariants.{Rigid, Exists, Solved, Mark, Binder}
use Rattle.uc_context.specs.Contexts.{binder_type}
use Rattle.uc_context.specs.Opens.{Open}
use Rattle.uc_context.specs.Entries.{ContextEntries, is_binder}
use Rattle.uc_soundness.specs.Extending.{Extends, extends_none, extends_same, extends_solved, extends_new, extends_new_solved}
use Rattle.uc_soundness.specs.Valuations.{Valuation}
use Rattle.uc_soundness.specs.WellFormed.{IsTypeIn, AreWellFormed, IsWellFormedContext}
use Rattle.uc_soundness.proofs.Types.{Covered-front, type_covered, type_declared}
use Rattle.uc_soundness.proofs.Values.{Agree, value_agree}
use Rattle.uc_soundness.proofs.WellFormed.{CanStand, well_formed_parts}
use Rattle.uc_typing.specs.Stops.{Variables}
use Rattle.uc_sound_typing.specs.Growing.{AreNewEntries, Grows}
use Rattle.uc_sound_typing.specs.Seeing.{AreBound, none_bound, one_bound, one_unused, AreValues, no_values, value_of_binder, value_of_unused}

module _ (n : ℕ) where
  -- one entry more in front of both
  binder_step : (e : Entry) (es fs : ContextEntries) → binder_type fs n ≡ binder_type es n → binder_type (e ∷ fs) n ≡ binder_type (e ∷ es) n
  binder_step (Rigid y) es fs h = h
  binder_step (Exists y) es fs h = h
  binder_step (Solved y t) es fs h = h
  binder_step (Mark y) es fs h = h
  binder_step (Binder y t) es fs h = ap (λ (o : Option Open). option_or o (cond (eqb y n) (Some t) None)) h

  -- binders keep their types
  same_binder : {es fs : ContextEntries} → Extends es fs → binder_type fs n ≡ binder_type es n
  same_binder extends_none = refl
  same_binder (extends_same {e} {es} {fs} d) = binder_step e es fs (same_binder d)
  same_binder (extends_solved d) = same_binder d
  same_binder (extends_new d) = same_binder d
  same_binder (extends_new_solved d) = same_binder d

  unbound : (es : ContextEntries) → list_any (is_binder n) es ≡ false → binder_type es n ≡ None
  unbound [] h = refl
  unbound (Rigid y ∷ es) h = unbound es h
  unbound (Exists y ∷ es) h = unbound es h
  unbound (Solved y t ∷ es) h = unbound es h
  unbound (Mark y ∷ es) h = unbound es h
  unbound (Binder y t ∷ es) h = let p = or_parts (eqb y n) (list_any (is_binder n) es) h in rw (unbound es p.1, p.0) refl

  binder_front : (es ds : ContextEntries) → list_any (is_binder n) ds ≡ false → binder_type (es ++ ds) n ≡ binder_type es n
  binder_front [] ds h = unbound ds h
  binder_front (e ∷ es) ds h = binder_step e es (es ++ ds) (binder_front es ds h)

  bound_somewhere : (es : ContextEntries) (t : Open) → binder_type es n ≡ Some t → list_any (is_binder n) es ≡ true
  bound_somewhere es t is = go (list_any (is_binder n) es) refl
    where
      go : (b : Bool) → list_any (is_binder n) es ≡ b → b ≡ true
      go true h = refl
      go false h = absurd (none-some t (sym (unbound es h) ∙ is))

  new_apart : (es ds : ContextEntries) → AreNewEntries es ds → list_any (is_binder n) es ≡ true → list_any (is_binder n) ds ≡ false
  new_apart es [] h there = refl
  new_apart es (Rigid y ∷ ds) h there = absurd h.0
  new_apart es (Exists y ∷ ds) h there = new_apart es ds h.1 there
  new_apart es (Solved y t ∷ ds) h there = new_apart es ds h.1 there
  new_apart es (Mark y ∷ ds) h there = absurd h.0
  new_apart es (Binder y t ∷ ds) h there =
      or_from (eqb y n) (list_any (is_binder n) ds)
      (false_from_ne_true (eqb y n) (λ same. false≢true (sym h.0 ∙ subst (λ (m : ℕ). list_any (is_binder m) es ≡ true) (sym (eqb-true y n same)) there))) (new_apart es ds h.1 there)

  pub binder_kept : {es fs : ContextEntries} (t : Open) → Grows es fs → binder_type es n ≡ Some t → binder_type fs n ≡ Some t
  binder_kept {es = es} t g is =
      ap (λ (cs : ContextEntries). binder_type cs n) g.whole
      ∙ binder_front g.front g.new (new_apart es g.new g.behind (bound_somewhere es t is)) ∙ same_binder g.extends ∙ is

  behind_one : (e : Entry) (es : ContextEntries) (t : Open) → binder_type es n ≡ Some t → binder_type (e ∷ es) n ≡ Some t
  behind_one (Rigid y) es t h = h
  behind_one (Exists y) es t h = h
  behind_one (Solved y s) es t h = h
  behind_one (Mark y) es t h = h
  behind_one (Binder y s) es t h = rw h refl

  pub binder_last : (es : ContextEntries) (t : Open) → binder_type (es ++ Binder n t ∷ []) n ≡ Some t
  binder_last [] t = rw (eq-eqb n n refl) refl
  binder_last (e ∷ es) t = behind_one e (es ++ Binder n t ∷ []) t (binder_last es t)

  module _ (arity : Arity) where
    typed_among : (front es : ContextEntries) (t : Open) → AreWellFormed arity front es → binder_type es n ≡ Some t → IsTypeIn arity (front ++ es) 0 t
    typed_among front [] t wf is = absurd (none-some t is)
    typed_among front (e ∷ es) t wf is =
        let p = well_formed_parts arity front e es wf in
        go e p.0 (λ rest. subst (λ (cs : ContextEntries). IsTypeIn arity cs 0 t) (append_assoc front (e ∷ []) es) (typed_among (front ++ e ∷ []) es t p.1 rest)) is
      where
        here : (y : ℕ) (s : Open) → IsTypeIn arity front 0 s → (b : Bool) → cond b (Some s) None ≡ Some t → IsTypeIn arity (front ++ e ∷ es) 0 t
        here y s typed true h = type_covered arity front (front ++ e ∷ es) (Covered-front front (e ∷ es)) 0 t (subst (IsTypeIn arity front 0) (same_Some s t h) typed)
        here y s typed false h = absurd (none-some t h)

        either : (y : ℕ) (s : Open) → IsTypeIn arity front 0 s → (binder_type es n ≡ Some t → IsTypeIn arity (front ++ e ∷ es) 0 t) → (o : Option Open) → binder_type es n ≡ o
            → option_or o (cond (eqb y n) (Some s) None) ≡ Some t → IsTypeIn arity (front ++ e ∷ es) 0 t
        either y s typed rest None found h = here y s typed (eqb y n) h
        either y s typed rest (Some u) found h = rest (found ∙ h)

        go : (d : Entry) → CanStand arity front d → (binder_type es n ≡ Some t → IsTypeIn arity (front ++ e ∷ es) 0 t) → binder_type (d ∷ es) n ≡ Some t → IsTypeIn arity (front ++ e ∷ es) 0 t
        go (Rigid y) s rest h = rest h
        go (Exists y) s rest h = rest h
        go (Solved y u) s rest h = rest h
        go (Mark y) s rest h = rest h
        go (Binder y u) s rest h = either y u s rest (binder_type es n) refl h

    -- the type of a binder is well-formed
    pub binder_typed : (es : ContextEntries) (t : Open) → IsWellFormedContext arity es → binder_type es n ≡ Some t → IsTypeIn arity es 0 t
    binder_typed es t wf is = typed_among [] es t wf is

-- binders of the first context have their types in the second
abbrev pub Keeps : ContextEntries → ContextEntries → Type 0
Keeps es fs = (n : ℕ) (t : Open) → binder_type es n ≡ Some t → binder_type fs n ≡ Some t

pub keeps_grown : {es fs : ContextEntries} → Grows es fs → Keeps es fs
keeps_grown g n t is = binder_kept n t g is

pub keeps_rigid : (es : ContextEntries) (x : ℕ) → Keeps es (es ++ Rigid x ∷ [])
keeps_rigid es x n t is = binder_front n es (Rigid x ∷ []) refl ∙ is

pub keeps_marked : (es : ContextEntries) (x : ℕ) → Keeps es (es ++ Mark x ∷ [])
keeps_marked es x n t is = binder_front n es (Mark x ∷ []) refl ∙ is

-- variables stay bound, and keep their types
pub bound_on : {es fs : ContextEntries} {vars : Variables} → AreBound es vars → Keeps es fs → AreBound fs vars
bound_on none_bound g = none_bound
bound_on (one_bound {n = n} {t = t} is b) g = one_bound (g n t is) (bound_on b g)
bound_on (one_unused b) g = one_unused (bound_on b g)

pub values_on : {outer : ℕ} {σ : Valuation outer} {es fs : ContextEntries} {vars : Variables} {ps : List Poly} → AreValues σ es vars ps → Keeps es fs → AreValues σ fs vars ps
values_on no_values g = no_values
values_on (value_of_binder {n = n} {t = t} is same v) g = value_of_binder (g n t is) same (values_on v g)
values_on (value_of_unused v) g = value_of_unused (values_on v g)

pub values_agreed : (arity : Arity) {outer : ℕ} {σ : Valuation outer} {es : ContextEntries} {vars : Variables} {ps : List Poly} → AreValues σ es vars ps
    → IsWellFormedContext arity es → (ρ : Valuation outer) → Agree σ ρ es → AreValues ρ es vars ps
values_agreed arity no_values wf ρ agree = no_values
values_agreed arity {σ = σ} {es = es} (value_of_binder {n = n} {t = t} is same v) wf ρ agree =
    value_of_binder is (same ∙ sym (value_agree σ ρ es agree t (type_declared arity es 0 t (binder_typed n arity es t wf is)))) (values_agreed arity v wf ρ agree)
values_agreed arity (value_of_unused v) wf ρ agree = value_of_unused (values_agreed arity v wf ρ agree)
