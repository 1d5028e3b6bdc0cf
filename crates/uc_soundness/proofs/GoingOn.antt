-- Valuations that go on to more entries.
use Rattle.std.proofs.Common.{◌≡◌, ℕ, true, false, cond, eqb, List, [], ◌∷◌, ◌++◌, refl, sym, subst, ◌∙◌, append_assoc}
use Rattle.std.specs.List.{list_any}
use Rattle.std.proofs.lemmas.Bool.{or_left, or_right, eqb-true, eq-eqb, false≢true, false_from_ne_true}
use Rattle.std.proofs.lemmas.List.Folds.{list_any-append}
use Rattle.uc_kinds.specs.WellFormed.{Arity}
use Rattle.uc_kinds.specs.Polytypes as poly
use Rattle.uc_kinds.specs.Polytypes.{Poly}
use Rattle.uc_kinds.specs.Subtyping.{IsMono, mono_unit}
use Rattle.uc_context.specs.declared.entry.Entry.{Entry}
use Rattle.uc_context.specs.declared.entry.Entry.TheVariants.{Rigid, Exists, Solved, Mark, Binder}
use Rattle.uc_context.specs.Entries.{ContextEntries, is_variable, declares}
use Rattle.uc_context.proofs.Solutions.{declared_variable}
use Rattle.uc_soundness.specs.Laws.{ValuationsGoOn}
use Rattle.uc_soundness.specs.Valuations.{Valuation, value, rigids, all_below, scope_of, Values}
use Rattle.uc_soundness.specs.WellFormed.{AreWellFormed}
use Rattle.uc_soundness.proofs.Types.{mono_declared}
use Rattle.uc_soundness.proofs.Values.{Agree, value_agree, Knows, mono_value}
use Rattle.uc_soundness.proofs.Fitting.{Holds, values_parts, values_from, values_append, knows_push, knows_all}
use Rattle.uc_soundness.proofs.WellFormed.{CanStand, well_formed_parts, well_formed_front, well_formed_behind}

-- a valuation with another type for an existential
unfoldable put : {outer : ℕ} → Valuation outer → ℕ → Poly → Valuation outer
put σ x p = record { stands_for = λ y. cond (eqb x y) p (σ.stands_for y) }

put_here : {outer : ℕ} (σ : Valuation outer) (x : ℕ) (p : Poly) → (put σ x p).stands_for x ≡ p
unfolding put
put_here σ x p = rw (eq-eqb x x refl) refl

put_apart : {outer : ℕ} (σ : Valuation outer) (x : ℕ) (p : Poly) (es : ContextEntries) → list_any (is_variable x) es ≡ false → Agree σ (put σ x p) es
unfolding put
put_apart σ x p es none y h =
    let other : eqb x y ≡ false = false_from_ne_true (eqb x y) (λ same. false≢true (sym none ∙ subst (λ (z : ℕ). list_any (is_variable z) es ≡ true) (sym (eqb-true x y same)) (declared_variable y es h))) in
    rw other refl

Agree-front : {outer : ℕ} (σ ρ : Valuation outer) (es ds : ContextEntries) → Agree σ ρ (es ++ ds) → Agree σ ρ es
Agree-front σ ρ es ds agree x h = agree x (list_any-append (declares x) es ds ∙ or_left (list_any (declares x) es) (list_any (declares x) ds) h)

module _ (arity : Arity) {outer : ℕ} where
  knows_agree : (σ ρ : Valuation outer) (xs : List ℕ) (es : ContextEntries) → Agree σ ρ es → Knows arity σ xs es → Knows arity ρ xs es
  knows_agree σ ρ xs es agree k = record { existentials = λ x h. subst (IsMono arity xs) (sym (agree x h)) (k.existentials x h); in_scope = k.in_scope }

  -- what a valuation says of an entry, another says that agrees with it so far
  here : (σ ρ : Valuation outer) (front : ContextEntries) (e : Entry) (x : ℕ) → declares x e ≡ true → Agree σ ρ (front ++ e ∷ []) → ρ.stands_for x ≡ σ.stands_for x
  here σ ρ front e x is agree =
      agree x (list_any-append (declares x) front (e ∷ []) ∙ or_right (list_any (declares x) front) (list_any (declares x) (e ∷ [])) (or_left (declares x e) false is))

  holds_agree : (σ ρ : Valuation outer) (xs : List ℕ) (front : ContextEntries) (e : Entry) → CanStand arity front e → Agree σ ρ (front ++ e ∷ []) → Holds arity σ xs e → Holds arity ρ xs e
  holds_agree σ ρ xs front (Rigid x) s agree h = tt
  holds_agree σ ρ xs front (Exists x) s agree h = subst (IsMono arity xs) (sym (here σ ρ front (Exists x) x (eq-eqb x x refl) agree)) h
  holds_agree σ ρ xs front (Solved x t) s agree h =
      let e : ρ.stands_for x ≡ σ.stands_for x = here σ ρ front (Solved x t) x (eq-eqb x x refl) agree in
      (subst (IsMono arity xs) (sym e) h.0, e ∙ h.1 ∙ sym (value_agree σ ρ front (Agree-front σ ρ front (Solved x t ∷ []) agree) t (mono_declared arity front 0 t s.1)))
  holds_agree σ ρ xs front (Mark x) s agree h = tt
  holds_agree σ ρ xs front (Binder x t) s agree h = tt

  values_agree : (σ ρ : Valuation outer) (xs : List ℕ) (front es : ContextEntries) → AreWellFormed arity front es → Agree σ ρ (front ++ es) → Values arity σ xs es → Values arity ρ xs es
  values_agree σ ρ xs front [] wf agree v = tt
  values_agree σ ρ xs front (e ∷ es) wf agree v =
      let p = well_formed_parts arity front e es wf in
      let q = values_parts arity σ xs e es v in
      let through : Agree σ ρ ((front ++ e ∷ []) ++ es) = subst (Agree σ ρ) (sym (append_assoc front (e ∷ []) es)) agree in
      values_from arity ρ xs e es (holds_agree σ ρ xs front e p.0 (Agree-front σ ρ (front ++ e ∷ []) es through) q.0) (values_agree σ ρ (rigids outer xs (e ∷ [])) (front ++ e ∷ []) es p.1 through q.1)

  -- one entry more
  choose : (σ : Valuation outer) (xs : List ℕ) (front : ContextEntries) (e : Entry) → CanStand arity front e → Knows arity σ xs front → (ρ : Valuation outer) × Holds arity ρ xs e × Agree σ ρ front
  choose σ xs front (Rigid x) s k = (σ, tt, λ y h. refl)
  choose σ xs front (Exists x) s k = (put σ x poly.unit, subst (IsMono arity xs) (sym (put_here σ x poly.unit)) mono_unit, put_apart σ x poly.unit front s)
  choose σ xs front (Solved x t) s k =
      let agree : Agree σ (put σ x (value σ t)) front = put_apart σ x (value σ t) front s.0 in (
        put σ x (value σ t),
        (subst (IsMono arity xs) (sym (put_here σ x (value σ t))) (mono_value arity σ xs front k t s.1), put_here σ x (value σ t) ∙ sym (value_agree σ (put σ x (value σ t)) front agree t (mono_declared arity front 0 t s.1))),
        agree,
      )
  choose σ xs front (Mark x) s k = (σ, tt, λ y h. refl)
  choose σ xs front (Binder x t) s k = (σ, tt, λ y h. refl)

  -- and entries more
  go_on : (σ : Valuation outer) (xs : List ℕ) (front es : ContextEntries) → AreWellFormed arity front es → Knows arity σ xs front → (ρ : Valuation outer) × Values arity ρ xs es × Agree σ ρ front
  go_on σ xs front [] wf k = (σ, tt, λ x h. refl)
  go_on σ xs front (e ∷ es) wf k =
      let p = well_formed_parts arity front e es wf in
      let c = choose σ xs front e p.0 k in
      let r = go_on c.0 (rigids outer xs (e ∷ [])) (front ++ e ∷ []) es p.1 (knows_push arity c.0 xs front e c.1 (knows_agree σ c.0 xs front c.2 k)) in
      (r.0, values_from arity r.0 xs e es (holds_agree c.0 r.0 xs front e p.0 r.2 c.1) r.1, λ x h. Agree-front c.0 r.0 front (e ∷ []) r.2 x h ∙ c.2 x h)

pub valuations_go_on : ValuationsGoOn
valuations_go_on arity outer es ds wf σ fits =
    let r = go_on arity σ (scope_of outer es) es ds (well_formed_behind arity [] es ds wf) (knows_all arity σ es fits) in
    (r.0, values_append arity r.0 (all_below outer) es ds (values_agree arity σ r.0 (all_below outer) [] es (well_formed_front arity [] es ds wf) r.2 fits) r.1, r.2)
