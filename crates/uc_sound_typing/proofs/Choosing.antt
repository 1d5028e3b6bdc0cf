-- Valuations that give unsolved existentials chosen types.
use Rattle.std.proofs.Common.{◌≡◌, ℕ, ◌+◌, Bool, true, false, cond, eqb, ◌||◌, List, [], ◌∷◌, ◌++◌, Some, None, refl, sym, subst, ◌∙◌, inl, inr}
use Rattle.std.specs.List.{list_any}
use Rattle.std.proofs.lemmas.Bool.{or_left, or_right, or_cases, eqb-true, eq-eqb, false≢true, false_from_ne_true}
use Rattle.std.proofs.lemmas.List.Folds.{list_any-append}
use Rattle.uc_base.proofs.GraphOrder.{tail_in}
use Rattle.uc_kinds.specs.WellFormed.{Arity}
use Rattle.uc_kinds.specs.Polytypes.{Poly}
use Rattle.uc_kinds.specs.Subtyping.{IsMono}
use Rattle.uc_context.specs.declared.entry.Entry.{Entry}
use Rattle.uc_context.specs.declared.entry.Entry.TheVariants.{Rigid, Exists, Solved, Mark, Binder}
use Rattle.uc_context.specs.Contexts.{solution_of}
use Rattle.uc_context.specs.Entries.{ContextEntries, is_variable, declares}
use Rattle.uc_context.specs.Opens.{Open}
use Rattle.uc_context.proofs.Solutions.{declared_variable}
use Rattle.uc_soundness.specs.Valuations.{Valuation, value, rigids, all_below, Values, Fits}
use Rattle.uc_soundness.specs.WellFormed.{AreWellFormed, IsWellFormedContext}
use Rattle.uc_soundness.proofs.Types.{mono_declared}
use Rattle.uc_soundness.proofs.Values.{Agree, value_agree, Knows, mono_value, mono_more}
use Rattle.uc_soundness.proofs.Fitting.{Holds, values_from, knows_none, knows_push}
use Rattle.uc_soundness.proofs.WellFormed.{CanStand, well_formed_parts}

-- a valuation with another type for an existential
unfoldable put : {outer : ℕ} → Valuation outer → ℕ → Poly → Valuation outer
put σ x p = record { stands_for = λ y. cond (eqb x y) p (σ.stands_for y) }

put_here : {outer : ℕ} (σ : Valuation outer) (x : ℕ) (p : Poly) → (put σ x p).stands_for x ≡ p
unfolding put
put_here σ x p = rw (eq-eqb x x refl) refl

put_apart : {outer : ℕ} (σ : Valuation outer) (x : ℕ) (p : Poly) (es : ContextEntries) → list_any (is_variable x) es ≡ false → Agree σ (put σ x p) es
unfolding put
put_apart σ x p es none y h =
    let other : eqb x y ≡ false = false_from_ne_true (eqb x y) (λ same. false≢true (sym none ∙ subst (λ (z : ℕ). list_any (is_variable z) es ≡ true) (sym (eqb-true x y same)) (declared_variable y es h))) in
    rw other refl

Agree-front : {outer : ℕ} (σ ρ : Valuation outer) (es ds : ContextEntries) → Agree σ ρ (es ++ ds) → Agree σ ρ es
Agree-front σ ρ es ds agree x h = agree x (list_any-append (declares x) es ds ∙ or_left (list_any (declares x) es) (list_any (declares x) ds) h)

-- what is chosen for an existential stays a monotype under another rigid variable
more_chosen : (arity : Arity) (outer : ℕ) (chosen : ℕ → Poly) (xs : List ℕ) (e : Entry) → ((x : ℕ) → IsMono arity xs (chosen x)) → (x : ℕ) → IsMono arity (rigids outer xs (e ∷ [])) (chosen x)
more_chosen arity outer chosen xs (Rigid y) m x = mono_more arity xs ((outer + y) ∷ xs) (λ z there. tail_in (outer + y) z xs there) (m x)
more_chosen arity outer chosen xs (Exists y) m x = m x
more_chosen arity outer chosen xs (Solved y t) m x = m x
more_chosen arity outer chosen xs (Mark y) m x = m x
more_chosen arity outer chosen xs (Binder y t) m x = m x

module _ (arity : Arity) {outer : ℕ} (chosen : ℕ → Poly) where
  -- an unsolved existential stands for what is chosen for it
  abbrev IsChosen : Valuation outer → Entry → Type 0
  IsChosen σ (Rigid x) = Unit {0}
  IsChosen σ (Exists x) = σ.stands_for x ≡ chosen x
  IsChosen σ (Solved x t) = Unit {0}
  IsChosen σ (Mark x) = Unit {0}
  IsChosen σ (Binder x t) = Unit {0}

  abbrev pub AreChosen : Valuation outer → ContextEntries → Type 0
  AreChosen σ es = (x : ℕ) → list_any (declares x) es ≡ true → solution_of es x ≡ None → σ.stands_for x ≡ chosen x

  chosen_exists : (σ : Valuation outer) (y : ℕ) (es : ContextEntries) → σ.stands_for y ≡ chosen y → AreChosen σ es → AreChosen σ (Exists y ∷ es)
  chosen_exists σ y es here rest x h free = elim (or_cases (eqb y x) (list_any (declares x) es) h) [
    | inl p ↦ subst (λ (z : ℕ). σ.stands_for z ≡ chosen z) (eqb-true y x p) here
    | inr p ↦ rest x p free
  ]

  chosen_solved : (σ : Valuation outer) (y : ℕ) (t : Open) (es : ContextEntries) → AreChosen σ es → AreChosen σ (Solved y t ∷ es)
  chosen_solved σ y t es rest x h free = go (eqb y x) h free
    where
      go : (b : Bool) → (b || list_any (declares x) es) ≡ true → cond b (Some t) (solution_of es x) ≡ None → σ.stands_for x ≡ chosen x
      go true h free = absurd cc
      go false h free = rest x h free

  chosen_from : (σ : Valuation outer) (e : Entry) (es : ContextEntries) → IsChosen σ e → AreChosen σ es → AreChosen σ (e ∷ es)
  chosen_from σ (Rigid y) es here rest = rest
  chosen_from σ (Exists y) es here rest = chosen_exists σ y es here rest
  chosen_from σ (Solved y t) es here rest = chosen_solved σ y t es rest
  chosen_from σ (Mark y) es here rest = rest
  chosen_from σ (Binder y t) es here rest = rest

  knows_agree : (σ ρ : Valuation outer) (xs : List ℕ) (es : ContextEntries) → Agree σ ρ es → Knows arity σ xs es → Knows arity ρ xs es
  knows_agree σ ρ xs es agree k = record { existentials = λ x h. subst (IsMono arity xs) (sym (agree x h)) (k.existentials x h); in_scope = k.in_scope }

  -- what a valuation says of an entry, another says that agrees with it so far
  here_same : (σ ρ : Valuation outer) (front : ContextEntries) (e : Entry) (x : ℕ) → declares x e ≡ true → Agree σ ρ (front ++ e ∷ []) → ρ.stands_for x ≡ σ.stands_for x
  here_same σ ρ front e x is agree =
      agree x (list_any-append (declares x) front (e ∷ []) ∙ or_right (list_any (declares x) front) (list_any (declares x) (e ∷ [])) (or_left (declares x e) false is))

  holds_agree : (σ ρ : Valuation outer) (xs : List ℕ) (front : ContextEntries) (e : Entry) → CanStand arity front e → Agree σ ρ (front ++ e ∷ []) → Holds arity σ xs e → Holds arity ρ xs e
  holds_agree σ ρ xs front (Rigid x) s agree h = tt
  holds_agree σ ρ xs front (Exists x) s agree h = subst (IsMono arity xs) (sym (here_same σ ρ front (Exists x) x (eq-eqb x x refl) agree)) h
  holds_agree σ ρ xs front (Solved x t) s agree h =
      let e : ρ.stands_for x ≡ σ.stands_for x = here_same σ ρ front (Solved x t) x (eq-eqb x x refl) agree in
      (subst (IsMono arity xs) (sym e) h.0, e ∙ h.1 ∙ sym (value_agree σ ρ front (Agree-front σ ρ front (Solved x t ∷ []) agree) t (mono_declared arity front 0 t s.1)))
  holds_agree σ ρ xs front (Mark x) s agree h = tt
  holds_agree σ ρ xs front (Binder x t) s agree h = tt

  chosen_agree : (σ ρ : Valuation outer) (front : ContextEntries) (e : Entry) → Agree σ ρ (front ++ e ∷ []) → IsChosen σ e → IsChosen ρ e
  chosen_agree σ ρ front (Rigid x) agree h = tt
  chosen_agree σ ρ front (Exists x) agree h = here_same σ ρ front (Exists x) x (eq-eqb x x refl) agree ∙ h
  chosen_agree σ ρ front (Solved x t) agree h = tt
  chosen_agree σ ρ front (Mark x) agree h = tt
  chosen_agree σ ρ front (Binder x t) agree h = tt

  -- a valuation with one entry more, and with more of them
  record Step (σ : Valuation outer) (xs : List ℕ) (front : ContextEntries) (e : Entry) : Type 0 where
    next : Valuation outer
    holds : Holds arity next xs e
    agrees : Agree σ next front
    is_chosen : IsChosen next e

  record Steps (σ : Valuation outer) (xs : List ℕ) (front es : ContextEntries) : Type 0 where
    last : Valuation outer
    values : Values arity last xs es
    agrees : Agree σ last front
    are_chosen : AreChosen last es

  step : (σ : Valuation outer) (xs : List ℕ) (front : ContextEntries) (e : Entry) → CanStand arity front e → Knows arity σ xs front → ((x : ℕ) → IsMono arity xs (chosen x)) → Step σ xs front e
  step σ xs front (Rigid x) s k m = record { next = σ; holds = tt; agrees = λ y h. refl; is_chosen = tt }
  step σ xs front (Exists x) s k m = record {
    next = put σ x (chosen x);
    holds = subst (IsMono arity xs) (sym (put_here σ x (chosen x))) (m x);
    agrees = put_apart σ x (chosen x) front s;
    is_chosen = put_here σ x (chosen x);
  }
  step σ xs front (Solved x t) s k m =
      let agree : Agree σ (put σ x (value σ t)) front = put_apart σ x (value σ t) front s.0 in
      record {
        next = put σ x (value σ t);
        holds = (subst (IsMono arity xs) (sym (put_here σ x (value σ t))) (mono_value arity σ xs front k t s.1), put_here σ x (value σ t) ∙ sym (value_agree σ (put σ x (value σ t)) front agree t (mono_declared arity front 0 t s.1)));
        agrees = agree;
        is_chosen = tt;
      }
  step σ xs front (Mark x) s k m = record { next = σ; holds = tt; agrees = λ y h. refl; is_chosen = tt }
  step σ xs front (Binder x t) s k m = record { next = σ; holds = tt; agrees = λ y h. refl; is_chosen = tt }

  steps : (σ : Valuation outer) (xs : List ℕ) (front es : ContextEntries) → AreWellFormed arity front es → Knows arity σ xs front → ((x : ℕ) → IsMono arity xs (chosen x)) → Steps σ xs front es
  steps σ xs front [] wf k m = record { last = σ; values = tt; agrees = λ x h. refl; are_chosen = λ x h. absurd cc }
  steps σ xs front (e ∷ es) wf k m =
      let p = well_formed_parts arity front e es wf in
      let c : Step σ xs front e = step σ xs front e p.0 k m in
      let r : Steps c.next (rigids outer xs (e ∷ [])) (front ++ e ∷ []) es =
      steps c.next (rigids outer xs (e ∷ [])) (front ++ e ∷ []) es p.1 (knows_push arity c.next xs front e c.holds (knows_agree σ c.next xs front c.agrees k)) (more_chosen arity outer chosen xs e m) in
      record {
        last = r.last;
        values = values_from arity r.last xs e es (holds_agree c.next r.last xs front e p.0 r.agrees c.holds) r.values;
        agrees = λ x h. Agree-front c.next r.last front (e ∷ []) r.agrees x h ∙ c.agrees x h;
        are_chosen = chosen_from r.last e es (chosen_agree c.next r.last front e r.agrees c.is_chosen) r.are_chosen;
      }

  pub valuation_chosen : (es : ContextEntries) → IsWellFormedContext arity es → ((x : ℕ) → IsMono arity (all_below outer) (chosen x)) → (σ : Valuation outer) × Fits arity σ es × AreChosen σ es
  valuation_chosen es wf m =
      let σ : Valuation outer = record { stands_for = chosen } in
      let r : Steps σ (all_below outer) [] es = steps σ (all_below outer) [] es wf (knows_none arity σ) m in
      (r.last, r.values, r.are_chosen)
