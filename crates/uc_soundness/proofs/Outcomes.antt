-- What holds of the outcomes of judgements.
use Rattle.std.proofs.Common.{◌≡◌, ℕ, true, false, ◌==◌, [], ◌∷◌, ◌++◌, refl, sym, ap, subst, ◌∙◌}
use Rattle.std.specs.List.{list_any}
use Rattle.std.proofs.lemmas.Bool.{and_from, eq-eqb}
use Rattle.uc_tree.specs.Same.{same_code, same_code_equiv}
use Rattle.uc_kinds.specs.WellFormed.{Arity}
use Rattle.uc_context.specs.declared.entry.Entry.{Entry}
use Rattle.uc_context.specs.declared.entry.Entry.TheVariants.{Rigid, Exists, Solved, Mark, Binder}
use Rattle.uc_context.specs.Opens.{Open}
use Rattle.uc_context.specs.OpenCodes.{coded_open}
use Rattle.uc_context.specs.Entries.{ContextEntries, is_same_entry, dropped_from}
use Rattle.uc_subtyping.specs.Outcomes.{Outcome, done, refused, without}
use Rattle.uc_soundness.specs.Extending.{Extends}
use Rattle.uc_soundness.specs.Valuations.{Valuation, Fits}
use Rattle.uc_soundness.specs.WellFormed.{IsWellFormedContext}
use Rattle.uc_soundness.proofs.Extending.{Extends-trans, IsFixed, Cut, cut_at, dropped_at, same_test, declares_on}
use Rattle.uc_soundness.proofs.Fitting.{fits_before}
use Rattle.uc_soundness.proofs.GoingOn.{valuations_go_on}
use Rattle.uc_soundness.proofs.Values.{Agree}
use Rattle.uc_soundness.proofs.WellFormed.{well_formed_front}

-- no existential is the same entry as one that is none
fixed_unsolved : (e : Entry) → IsFixed e → (x : ℕ) → is_same_entry e (Exists x) ≡ false
fixed_unsolved (Rigid y) fixed x = refl
fixed_unsolved (Exists y) fixed x = absurd fixed
fixed_unsolved (Solved y t) fixed x = absurd fixed
fixed_unsolved (Mark y) fixed x = refl
fixed_unsolved (Binder y t) fixed x = refl

fixed_solved : (e : Entry) → IsFixed e → (x : ℕ) (t : Open) → is_same_entry e (Solved x t) ≡ false
fixed_solved (Rigid y) fixed x t = refl
fixed_solved (Exists y) fixed x t = absurd fixed
fixed_solved (Solved y s) fixed x t = absurd fixed
fixed_solved (Mark y) fixed x t = refl
fixed_solved (Binder y s) fixed x t = refl

same_itself : (e : Entry) → is_same_entry e e ≡ true
same_itself (Rigid x) = eq-eqb x x refl
same_itself (Exists x) = eq-eqb x x refl
same_itself (Solved x t) = and_from (x == x) (same_code coded_open t t) (eq-eqb x x refl) ((same_code_equiv coded_open).refl t)
same_itself (Mark x) = eq-eqb x x refl
same_itself (Binder x t) = and_from (x == x) (same_code coded_open t t) (eq-eqb x x refl) ((same_code_equiv coded_open).refl t)

-- what extends entries with a fixed one among them is cut there
pub dropped_cut : (es : ContextEntries) (e : Entry) (ds fs : ContextEntries) → IsFixed e → list_any (is_same_entry e) ds ≡ false → Extends (es ++ e ∷ ds) fs → (c : Cut es e ds fs) × (dropped_from e fs ≡ c.left)
dropped_cut es e ds fs fixed none d =
    let c : Cut es e ds fs = cut_at es e ds fixed refl d in
    (c, ap (dropped_from e) c.whole ∙ dropped_at e c.left c.right (same_itself e) (same_test (is_same_entry e) (fixed_unsolved e fixed) (fixed_solved e fixed) c.behind ∙ none))

-- a context that is left is well-formed and extends another
abbrev pub Extended : Arity → ContextEntries → Outcome → Type 0
Extended arity es (done fs) = IsWellFormedContext arity fs × Extends es fs
Extended arity es (refused why) = Unit {0}

-- whatever fits the context that is left has a property
abbrev pub Given : Arity → (outer : ℕ) → Outcome → (Valuation outer → Type 0) → Type 0
Given arity outer (done fs) P = (σ : Valuation outer) → Fits arity σ fs → P σ
Given arity outer (refused why) P = Unit {0}

module _ (arity : Arity) where
  pub extended_on : (es fs : ContextEntries) (o : Outcome) → Extends es fs → Extended arity fs o → Extended arity es o
  extended_on es fs (done gs) d h = (h.0, Extends-trans d h.1)
  extended_on es fs (refused why) d h = tt

  pub extended_cut : (es : ContextEntries) (e : Entry) (ds : ContextEntries) (o p : Outcome) → IsFixed e → list_any (is_same_entry e) ds ≡ false → p ≡ without e o → Extended arity (es ++ e ∷ ds) o → Extended arity es p
  extended_cut es e ds (done fs) p fixed none is h =
      let c = dropped_cut es e ds fs fixed none h.1 in
      let wf : IsWellFormedContext arity c.0.left = well_formed_front arity [] c.0.left (e ∷ c.0.right) (subst (IsWellFormedContext arity) c.0.whole h.0) in
      subst (Extended arity es) (sym is) (subst (IsWellFormedContext arity) (sym c.1) wf, subst (Extends es) (sym c.1) c.0.front)
  extended_cut es e ds (refused why) p fixed none is h = subst (Extended arity es) (sym is) tt

  pub given_on : (outer : ℕ) (es : ContextEntries) (o : Outcome) (P Q : Valuation outer → Type 0) → Extended arity es o → ((σ : Valuation outer) → Fits arity σ es → P σ → Q σ) → Given arity outer o P → Given arity outer o Q
  given_on outer es (done fs) P Q h on g = λ σ fits. on σ (fits_before arity σ h.1 fits) (g σ fits)
  given_on outer es (refused why) P Q h on g = tt

  -- what fits a cut context goes on to the whole one
  pub given_cut : (outer : ℕ) (es : ContextEntries) (e : Entry) (ds : ContextEntries) (o p : Outcome) (P Q : Valuation outer → Type 0) → IsFixed e → list_any (is_same_entry e) ds ≡ false → p ≡ without e o → Extended arity (es ++ e ∷ ds) o
      → ((σ ρ : Valuation outer) → Fits arity ρ (es ++ e ∷ ds) → Agree σ ρ es → P ρ → Q σ) → Given arity outer o P → Given arity outer p Q
  given_cut outer es e ds (done fs) p P Q fixed none is h on g = subst (λ (q : Outcome). Given arity outer q Q) (sym is) by
    where
      c : (c : Cut es e ds fs) × (dropped_from e fs ≡ c.left)
      c = dropped_cut es e ds fs fixed none h.1

      by : (σ : Valuation outer) → Fits arity σ (dropped_from e fs) → Q σ
      by σ fits =
          let r = valuations_go_on arity outer c.0.left (e ∷ c.0.right) (subst (IsWellFormedContext arity) c.0.whole h.0) σ (subst (Fits arity σ) c.1 fits) in
          let whole : Fits arity r.0 fs = subst (Fits arity r.0) (sym c.0.whole) r.1 in
          on σ r.0 (fits_before arity r.0 h.1 whole) (λ x there. r.2 x (declares_on x c.0.front there)) (g r.0 whole)
  given_cut outer es e ds (refused why) p P Q fixed none is h on g = subst (λ (q : Outcome). Given arity outer q Q) (sym is) tt
