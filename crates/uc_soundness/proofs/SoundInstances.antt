-- Instantiation is sound.
use Rattle.std.proofs.Common.{◌≡◌, ℕ, ◌+◌, true, List, [], ◌∷◌, ◌++◌, length, refl, ap, subst, ◌∙◌}
use Rattle.std.specs.List.{list_any}
use Rattle.std.proofs.lemmas.Bool.{and_parts}
use Rattle.uc_kinds.specs.WellFormed.{Arity}
use Rattle.uc_kinds.specs.Polytypes as poly
use Rattle.uc_kinds.specs.Polytypes.{Poly, Polys}
use Rattle.uc_kinds.specs.Subtyping.{IsSubtype, below_left, below_right}
use Rattle.uc_context.specs.declared.entry.Entry.TheVariants.{Rigid, Exists, Mark}
use Rattle.uc_context.specs.Opens.{Open, rigid, existential, quantified, arrow, tuple, applied}
use Rattle.uc_context.specs.Contexts.{type_under}
use Rattle.uc_context.specs.Entries.{ContextEntries, is_unsolved, declares, before}
use Rattle.uc_context.specs.Fresh.{fresh_number}
use Rattle.uc_context.specs.Solving.{solved_with_arrow, solved_with_data, solved_with_tuple}
use Rattle.uc_context.specs.Variables.{opened_at}
use Rattle.uc_subtyping.specs.declared.side.Side.{Side}
use Rattle.uc_subtyping.specs.declared.side.Side.TheVariants.{Below, Above}
use Rattle.uc_subtyping.specs.Instances.{Instances, no_instances, instance, other, all_at, opens_count}
use Rattle.uc_subtyping.specs.Instantiation.{SolvesInstance, instance_solved, instance_reached, instance_arrow, instance_tuple, instance_data, instance_below_quantified, instance_above_quantified, instance_ill, SolvesInstances, instances_done, instances_next, instances_refused, instances_large}
use Rattle.uc_subtyping.specs.Outcomes.{Outcome, done}
use Rattle.uc_soundness.specs.Extending.{Extends}
use Rattle.uc_soundness.specs.Laws.{IsSubtypeAt}
use Rattle.uc_soundness.specs.Valuations.{Valuation, value, all_below, scope_of, Fits}
use Rattle.uc_soundness.specs.WellFormed.{IsTypeIn, IsWellFormedContext}
use Rattle.uc_soundness.proofs.Extending.{same_rigids, rigids-append}
use Rattle.uc_soundness.proofs.Fitting.{fits_before, value_under, values_front}
use Rattle.uc_soundness.proofs.Instances.{length-fresh_numbers, rigid_formed, marked_formed, rigid_typed, existential_typed, extended_with_arrow, extended_with_tuple, extended_with_data, AreIn, instances_covered, instances_at, instance_extends, instances_extend}
use Rattle.uc_soundness.proofs.Outcomes.{Extended, Given, given_on, given_cut}
use Rattle.uc_soundness.proofs.SoundRules.{subtype_along, AllAt, value_opened_agree, fresh_in_scope, marked_mono, sound_whole, sound_reached, sound_arrow, sound_tuple, sound_data}
use Rattle.uc_soundness.proofs.Tests.{unsolved_declared}
use Rattle.uc_soundness.proofs.Types.{Covered-extends}
use Rattle.uc_soundness.proofs.Values.{Agree}
use Rattle.uc_soundness.proofs.WellFormed.{type_under_typed}

module _ (arity : Arity) (outer : ℕ) where
  -- what is said of each valuation that fits what an instantiation leaves
  abbrev pub SoundAt : Side → ContextEntries → ℕ → Open → Valuation outer → Type 0
  SoundAt s es x t σ = IsSubtypeAt s arity (scope_of outer es) (σ.stands_for x) (value σ t)

  abbrev pub AllSound : ContextEntries → Instances → Valuation outer → Type 0
  AllSound es is σ = AllAt arity (scope_of outer es) σ is

  -- an existential below a quantified type, and above one
  below_quantified : (es : ContextEntries) (n x : ℕ) (t : Open) → n ≡ fresh_number es → list_any (is_unsolved x) es ≡ true → IsTypeIn arity es 1 t
      → (σ ρ : Valuation outer) → Fits arity ρ (es ++ Rigid n ∷ []) → Agree σ ρ es → SoundAt Below (es ++ Rigid n ∷ []) x (opened_at 0 (rigid n) t) ρ → SoundAt Below es x (quantified t) σ
  below_quantified es n x t is unsolved h σ ρ fits agree d =
      let before : Fits arity ρ es = values_front arity ρ (all_below outer) es (Rigid n ∷ []) fits in
      below_right (outer + n) (fresh_in_scope outer es n is)
      (subst (λ (ys : List ℕ). IsSubtype arity ys (σ.stands_for x) (poly.opened (poly.rigid (outer + n)) (value σ t))) (rigids-append outer (all_below outer) es (Rigid n ∷ []))
      (subtype_along arity (scope_of outer (es ++ Rigid n ∷ [])) Below (ρ.stands_for x) (σ.stands_for x) (value ρ (opened_at 0 (rigid n) t)) (poly.opened (poly.rigid (outer + n)) (value σ t))
      (agree x (unsolved_declared x es unsolved)) (value_opened_agree arity es σ ρ before agree 1 t h (rigid n)) d))

  above_quantified : (es : ContextEntries) (n x : ℕ) (t : Open) → list_any (is_unsolved x) es ≡ true → IsTypeIn arity es 1 t
      → (σ ρ : Valuation outer) → Fits arity ρ (es ++ Mark n ∷ Exists n ∷ []) → Agree σ ρ es → SoundAt Above (es ++ Mark n ∷ Exists n ∷ []) x (opened_at 0 (existential n) t) ρ → SoundAt Above es x (quantified t) σ
  above_quantified es n x t unsolved h σ ρ fits agree d =
      let before : Fits arity ρ es = values_front arity ρ (all_below outer) es (Mark n ∷ Exists n ∷ []) fits in
      below_left (ρ.stands_for n) (marked_mono arity es n ρ fits)
      (subst (λ (ys : List ℕ). IsSubtype arity ys (poly.opened (ρ.stands_for n) (value σ t)) (σ.stands_for x)) (rigids-append outer (all_below outer) es (Mark n ∷ Exists n ∷ []))
      (subtype_along arity (scope_of outer (es ++ Mark n ∷ Exists n ∷ [])) Above (ρ.stands_for x) (σ.stands_for x) (value ρ (opened_at 0 (existential n) t)) (poly.opened (ρ.stands_for n) (value σ t))
      (agree x (unsolved_declared x es unsolved)) (value_opened_agree arity es σ ρ before agree 1 t h (existential n)) d))

  -- one instantiation, and those after it
  next_sound : (s : Side) (es fs : ContextEntries) (x : ℕ) (t : Open) (rest : Instances) → Extends es fs → Given arity outer (done fs) (SoundAt s es x (type_under es t))
      → (σ : Valuation outer) → Fits arity σ fs → AllSound fs rest σ → AllSound es (instance s x t rest) σ
  next_sound s es fs x t rest d first σ fits all = (
    subtype_along arity (scope_of outer es) s (σ.stands_for x) (σ.stands_for x) (value σ (type_under es t)) (value σ t) refl (value_under arity σ es t (fits_before arity σ d fits)) (first σ fits),
    subst (λ (ys : List ℕ). AllAt arity ys σ rest) (same_rigids outer (all_below outer) d) all,
  )

  mutual
    pub instance_sound : {s : Side} {es : ContextEntries} {x : ℕ} {t : Open} {o : Outcome} → SolvesInstance s es x t o → IsWellFormedContext arity es → IsTypeIn arity es 0 t → Given arity outer o (SoundAt s es x t)
    instance_sound (instance_solved {s = s} {es = es} {fs = fs} {x = x} {t = t} unsolved can is) wf h = sound_whole arity outer es x wf unsolved s t fs is
    instance_sound (instance_reached {s = s} {es = es} {fs = fs} {x = x} {y = y} unsolved can behind is) wf h =
        sound_reached arity outer es x wf unsolved s y (and_parts (list_any (is_unsolved y) es) (list_any (declares x) (before y es)) behind).0 fs is
    instance_sound (instance_arrow {s = s} {es = es} {x = x} {argument = argument} {result = result} {a = a} {b = b} {o = o} unsolved can is d) wf h =
        let e : Extended arity es (done (solved_with_arrow es x argument result)) = extended_with_arrow arity es x wf unsolved argument result is in
        let i : AreIn arity (solved_with_arrow es x argument result) (instance (other s) argument a (instance s result b no_instances)) =
        instances_covered arity es (solved_with_arrow es x argument result) (instance (other s) argument a (instance s result b no_instances)) (Covered-extends e.1) (h.0, (h.1, tt)) in
        given_on arity outer (solved_with_arrow es x argument result) o (AllSound (solved_with_arrow es x argument result) (instance (other s) argument a (instance s result b no_instances))) (SoundAt s es x (arrow a b))
        (instances_extend arity d e.0 i) (λ σ fits all. sound_arrow arity outer es x wf unsolved s argument result a b σ fits all) (instances_sound d e.0 i)
    instance_sound (instance_tuple {s = s} {es = es} {x = x} {numbers = numbers} {ts = ts} {o = o} unsolved can is d) wf h =
        let e : Extended arity es (done (solved_with_tuple es x numbers)) = extended_with_tuple arity es x wf unsolved (opens_count ts) numbers is in
        let i : AreIn arity (solved_with_tuple es x numbers) (all_at s numbers ts) = instances_covered arity es (solved_with_tuple es x numbers) (all_at s numbers ts) (Covered-extends e.1) (instances_at arity es s numbers ts h) in
        given_on arity outer (solved_with_tuple es x numbers) o (AllSound (solved_with_tuple es x numbers) (all_at s numbers ts)) (SoundAt s es x (tuple ts))
        (instances_extend arity d e.0 i) (λ σ fits all. sound_tuple arity outer es x wf unsolved s numbers ts (ap length is ∙ length-fresh_numbers (opens_count ts) es) σ fits all) (instances_sound d e.0 i)
    instance_sound (instance_data {s = s} {es = es} {x = x} {numbers = numbers} {h = head} {ts = ts} {o = o} unsolved can is d) wf h =
        let e : Extended arity es (done (solved_with_data es x head numbers)) = extended_with_data arity es x wf unsolved head (opens_count ts) numbers is h.0 in
        let i : AreIn arity (solved_with_data es x head numbers) (all_at s numbers ts) = instances_covered arity es (solved_with_data es x head numbers) (all_at s numbers ts) (Covered-extends e.1) (instances_at arity es s numbers ts h.1) in
        given_on arity outer (solved_with_data es x head numbers) o (AllSound (solved_with_data es x head numbers) (all_at s numbers ts)) (SoundAt s es x (applied head ts))
        (instances_extend arity d e.0 i) (λ σ fits all. sound_data arity outer es x wf unsolved s numbers ts (ap length is ∙ length-fresh_numbers (opens_count ts) es) σ head fits all) (instances_sound d e.0 i)
    instance_sound (instance_below_quantified {es = es} {x = x} {n = n} {t = t} {o = o} {p = p} unsolved is d cut) wf h =
        given_cut arity outer es (Rigid n) [] o p (SoundAt Below (es ++ Rigid n ∷ []) x (opened_at 0 (rigid n) t)) (SoundAt Below es x (quantified t)) tt refl cut
        (instance_extends arity d (rigid_formed arity es n wf is) (rigid_typed arity es n t h)) (below_quantified es n x t is unsolved h)
        (instance_sound d (rigid_formed arity es n wf is) (rigid_typed arity es n t h))
    instance_sound (instance_above_quantified {es = es} {x = x} {n = n} {t = t} {o = o} {p = p} unsolved is d cut) wf h =
        given_cut arity outer es (Mark n) (Exists n ∷ []) o p (SoundAt Above (es ++ Mark n ∷ Exists n ∷ []) x (opened_at 0 (existential n) t)) (SoundAt Above es x (quantified t)) tt refl cut
        (instance_extends arity d (marked_formed arity es n wf is) (existential_typed arity es n t h)) (above_quantified es n x t unsolved h)
        (instance_sound d (marked_formed arity es n wf is) (existential_typed arity es n t h))
    instance_sound (instance_ill unfit) wf h = tt

    pub instances_sound : {es : ContextEntries} {is : Instances} {o : Outcome} → SolvesInstances es is o → IsWellFormedContext arity es → AreIn arity es is → Given arity outer o (AllSound es is)
    instances_sound instances_done wf h = λ σ fits. tt
    instances_sound (instances_next {s = s} {es = es} {fs = fs} {x = x} {t = t} {rest = rest} {o = o} small d ds) wf h =
        let typed : IsTypeIn arity es 0 (type_under es t) = type_under_typed arity es 0 t wf h.0 in
        let e : Extended arity es (done fs) = instance_extends arity d wf typed in
        let i : AreIn arity fs rest = instances_covered arity es fs rest (Covered-extends e.1) h.1 in
        given_on arity outer fs o (AllSound fs rest) (AllSound es (instance s x t rest)) (instances_extend arity ds e.0 i) (next_sound s es fs x t rest e.1 (instance_sound d wf typed)) (instances_sound ds e.0 i)
    instances_sound (instances_refused small d) wf h = tt
    instances_sound (instances_large large) wf h = tt
