-- Subtyping is sound.
use Rattle.std.proofs.Common.{◌≡◌, ℕ, ◌+◌, List, [], ◌∷◌, ◌++◌, refl, subst}
use Rattle.uc_kinds.specs.WellFormed.{Arity}
use Rattle.uc_kinds.specs.Polytypes as poly
use Rattle.uc_kinds.specs.Polytypes.{Poly}
use Rattle.uc_kinds.specs.Subtyping.{IsSubtype, below_rigid, below_unit, below_arrow, below_tuple, below_applied, below_left, below_right, AreSubtypes, no_subtypes, more_subtypes}
use Rattle.uc_context.specs.declared.entry.Entry.TheVariants.{Rigid, Exists, Mark}
use Rattle.uc_context.specs.Opens.{Open, rigid, existential, quantified, arrow, tuple, applied, Opens, none, more}
use Rattle.uc_context.specs.Contexts.{type_under}
use Rattle.uc_context.specs.Entries.{ContextEntries}
use Rattle.uc_context.specs.Fresh.{fresh_number}
use Rattle.uc_context.specs.Variables.{opened_at}
use Rattle.uc_subtyping.specs.Outcomes.{Outcome, done}
use Rattle.uc_subtyping.specs.Subtyping.{SolvesSubtype, subtype_right, subtype_left, subtype_rigid, subtype_existential, subtype_unit, subtype_arrow, subtype_tuple, subtype_data, subtype_below, subtype_above, subtype_ill, SolvesSubtypes, subtypes_done, subtypes_next, subtypes_refused, subtypes_large}
use Rattle.uc_soundness.specs.Extending.{Extends}
use Rattle.uc_soundness.specs.Valuations.{Valuation, value, values, all_below, scope_of, Fits}
use Rattle.uc_soundness.specs.WellFormed.{IsTypeIn, IsWellFormedContext}
use Rattle.uc_soundness.proofs.Extending.{same_rigids, rigids-append}
use Rattle.uc_soundness.proofs.Fitting.{fits_before, value_under, values_front, knows_all}
use Rattle.uc_soundness.proofs.Instances.{rigid_formed, marked_formed, rigid_typed, existential_typed}
use Rattle.uc_soundness.proofs.Outcomes.{Extended, Given, given_on, given_cut}
use Rattle.uc_soundness.proofs.SoundInstances.{instance_sound}
use Rattle.uc_soundness.proofs.SoundRules.{value_opened_agree, fresh_in_scope, marked_mono}
use Rattle.uc_soundness.proofs.Subtypes.{AreTypesIn, types_covered, mono_types, rigid_behind, marked_behind, subtype_extends, subtypes_extend}
use Rattle.uc_soundness.proofs.Types.{Covered-extends, type_declared}
use Rattle.uc_soundness.proofs.Values.{reflexive, Agree, value_agree}
use Rattle.uc_soundness.proofs.WellFormed.{type_under_typed}

module _ (arity : Arity) (outer : ℕ) where
  -- what is said of each valuation that fits what subtyping leaves
  abbrev pub Sound : ContextEntries → Open → Open → Valuation outer → Type 0
  Sound es a b σ = IsSubtype arity (scope_of outer es) (value σ a) (value σ b)

  abbrev pub AllSound : ContextEntries → Opens → Opens → Valuation outer → Type 0
  AllSound es ts us σ = AreSubtypes arity (scope_of outer es) (values σ ts) (values σ us)

  -- a derivation between the same types in the same scope
  along : (xs ys : List ℕ) (p q r u : Poly) → xs ≡ ys → p ≡ q → r ≡ u → IsSubtype arity xs p r → IsSubtype arity ys q u
  along xs ys p q r u e f g d = subst (λ (zs : List ℕ). IsSubtype arity zs q u) e (subst (λ (z : Poly). IsSubtype arity xs z u) f (subst (IsSubtype arity xs p) g d))

  right_sound : (es : ContextEntries) (n : ℕ) (a b : Open) → n ≡ fresh_number es → IsTypeIn arity es 0 a → IsTypeIn arity es 1 b
      → (σ ρ : Valuation outer) → Fits arity ρ (es ++ Rigid n ∷ []) → Agree σ ρ es → Sound (es ++ Rigid n ∷ []) a (opened_at 0 (rigid n) b) ρ → Sound es a (quantified b) σ
  right_sound es n a b is h k σ ρ fits agree d =
      let before : Fits arity ρ es = values_front arity ρ (all_below outer) es (Rigid n ∷ []) fits in
      below_right (outer + n) (fresh_in_scope outer es n is)
      (along (scope_of outer (es ++ Rigid n ∷ [])) ((outer + n) ∷ scope_of outer es) (value ρ a) (value σ a) (value ρ (opened_at 0 (rigid n) b)) (poly.opened (poly.rigid (outer + n)) (value σ b))
      (rigids-append outer (all_below outer) es (Rigid n ∷ [])) (value_agree σ ρ es agree a (type_declared arity es 0 a h)) (value_opened_agree arity es σ ρ before agree 1 b k (rigid n)) d)

  left_sound : (es : ContextEntries) (n : ℕ) (a b : Open) → IsTypeIn arity es 1 a → IsTypeIn arity es 0 b
      → (σ ρ : Valuation outer) → Fits arity ρ (es ++ Mark n ∷ Exists n ∷ []) → Agree σ ρ es → Sound (es ++ Mark n ∷ Exists n ∷ []) (opened_at 0 (existential n) a) b ρ → Sound es (quantified a) b σ
  left_sound es n a b h k σ ρ fits agree d =
      let before : Fits arity ρ es = values_front arity ρ (all_below outer) es (Mark n ∷ Exists n ∷ []) fits in
      below_left (ρ.stands_for n) (marked_mono arity es n ρ fits)
      (along (scope_of outer (es ++ Mark n ∷ Exists n ∷ [])) (scope_of outer es) (value ρ (opened_at 0 (existential n) a)) (poly.opened (ρ.stands_for n) (value σ a)) (value ρ b) (value σ b)
      (rigids-append outer (all_below outer) es (Mark n ∷ Exists n ∷ [])) (value_opened_agree arity es σ ρ before agree 1 a h (existential n)) (value_agree σ ρ es agree b (type_declared arity es 0 b k)) d)

  arrow_sound : (es : ContextEntries) (a b c d : Open) (σ : Valuation outer) → AllSound es (more c (more b none)) (more a (more d none)) σ → Sound es (arrow a b) (arrow c d) σ
  arrow_sound es a b c d σ (more_subtypes first (more_subtypes second rest)) = below_arrow first second

  -- one pair of types, and those after it
  next_sound : (es fs : ContextEntries) (t u : Open) (ts us : Opens) → Extends es fs → Given arity outer (done fs) (Sound es (type_under es t) (type_under es u))
      → (σ : Valuation outer) → Fits arity σ fs → AllSound fs ts us σ → AllSound es (more t ts) (more u us) σ
  next_sound es fs t u ts us d first σ fits all =
      let before : Fits arity σ es = fits_before arity σ d fits in
      more_subtypes
      (along (scope_of outer es) (scope_of outer es) (value σ (type_under es t)) (value σ t) (value σ (type_under es u)) (value σ u) refl (value_under arity σ es t before) (value_under arity σ es u before) (first σ fits))
      (subst (λ (ys : List ℕ). AreSubtypes arity ys (values σ ts) (values σ us)) (same_rigids outer (all_below outer) d) all)

  mutual
    pub subtype_sound : {es : ContextEntries} {a b : Open} {o : Outcome} → SolvesSubtype es a b o → IsWellFormedContext arity es → IsTypeIn arity es 0 a → IsTypeIn arity es 0 b → Given arity outer o (Sound es a b)
    subtype_sound (subtype_right {es = es} {n = n} {a = a} {b = b} {o = o} {p = p} is d cut) wf h k =
        given_cut arity outer es (Rigid n) [] o p (Sound (es ++ Rigid n ∷ []) a (opened_at 0 (rigid n) b)) (Sound es a (quantified b)) tt refl cut
        (subtype_extends arity d (rigid_formed arity es n wf is) (rigid_behind arity es n a h) (rigid_typed arity es n b k)) (right_sound es n a b is h k)
        (subtype_sound d (rigid_formed arity es n wf is) (rigid_behind arity es n a h) (rigid_typed arity es n b k))
    subtype_sound (subtype_left {es = es} {n = n} {a = a} {b = b} {o = o} {p = p} plain is d cut) wf h k =
        given_cut arity outer es (Mark n) (Exists n ∷ []) o p (Sound (es ++ Mark n ∷ Exists n ∷ []) (opened_at 0 (existential n) a) b) (Sound es (quantified a) b) tt refl cut
        (subtype_extends arity d (marked_formed arity es n wf is) (existential_typed arity es n a h) (marked_behind arity es n b k)) (left_sound es n a b h k)
        (subtype_sound d (marked_formed arity es n wf is) (existential_typed arity es n a h) (marked_behind arity es n b k))
    subtype_sound (subtype_rigid {es = es} {x = x}) wf h k = λ σ fits. below_rigid ((knows_all arity σ es fits).in_scope x h)
    subtype_sound (subtype_existential {es = es} {x = x}) wf h k = λ σ fits. reflexive arity (scope_of outer es) ((knows_all arity σ es fits).existentials x h)
    subtype_sound subtype_unit wf h k = λ σ fits. below_unit
    subtype_sound (subtype_arrow {es = es} {a = a} {b = b} {c = c} {d = d'} {o = o} d) wf h k =
        let left : AreTypesIn arity es (more c (more b none)) = (k.0, (h.1, tt)) in
        let right : AreTypesIn arity es (more a (more d' none)) = (h.0, (k.1, tt)) in
        given_on arity outer es o (AllSound es (more c (more b none)) (more a (more d' none))) (Sound es (arrow a b) (arrow c d')) (subtypes_extend arity d wf left right) (λ σ fits all. arrow_sound es a b c d' σ all) (subtypes_sound d wf left right)
    subtype_sound (subtype_tuple {es = es} {ts = ts} {us = us} {o = o} same d) wf h k =
        given_on arity outer es o (AllSound es ts us) (Sound es (tuple ts) (tuple us)) (subtypes_extend arity d wf (mono_types arity es ts h) (mono_types arity es us k)) (λ σ fits all. below_tuple all)
        (subtypes_sound d wf (mono_types arity es ts h) (mono_types arity es us k))
    subtype_sound (subtype_data {es = es} {h = head} {ts = ts} {us = us} {o = o} same d) wf h k =
        given_on arity outer es o (AllSound es ts us) (Sound es (applied head ts) (applied head us)) (subtypes_extend arity d wf (mono_types arity es ts h.1) (mono_types arity es us k.1)) (λ σ fits all. below_applied all)
        (subtypes_sound d wf (mono_types arity es ts h.1) (mono_types arity es us k.1))
    subtype_sound (subtype_below plain apart d) wf h k = instance_sound arity outer d wf k
    subtype_sound (subtype_above plain solid apart d) wf h k = instance_sound arity outer d wf h
    subtype_sound (subtype_ill plain flat unfit) wf h k = tt

    pub subtypes_sound : {es : ContextEntries} {ts us : Opens} {o : Outcome} → SolvesSubtypes es ts us o → IsWellFormedContext arity es → AreTypesIn arity es ts → AreTypesIn arity es us → Given arity outer o (AllSound es ts us)
    subtypes_sound subtypes_done wf h k = λ σ fits. no_subtypes
    subtypes_sound (subtypes_next {es = es} {fs = fs} {t = t} {u = u} {ts = ts} {us = us} {o = o} small d ds) wf h k =
        let t_typed : IsTypeIn arity es 0 (type_under es t) = type_under_typed arity es 0 t wf h.0 in
        let u_typed : IsTypeIn arity es 0 (type_under es u) = type_under_typed arity es 0 u wf k.0 in
        let e : Extended arity es (done fs) = subtype_extends arity d wf t_typed u_typed in
        let left : AreTypesIn arity fs ts = types_covered arity es fs ts (Covered-extends e.1) h.1 in
        let right : AreTypesIn arity fs us = types_covered arity es fs us (Covered-extends e.1) k.1 in
        given_on arity outer fs o (AllSound fs ts us) (AllSound es (more t ts) (more u us)) (subtypes_extend arity ds e.0 left right) (next_sound es fs t u ts us e.1 (subtype_sound d wf t_typed u_typed)) (subtypes_sound ds e.0 left right)
    subtypes_sound (subtypes_refused small d) wf h k = tt
    subtypes_sound (subtypes_large large) wf h k = tt
