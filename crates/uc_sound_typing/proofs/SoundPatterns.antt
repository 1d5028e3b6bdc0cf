-- Patterns are sound.
use Rattle.std.proofs.Common.{◌≡◌, ℕ, List, [], ◌∷◌, ◌++◌, reverse, Some, refl, sym, ap, subst, ◌∙◌, append_assoc}
use Rattle.std.proofs.lemmas.List.{reverse-append}
use Rattle.uc_tree.specs.Patterns.{Pattern, Patterns}
use Rattle.uc_tree.specs.Patterns as patterns
use Rattle.uc_kinds.specs.PatternTyping.{Known, PatternBinds, binds_any, binds_variable, binds_alias, PatternsBind, bind_none, bind_more}
use Rattle.uc_kinds.specs.Polytypes as poly
use Rattle.uc_kinds.specs.Polytypes.{Poly, Polys}
use Rattle.uc_kinds.specs.Subtyping.{IsSubtype, AreSubtypes, more_subtypes}
use Rattle.uc_kinds.specs.WellFormed.{Arity}
use Rattle.uc_context.specs.declared.entry.Entry.TheVariants.{Binder}
use Rattle.uc_context.specs.Entries.{ContextEntries}
use Rattle.uc_context.specs.Fresh.{fresh_number}
use Rattle.uc_context.specs.Opens.{Open, Opens, none, more}
use Rattle.uc_subtyping.specs.Outcomes.{done}
use Rattle.uc_soundness.specs.Valuations.{Valuation, value, values, all_below, scope_of, Fits}
use Rattle.uc_soundness.specs.WellFormed.{IsTypeIn, IsWellFormedContext}
use Rattle.uc_soundness.proofs.Extending.{same_rigids}
use Rattle.uc_soundness.proofs.Outcomes.{Extended, Given}
use Rattle.uc_soundness.proofs.SoundSubtypes.{AllSound, subtypes_sound}
use Rattle.uc_soundness.proofs.Subtypes.{AreTypesIn, types_covered, subtypes_extend}
use Rattle.uc_soundness.proofs.Types.{Covered-extends, type_covered}
use Rattle.uc_typing.specs.PatternMatching.{Expectation, expected, MatchesPattern, matches_any, matches_variable, matches_alias, matches_expected, MeetsExpectation, meets_parts, meets_other_count, meets_refused, MatchesPatterns, patterns_done, patterns_next, patterns_stop}
use Rattle.uc_typing.specs.Stops.{Variables, PatternOutcome, matched, unmatched}
use Rattle.uc_sound_typing.specs.Formed.{IsFormedKnown, IsFormedPattern, AreFormedPatterns}
use Rattle.uc_sound_typing.specs.Growing.{Grows}
use Rattle.uc_sound_typing.specs.Seeing.{AreBound, AreValues, value_of_binder}
use Rattle.uc_sound_typing.proofs.Binders.{binder_last, keeps_grown, bound_on, values_on}
use Rattle.uc_sound_typing.proofs.Growing.{Grows-extends, fresh_unbound, Grows-binder, Covered-grows, same_scope, fits_grown}
use Rattle.uc_sound_typing.proofs.Patterns.{PatternExtended, bind_extended, IsFormedExpectation, expected_formed, pattern_extends, patterns_extend}
use Rattle.uc_sound_typing.proofs.SoundExpectations.{expected_binds}

-- a pattern binds variables, which have their types in the context that is left
pub record Bound {outer : ℕ} (known : Known) (σ : Valuation outer) (es fs : ContextEntries) (q : Pattern) (s : Open) (ws : Variables) (ps : List Poly) : Type 0 where
  pub types : List Poly
  pub binds : PatternBinds known (scope_of outer es) q (value σ s) types
  pub values : AreValues σ fs ws (reverse types ++ ps)

pub record AllBound {outer : ℕ} (known : Known) (σ : Valuation outer) (es fs : ContextEntries) (qs : Patterns) (ts : Opens) (ws : Variables) (ps : List Poly) : Type 0 where
  pub types : List Poly
  pub binds : PatternsBind known (scope_of outer es) qs (values σ ts) types
  pub values : AreValues σ fs ws (reverse types ++ ps)

pub record Met {outer : ℕ} (known : Known) (σ : Valuation outer) (x : Expectation) (fs : ContextEntries) (s : Open) (ws : Variables) (ps : List Poly) : Type 0 where
  pub fits : Fits known.arity σ x.context
  pub below : IsSubtype known.arity (scope_of outer x.context) (value σ s) (value σ x.type)
  pub parts : AllBound known σ x.context fs x.parts x.types ws ps

-- what is said of each valuation that fits what is left
abbrev pub SoundPattern : Known → ℕ → ContextEntries → Pattern → Open → Variables → PatternOutcome → Type 0
SoundPattern known outer es q s vars (matched ws fs) = (σ : Valuation outer) → Fits known.arity σ fs → (ps : List Poly) → AreValues σ es vars ps → Bound known σ es fs q s ws ps
SoundPattern known outer es q s vars (unmatched stop) = Unit {0}

abbrev pub SoundPatterns : Known → ℕ → ContextEntries → Patterns → Opens → Variables → PatternOutcome → Type 0
SoundPatterns known outer es qs ts vars (matched ws fs) = (σ : Valuation outer) → Fits known.arity σ fs → (ps : List Poly) → AreValues σ es vars ps → AllBound known σ es fs qs ts ws ps
SoundPatterns known outer es qs ts vars (unmatched stop) = Unit {0}

abbrev pub SoundExpectation : Known → ℕ → Expectation → Open → Variables → PatternOutcome → Type 0
SoundExpectation known outer x s vars (matched ws fs) = (σ : Valuation outer) → Fits known.arity σ fs → (ps : List Poly) → AreValues σ x.context vars ps → Met known σ x fs s ws ps
SoundExpectation known outer x s vars (unmatched stop) = Unit {0}

pub first_subtype : {arity : Arity} {xs : List ℕ} {p q : Poly} {ps qs : Polys} → AreSubtypes arity xs (poly.more p ps) (poly.more q qs) → IsSubtype arity xs p q
first_subtype (more_subtypes d ds) = d

module _ (known : Known) (outer : ℕ) where
  variable_sound : (es : ContextEntries) (n : ℕ) (s : Open) (vars : Variables) → n ≡ fresh_number es → SoundPattern known outer es patterns.variable s vars (matched (Some n ∷ vars) (es ++ Binder n s ∷ []))
  variable_sound es n s vars is σ fits ps v = record {
    types = value σ s ∷ [];
    binds = binds_variable;
    values = value_of_binder (binder_last n es s) refl (values_on v (keeps_grown (Grows-binder es n s (fresh_unbound es n is))));
  }

  alias_sound : (es : ContextEntries) (n : ℕ) (q : Pattern) (s : Open) (vars : Variables) (o : PatternOutcome) → n ≡ fresh_number es → SoundPattern known outer (es ++ Binder n s ∷ []) q s (Some n ∷ vars) o
      → SoundPattern known outer es (patterns.alias q) s vars o
  alias_sound es n q s vars (matched ws fs) is rest = λ σ fits ps v.
      let g : Grows es (es ++ Binder n s ∷ []) = Grows-binder es n s (fresh_unbound es n is) in
      let r : Bound known σ (es ++ Binder n s ∷ []) fs q s ws (value σ s ∷ ps) = rest σ fits (value σ s ∷ ps) (value_of_binder (binder_last n es s) refl (values_on v (keeps_grown g))) in
      record {
        types = value σ s ∷ r.types;
        binds = binds_alias (subst (λ (xs : List ℕ). PatternBinds known xs q (value σ s) r.types) (same_scope outer g) r.binds);
        values = subst (AreValues σ fs ws) (sym (reverse_behind (value σ s) r.types ps)) r.values;
      }
    where
      reverse_behind : (p : Poly) (bs ps : List Poly) → reverse (p ∷ bs) ++ ps ≡ reverse bs ++ p ∷ ps
      reverse_behind p bs ps = ap (λ (xs : List Poly). xs ++ ps) (reverse-append (p ∷ []) bs) ∙ append_assoc (reverse bs) (p ∷ []) ps
  alias_sound es n q s vars (unmatched stop) is rest = tt

  expected_sound : (formed : IsFormedKnown known) (es : ContextEntries) (q : Pattern) (s : Open) (vars : Variables) (x : Expectation) (o : PatternOutcome) → IsFormedPattern known q → expected known es q ≡ Some x → IsFormedExpectation known es x
      → SoundExpectation known outer x s vars o → SoundPattern known outer es q s vars o
  expected_sound formed es q s vars x (matched ws fs) h is e rest = λ σ fits ps v.
      let r : Met known σ x fs s ws ps = rest σ fits ps (values_on v (keeps_grown (Grows-extends e.extends))) in
      record {
        types = r.parts.types;
        binds = subst (λ (xs : List ℕ). PatternBinds known xs q (value σ s) r.parts.types) (same_rigids outer (all_below outer) e.extends)
            (expected_binds known formed outer es q x h is σ r.fits (value σ s) r.below r.parts.types r.parts.binds);
        values = r.parts.values;
      }
  expected_sound formed es q s vars x (unmatched stop) h is e rest = tt

  parts_sound : (x : Expectation) (fs : ContextEntries) (s : Open) (vars : Variables) (o : PatternOutcome) → Extended known.arity x.context (done fs) → Given known.arity outer (done fs) (AllSound known.arity outer x.context (more s none) (more x.type none))
      → PatternExtended known.arity fs o → SoundPatterns known outer fs x.parts x.types vars o → SoundExpectation known outer x s vars o
  parts_sound x fs s vars (matched ws gs) e below extended rest = λ σ fits ps v.
      let f : Fits known.arity σ fs = fits_grown known.arity σ extended.1 fits in
      let r : AllBound known σ fs gs x.parts x.types ws ps = rest σ fits ps (values_on v (keeps_grown (Grows-extends e.1))) in
      record {
        fits = fits_grown known.arity σ (Grows-extends e.1) f;
        below = first_subtype (below σ f);
        parts = record {
          types = r.types;
          binds = subst (λ (xs : List ℕ). PatternsBind known xs x.parts (values σ x.types) r.types) (same_rigids outer (all_below outer) e.1) r.binds;
          values = r.values;
        };
      }
  parts_sound x fs s vars (unmatched stop) e below extended rest = tt

  next_sound : (es fs : ContextEntries) (q : Pattern) (qs : Patterns) (t : Open) (ts : Opens) (vars ws : Variables) (o : PatternOutcome) → Grows es fs → SoundPattern known outer es q t vars (matched ws fs)
      → PatternExtended known.arity fs o → SoundPatterns known outer fs qs ts ws o → SoundPatterns known outer es (patterns.more q qs) (more t ts) vars o
  next_sound es fs q qs t ts vars ws (matched us gs) g first extended rest = λ σ fits ps v.
      let a : Bound known σ es fs q t ws ps = first σ (fits_grown known.arity σ extended.1 fits) ps v in
      let b : AllBound known σ fs gs qs ts us (reverse a.types ++ ps) = rest σ fits (reverse a.types ++ ps) a.values in
      record {
        types = a.types ++ b.types;
        binds = bind_more a.binds (subst (λ (xs : List ℕ). PatternsBind known xs qs (values σ ts) b.types) (same_scope outer g) b.binds);
        values = subst (AreValues σ gs us) (sym (ap (λ (xs : List Poly). xs ++ ps) (reverse-append a.types b.types) ∙ append_assoc (reverse b.types) (reverse a.types) ps)) b.values;
      }
  next_sound es fs q qs t ts vars ws (unmatched stop) g first extended rest = tt

mutual
  pub pattern_sound : {known : Known} {at : ℕ} {vars : Variables} {es : ContextEntries} {q : Pattern} {s : Open} {o : PatternOutcome} → MatchesPattern known at vars es q s o
      → (outer : ℕ) → IsFormedKnown known → IsFormedPattern known q → IsWellFormedContext known.arity es → IsTypeIn known.arity es 0 s → AreBound es vars → SoundPattern known outer es q s vars o
  pattern_sound matches_any outer formed h wf typed variables = λ σ fits ps v. record { types = []; binds = binds_any; values = v }
  pattern_sound (matches_variable {known = known} {n = n} {vars = vars} {vars' = vars'} {es = es} {fs = fs} {s = s} is vars_are fs_are) outer formed h wf typed variables =
      subst (λ (ws : Variables). SoundPattern known outer es patterns.variable s vars (matched ws fs)) (sym vars_are)
      (subst (λ (cs : ContextEntries). SoundPattern known outer es patterns.variable s vars (matched (Some n ∷ vars) cs)) (sym fs_are) (variable_sound known outer es n s vars is))
  pattern_sound (matches_alias {known = known} {n = n} {vars = vars} {es = es} {p = p} {s = s} {o = o} is d) outer formed h wf typed variables =
      let b : PatternExtended known.arity es (matched (Some n ∷ vars) (es ++ Binder n s ∷ [])) = bind_extended known.arity es n s vars is wf typed variables in
      alias_sound known outer es n p s vars o is (pattern_sound d outer formed h b.0 (type_covered known.arity es (es ++ Binder n s ∷ []) (Covered-grows b.1) 0 s typed) b.2)
  pattern_sound (matches_expected {known = known} {vars = vars} {es = es} {p = p} {s = s} {x = x} {o = o} is d) outer formed h wf typed variables =
      let e : IsFormedExpectation known es x = expected_formed known formed es wf p x h is in
      expected_sound known outer formed es p s vars x o h is e
      (expectation_sound d outer formed e (type_covered known.arity es x.context (Covered-extends e.extends) 0 s typed) (bound_on variables (keeps_grown (Grows-extends e.extends))))

  expectation_sound : {known : Known} {at : ℕ} {vars : Variables} {x : Expectation} {s : Open} {o : PatternOutcome} {es : ContextEntries} → MeetsExpectation known at vars x s o
      → (outer : ℕ) → IsFormedKnown known → IsFormedExpectation known es x → IsTypeIn known.arity x.context 0 s → AreBound x.context vars → SoundExpectation known outer x s vars o
  expectation_sound (meets_parts {known = known} {vars = vars} {x = x} {fs = fs} {s = s} {o = o} d count ds) outer formed h typed variables =
      let e : Extended known.arity x.context (done fs) = subtypes_extend known.arity d h.context (typed, tt) (h.typed, tt) in
      let there : AreTypesIn known.arity fs x.types = types_covered known.arity x.context fs x.types (Covered-extends e.1) h.types in
      let inside : AreBound fs vars = bound_on variables (keeps_grown (Grows-extends e.1)) in
      parts_sound known outer x fs s vars o e (subtypes_sound known.arity outer d h.context (typed, tt) (h.typed, tt)) (patterns_extend ds formed h.parts e.0 there inside) (patterns_sound ds outer formed h.parts e.0 there inside)
  expectation_sound (meets_other_count d other) outer formed h typed variables = tt
  expectation_sound (meets_refused d is) outer formed h typed variables = tt

  patterns_sound : {known : Known} {at : ℕ} {vars : Variables} {es : ContextEntries} {ps : Patterns} {ts : Opens} {o : PatternOutcome} → MatchesPatterns known at vars es ps ts o
      → (outer : ℕ) → IsFormedKnown known → AreFormedPatterns known ps → IsWellFormedContext known.arity es → AreTypesIn known.arity es ts → AreBound es vars → SoundPatterns known outer es ps ts vars o
  patterns_sound patterns_done outer formed h wf typed variables = λ σ fits ps v. record { types = []; binds = bind_none; values = v }
  patterns_sound (patterns_next {known = known} {vars = vars} {ws = ws} {es = es} {fs = fs} {p = p} {ps = ps} {t = t} {ts = ts} {o = o} d ds) outer formed h wf typed variables =
      let e : PatternExtended known.arity es (matched ws fs) = pattern_extends d formed h.0 wf typed.0 variables in
      let there : AreTypesIn known.arity fs ts = types_covered known.arity es fs ts (Covered-grows e.1) typed.1 in
      next_sound known outer es fs p ps t ts vars ws o e.1 (pattern_sound d outer formed h.0 wf typed.0 variables) (patterns_extend ds formed h.1 e.0 there e.2) (patterns_sound ds outer formed h.1 e.0 there e.2)
  patterns_sound (patterns_stop d) outer formed h wf typed variables = tt
