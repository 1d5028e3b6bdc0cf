-- Patterns leave well-formed contexts that have what stood before.
use Rattle.std.proofs.Common.{◌≡◌, ℕ, List, [], ◌∷◌, ◌++◌, map, Some, sym, ap, subst, ◌∙◌, arith}
use Rattle.std.proofs.lemmas.Option.{none-some, same_Some}
use Rattle.uc_tree.specs.declared.literal.Literal.{Literal}
use Rattle.uc_tree.specs.declared.literal.Literal.TheVariants as literals
use Rattle.uc_tree.specs.declared.target.Target.{Target}
use Rattle.uc_tree.specs.Patterns.{Pattern, Patterns}
use Rattle.uc_tree.specs.Patterns as patterns
use Rattle.uc_tree.specs.Types.{Ty}
use Rattle.uc_kinds.specs.PatternTyping.{Known, target_type}
use Rattle.uc_kinds.specs.WellFormed.{Arity}
use Rattle.uc_context.specs.declared.entry.Entry.TheVariants.{Exists, Binder}
use Rattle.uc_context.specs.Closing.{open_from}
use Rattle.uc_context.specs.Entries.{ContextEntries}
use Rattle.uc_context.specs.Fresh.{fresh_number, fresh_numbers}
use Rattle.uc_context.specs.Opens.{Open, existential, unit, Opens, none, more, opens_of}
use Rattle.uc_context.proofs.FreshNumbers.{fresh_numbers-AreNew}
use Rattle.uc_subtyping.specs.Outcomes.{done}
use Rattle.uc_soundness.specs.Extending.{Extends}
use Rattle.uc_soundness.specs.WellFormed.{IsTypeIn, IsWellFormedContext}
use Rattle.uc_soundness.proofs.Extending.{Extends-refl}
use Rattle.uc_soundness.proofs.Instances.{all_new}
use Rattle.uc_soundness.proofs.Outcomes.{Extended}
use Rattle.uc_soundness.proofs.Subtypes.{AreTypesIn, types_covered, mono_types, subtypes_extend}
use Rattle.uc_soundness.proofs.Types.{Covered-extends, type_covered}
use Rattle.uc_soundness.proofs.WellFormed.{well_formed_append}
use Rattle.uc_typing.specs.Fronts.{front_count, behind_front, existentials, repeated, list_of, literal_type}
use Rattle.uc_typing.specs.PatternMatching.{patterns_count, Expectation, expects_type, expects_tuple, expects_list, expects_fields, expects_constructor, expected, MatchesPattern, matches_any, matches_variable, matches_alias, matches_expected, MeetsExpectation, meets_parts, meets_other_count, meets_refused, MatchesPatterns, patterns_done, patterns_next, patterns_stop}
use Rattle.uc_typing.specs.Stops.{Variables, PatternOutcome, matched, unmatched}
use Rattle.uc_sound_typing.specs.Formed.{IsFormedKnown, IsFormedPattern, AreFormedPatterns}
use Rattle.uc_sound_typing.specs.Growing.{Grows}
use Rattle.uc_sound_typing.specs.Seeing.{AreBound, one_bound}
use Rattle.uc_sound_typing.proofs.Binders.{binder_last, keeps_grown, bound_on}
use Rattle.uc_sound_typing.proofs.Growing.{Grows-extends, Grows-trans, fresh_unbound, Grows-binder, Covered-grows}
use Rattle.uc_sound_typing.proofs.NewExistentials.{with_existentials, behind_typed, arguments_typed, result_typed, repeated_typed, Extends-existentials}
use Rattle.uc_sound_typing.proofs.WrittenTypes.{open_typed}

-- a context that is left by a pattern
abbrev pub PatternExtended : Arity → ContextEntries → PatternOutcome → Type 0
PatternExtended arity es (matched ws fs) = IsWellFormedContext arity fs × Grows es fs × AreBound fs ws
PatternExtended arity es (unmatched stop) = Unit {0}

module _ (arity : Arity) where
  pattern_on : (es fs : ContextEntries) (o : PatternOutcome) → Grows es fs → PatternExtended arity fs o → PatternExtended arity es o
  pattern_on es fs (matched ws gs) g h = (h.0, Grows-trans g h.1, h.2)
  pattern_on es fs (unmatched stop) g h = tt

  -- one binder more
  pub bind_extended : (es : ContextEntries) (n : ℕ) (s : Open) (vars : Variables) → n ≡ fresh_number es → IsWellFormedContext arity es → IsTypeIn arity es 0 s → AreBound es vars
      → PatternExtended arity es (matched (Some n ∷ vars) (es ++ Binder n s ∷ []))
  bind_extended es n s vars is wf typed bound = (
    well_formed_append arity [] es (Binder n s ∷ []) wf (typed, tt),
    Grows-binder es n s (fresh_unbound es n is),
    one_bound (binder_last n es s) (bound_on bound (keeps_grown (Grows-binder es n s (fresh_unbound es n is)))),
  )

-- what a pattern expects is well-formed
pub record IsFormedExpectation (known : Known) (es : ContextEntries) (x : Expectation) : Type 0 where
  pub context : IsWellFormedContext known.arity x.context
  pub extends : Extends es x.context
  pub typed : IsTypeIn known.arity x.context 0 x.type
  pub parts : AreFormedPatterns known x.parts
  pub types : AreTypesIn known.arity x.context x.types

module _ (known : Known) (es : ContextEntries) where
  pub constructor_is : (c : Target) (ps : Patterns) (x : Expectation) (ty : Ty) → target_type known c ≡ Some ty → expected known es (patterns.constructor c ps) ≡ Some x → expects_fields es ps (open_from ty) (fresh_numbers (front_count (open_from ty)) es) ≡ x
  constructor_is c ps x ty is e = same_Some (expects_fields es ps (open_from ty) (fresh_numbers (front_count (open_from ty)) es)) x (ap (expects_constructor es ps) (sym is) ∙ e)

module _ (known : Known) (formed : IsFormedKnown known) (es : ContextEntries) (wf : IsWellFormedContext known.arity es) where
  pub literal_typed : (fs : ContextEntries) (l : Literal) → IsTypeIn known.arity fs 0 (literal_type l)
  literal_typed fs (literals.Nat n) = (formed.plain 0 (omega arith), tt)
  literal_typed fs (literals.Int z) = (formed.plain 1 (omega arith), tt)
  literal_typed fs (literals.Boolean b) = (formed.plain 2 (omega arith), tt)
  literal_typed fs (literals.Text text) = (formed.plain 3 (omega arith), tt)
  literal_typed fs (literals.Char c) = (formed.plain 4 (omega arith), tt)

  type_formed : (t : Open) → IsTypeIn known.arity es 0 t → IsFormedExpectation known es (expects_type es t)
  type_formed t h = record { context = wf; extends = Extends-refl es; typed = h; parts = tt; types = tt }

  tuple_formed : (ps : Patterns) (k : ℕ) → AreFormedPatterns known ps → IsFormedExpectation known es (expects_tuple es ps (fresh_numbers k es))
  tuple_formed ps k h =
      let ns : List ℕ = fresh_numbers k es in
      let declared = all_new known.arity es ns in
      record {
        context = with_existentials known.arity es ns (fresh_numbers-AreNew k es) wf;
        extends = Extends-existentials es ns;
        typed = declared;
        parts = h;
        types = mono_types known.arity (es ++ map (λ n. Exists n) ns) (opens_of (existentials ns)) declared;
      }

  list_formed : (ps : Patterns) (types : Open → Opens) → AreFormedPatterns known ps
      → ((fs : ContextEntries) (t : Open) → IsTypeIn known.arity fs 0 t → IsTypeIn known.arity fs 0 (list_of t) → AreTypesIn known.arity fs (types t)) → IsFormedExpectation known es (expects_list es ps types (fresh_number es))
  list_formed ps types h typed =
      let declared = all_new known.arity es (fresh_number es ∷ []) in
      record {
        context = with_existentials known.arity es (fresh_number es ∷ []) (fresh_numbers-AreNew 1 es) wf;
        extends = Extends-existentials es (fresh_number es ∷ []);
        typed = (formed.list, declared);
        parts = h;
        types = typed (es ++ Exists (fresh_number es) ∷ []) (existential (fresh_number es)) declared.0 (formed.list, declared);
      }

  fields_formed : (ps : Patterns) (ty : Ty) (k : ℕ) → AreFormedPatterns known ps → ((fs : ContextEntries) → IsTypeIn known.arity fs 0 (open_from ty)) → IsFormedExpectation known es (expects_fields es ps (open_from ty) (fresh_numbers k es))
  fields_formed ps ty k h typed =
      let ns : List ℕ = fresh_numbers k es in
      let fs : ContextEntries = es ++ map (λ n. Exists n) ns in
      let behind : IsTypeIn known.arity fs 0 (behind_front (existentials ns) (open_from ty)) = behind_typed known.arity fs ns (open_from ty) (all_new known.arity es ns) (typed fs) in
      record {
        context = with_existentials known.arity es ns (fresh_numbers-AreNew k es) wf;
        extends = Extends-existentials es ns;
        typed = result_typed known.arity fs (behind_front (existentials ns) (open_from ty)) behind;
        parts = h;
        types = arguments_typed known.arity fs (behind_front (existentials ns) (open_from ty)) behind;
      }

  pub expected_formed : (q : Pattern) (x : Expectation) → IsFormedPattern known q → expected known es q ≡ Some x → IsFormedExpectation known es x
  expected_formed patterns.any x h e = absurd (none-some x e)
  expected_formed patterns.variable x h e = absurd (none-some x e)
  expected_formed (patterns.alias p) x h e = absurd (none-some x e)
  expected_formed (patterns.literal l) x h e = subst (IsFormedExpectation known es) (same_Some (expects_type es (literal_type l)) x e) (type_formed (literal_type l) (literal_typed es l))
  expected_formed patterns.unit x h e = subst (IsFormedExpectation known es) (same_Some (expects_type es unit) x e) (type_formed unit tt)
  expected_formed (patterns.tuple ps) x h e = subst (IsFormedExpectation known es) (same_Some (expects_tuple es ps (fresh_numbers (patterns_count ps) es)) x e) (tuple_formed ps (patterns_count ps) h)
  expected_formed (patterns.list ps) x h e =
      subst (IsFormedExpectation known es) (same_Some (expects_list es ps (repeated (patterns_count ps)) (fresh_number es)) x e)
      (list_formed ps (repeated (patterns_count ps)) h (λ fs t typed list. repeated_typed known.arity fs (patterns_count ps) t typed))
  expected_formed (patterns.constructor c ps) x h e =
      subst (IsFormedExpectation known es) (constructor_is known es c ps x h.0.ty h.0.is e) (fields_formed ps h.0.ty (front_count (open_from h.0.ty)) h.1 (λ fs. open_typed known.arity fs h.0.ty (formed.types c h.0.ty h.0.is)))
  expected_formed (patterns.cons p q) x h e =
      subst (IsFormedExpectation known es) (same_Some (expects_list es (patterns.more p (patterns.more q patterns.none)) (λ t. more t (more (list_of t) none)) (fresh_number es)) x e)
      (list_formed (patterns.more p (patterns.more q patterns.none)) (λ t. more t (more (list_of t) none)) (h.0, (h.1, tt)) (λ fs t typed list. (typed, (list, tt))))
  expected_formed (patterns.snoc p q) x h e =
      subst (IsFormedExpectation known es) (same_Some (expects_list es (patterns.more p (patterns.more q patterns.none)) (λ t. more (list_of t) (more t none)) (fresh_number es)) x e)
      (list_formed (patterns.more p (patterns.more q patterns.none)) (λ t. more (list_of t) (more t none)) (h.0, (h.1, tt)) (λ fs t typed list. (list, (typed, tt))))

mutual
  pub pattern_extends : {known : Known} {at : ℕ} {vars : Variables} {es : ContextEntries} {q : Pattern} {s : Open} {o : PatternOutcome} → MatchesPattern known at vars es q s o
      → IsFormedKnown known → IsFormedPattern known q → IsWellFormedContext known.arity es → IsTypeIn known.arity es 0 s → AreBound es vars → PatternExtended known.arity es o
  pattern_extends (matches_any {es = es}) formed h wf typed bound = (wf, Grows-extends (Extends-refl es), bound)
  pattern_extends (matches_variable {known = known} {n = n} {vars = vars} {vars' = vars'} {es = es} {fs = fs} {s = s} is vars_are fs_are) formed h wf typed bound =
      subst (λ (ws : Variables). PatternExtended known.arity es (matched ws fs)) (sym vars_are)
      (subst (λ (cs : ContextEntries). PatternExtended known.arity es (matched (Some n ∷ vars) cs)) (sym fs_are) (bind_extended known.arity es n s vars is wf typed bound))
  pattern_extends (matches_alias {known = known} {n = n} {vars = vars} {es = es} {s = s} {o = o} is d) formed h wf typed bound =
      let b : PatternExtended known.arity es (matched (Some n ∷ vars) (es ++ Binder n s ∷ [])) = bind_extended known.arity es n s vars is wf typed bound in
      pattern_on known.arity es (es ++ Binder n s ∷ []) o b.1 (pattern_extends d formed h b.0 (type_covered known.arity es (es ++ Binder n s ∷ []) (Covered-grows b.1) 0 s typed) b.2)
  pattern_extends (matches_expected {known = known} {es = es} {p = p} {s = s} {x = x} {o = o} is d) formed h wf typed bound =
      let e : IsFormedExpectation known es x = expected_formed known formed es wf p x h is in
      pattern_on known.arity es x.context o (Grows-extends e.extends) (expectation_extends d formed e (type_covered known.arity es x.context (Covered-extends e.extends) 0 s typed) (bound_on bound (keeps_grown (Grows-extends e.extends))))

  expectation_extends : {known : Known} {at : ℕ} {vars : Variables} {x : Expectation} {s : Open} {o : PatternOutcome} {es : ContextEntries} → MeetsExpectation known at vars x s o
      → IsFormedKnown known → IsFormedExpectation known es x → IsTypeIn known.arity x.context 0 s → AreBound x.context vars → PatternExtended known.arity x.context o
  expectation_extends (meets_parts {known = known} {x = x} {fs = fs} {s = s} {o = o} d count ds) formed h typed bound =
      let e : Extended known.arity x.context (done fs) = subtypes_extend known.arity d h.context (typed, tt) (h.typed, tt) in
      pattern_on known.arity x.context fs o (Grows-extends e.1)
      (patterns_extend ds formed h.parts e.0 (types_covered known.arity x.context fs x.types (Covered-extends e.1) h.types) (bound_on bound (keeps_grown (Grows-extends e.1))))
  expectation_extends (meets_other_count d other) formed h typed bound = tt
  expectation_extends (meets_refused d is) formed h typed bound = tt

  pub patterns_extend : {known : Known} {at : ℕ} {vars : Variables} {es : ContextEntries} {ps : Patterns} {ts : Opens} {o : PatternOutcome} → MatchesPatterns known at vars es ps ts o
      → IsFormedKnown known → AreFormedPatterns known ps → IsWellFormedContext known.arity es → AreTypesIn known.arity es ts → AreBound es vars → PatternExtended known.arity es o
  patterns_extend (patterns_done {es = es}) formed h wf typed bound = (wf, Grows-extends (Extends-refl es), bound)
  patterns_extend (patterns_next {known = known} {ws = ws} {es = es} {fs = fs} {ts = ts} {o = o} d ds) formed h wf typed bound =
      let e : PatternExtended known.arity es (matched ws fs) = pattern_extends d formed h.0 wf typed.0 bound in
      pattern_on known.arity es fs o e.1 (patterns_extend ds formed h.1 e.0 (types_covered known.arity es fs ts (Covered-grows e.1) typed.1) e.2)
  patterns_extend (patterns_stop d) formed h wf typed bound = tt
