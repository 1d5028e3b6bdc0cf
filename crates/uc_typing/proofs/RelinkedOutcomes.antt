-- What judgements say of relinked terms.
use Rattle.std.proofs.Common.{◌≡◌, ℕ, suc, ◌+◌, Bool, true, false, List, [], ◌∷◌, ◌++◌, map, length, Option, Some, None, refl, sym, ap, ap₂, subst, subst₂, ◌∙◌, cond}
use Rattle.std.specs.Prelude.{slice_get}
use Rattle.std.proofs.lemmas.Option.{same_Some}
use Rattle.uc_base.specs.declared.reference.Ref.{Ref}
use Rattle.uc_tree.specs.declared.definition.Definition.{Definition}
use Rattle.uc_tree.specs.declared.target.Target.{Target}
use Rattle.uc_tree.specs.declared.target.Target.TheVariants.{Stored, Own, OwnCtor}
use Rattle.uc_tree.specs.Nodes.{ty_nodes, pattern_nodes, term_nodes}
use Rattle.uc_tree.specs.Patterns.{Pattern, Patterns}
use Rattle.uc_tree.specs.Patterns as patterns
use Rattle.uc_tree.specs.Terms.{Term, Terms, Cases}
use Rattle.uc_tree.specs.Terms as terms
use Rattle.uc_tree.specs.Types.{Ty}
use Rattle.uc_kinds.specs.PatternTyping.{Known, target_type, if_signed}
use Rattle.uc_kinds.specs.Typing.{uses}
use Rattle.uc_context.specs.declared.entry.Entry.TheVariants.{Exists, Binder}
use Rattle.uc_context.specs.Entries.{ContextEntries}
use Rattle.uc_context.specs.Fresh.{fresh_number, fresh_numbers}
use Rattle.uc_context.specs.Opens.{Open, Opens, existential, none, more}
use Rattle.uc_subtyping.specs.Instances.{opens_count}
use Rattle.uc_typing.specs.Checking.{Checks, checks_small, checks_large, ChecksAgainst, against_quantified, against_form, against_subtype, against_no_subtype, against_type_stops}
use Rattle.uc_typing.specs.Checking.{ChecksByForm, form_lambda, form_tuple, form_list, form_conditional, form_signed, form_signed_stops, form_own_use, form_binding, form_binding_stops, form_match, form_match_stops}
use Rattle.uc_typing.specs.Checking.{Synthesizes, synthesizes_small, synthesizes_large, synthesizes_stop}
use Rattle.uc_typing.specs.Checking.{Finds, finds_variable, finds_link, finds_literal, finds_unit, finds_annotated, finds_lambda, finds_application, finds_no_function, finds_tuple, finds_list, finds_and, finds_or, finds_conditional, finds_no_condition, finds_binding, finds_match}
use Rattle.uc_typing.specs.Checking.{Applies, applies_quantified, applies_arrow, applies_existential, applies_ill, Meets, meets_quantified, meets_rest, meets_large}
use Rattle.uc_typing.specs.Checking.{ChecksAll, all_checked, checked_next, checked_stop, ChecksCases, all_cases, case_next, case_stop, guarded_next, guarded_stop, ChecksCase, case_checked, case_unmatched}
use Rattle.uc_typing.specs.Fronts.{behind_front, existentials, repeated}
use Rattle.uc_typing.specs.PatternMatching.{Expectation, expected, expects_constructor, expects_list, expects_tuple, MatchesPattern, matches_any, matches_variable, matches_alias, matches_expected, MeetsExpectation, meets_parts, meets_other_count, meets_refused, MatchesPatterns, patterns_done, patterns_next, patterns_stop}
use Rattle.uc_typing.specs.Relinking.{relinked_target, relinked_pattern, relinked_patterns, relinked, all_relinked, cases_relinked, KeepsTypes}
use Rattle.uc_typing.specs.Scopes.{Sight, under, with_variables}
use Rattle.uc_typing.specs.Stops.{Stop, Variables, PatternOutcome, TermOutcome, stops, TypeOutcome}
use Rattle.uc_typing.specs.Terms.{terms_count}
use Rattle.uc_typing.proofs.RelinkedTerms.{pattern_length, term_length, patterns_counted, terms_counted, same_uses, same_rule}

-- an expectation with its parts relinked
abbrev expectation_relinked : (Ref → Ref) → Expectation → Expectation
expectation_relinked f x = record { context = x.context; type = x.type; parts = relinked_patterns f x.parts; types = x.types }

module _ (f : Ref → Ref) (known known' : Known) (types : KeepsTypes f known known') (signatures : known.signatures ≡ known'.signatures) where
  pub target_stays : (x : Target) (ty : Ty) → target_type known x ≡ Some ty → target_type known' (relinked_target f x) ≡ Some ty
  target_stays (Stored r) ty is = types r ty is
  target_stays (Own k) ty is = sym (ap (λ (ss : List (Option Ty)). if_signed (slice_get ss k)) signatures) ∙ is
  target_stays (OwnCtor k c) ty is = is

  -- a constructor that has a type expects the same
  fields_stay : (es : ContextEntries) (ps : Patterns) (x : Target) (y : Expectation) → expected known es (patterns.constructor x ps) ≡ Some y
      → expected known' es (patterns.constructor (relinked_target f x) (relinked_patterns f ps)) ≡ Some (expectation_relinked f y)
  fields_stay es ps x y is = go (target_type known x) refl is
    where
      go : (o : Option Ty) → target_type known x ≡ o → expects_constructor es ps o ≡ Some y → expected known' es (patterns.constructor (relinked_target f x) (relinked_patterns f ps)) ≡ Some (expectation_relinked f y)
      go None at e = absurd cc
      go (Some ty) at e = ap (expects_constructor es (relinked_patterns f ps)) (target_stays x ty at) ∙ ap (λ (z : Expectation). Some (expectation_relinked f z)) (same_Some _ _ e)

  expected_stays : (es : ContextEntries) (p : Pattern) (x : Expectation) → expected known es p ≡ Some x → expected known' es (relinked_pattern f p) ≡ Some (expectation_relinked f x)
  expected_stays es patterns.any x is = absurd cc
  expected_stays es patterns.variable x is = absurd cc
  expected_stays es (patterns.alias p) x is = absurd cc
  expected_stays es (patterns.literal l) x is = ap (λ (z : Expectation). Some (expectation_relinked f z)) (same_Some _ _ is)
  expected_stays es patterns.unit x is = ap (λ (z : Expectation). Some (expectation_relinked f z)) (same_Some _ _ is)
  expected_stays es (patterns.tuple ps) x is =
      ap (λ (k : ℕ). Some (expects_tuple es (relinked_patterns f ps) (fresh_numbers k es))) (patterns_counted f ps) ∙ ap (λ (z : Expectation). Some (expectation_relinked f z)) (same_Some _ _ is)
  expected_stays es (patterns.list ps) x is =
      ap (λ (k : ℕ). Some (expects_list es (relinked_patterns f ps) (repeated k) (fresh_number es))) (patterns_counted f ps) ∙ ap (λ (z : Expectation). Some (expectation_relinked f z)) (same_Some _ _ is)
  expected_stays es (patterns.constructor c ps) x is = fields_stay es ps c x is
  expected_stays es (patterns.cons p q) x is = ap (λ (z : Expectation). Some (expectation_relinked f z)) (same_Some _ _ is)
  expected_stays es (patterns.snoc p q) x is = ap (λ (z : Expectation). Some (expectation_relinked f z)) (same_Some _ _ is)

  mutual
    pub pattern_stays : {at : ℕ} {vars : Variables} {es : ContextEntries} {q : Pattern} {s : Open} {o : PatternOutcome} → MatchesPattern known at vars es q s o → MatchesPattern known' at vars es (relinked_pattern f q) s o
    pattern_stays matches_any = matches_any
    pattern_stays (matches_variable n v e) = matches_variable n v e
    pattern_stays (matches_alias n d) = matches_alias n (pattern_stays d)
    pattern_stays {es = es} {q = q} (matches_expected {x = x} is d) = matches_expected (expected_stays es q x is) (expectation_stays d)

    expectation_stays : {at : ℕ} {vars : Variables} {x : Expectation} {s : Open} {o : PatternOutcome} → MeetsExpectation known at vars x s o → MeetsExpectation known' at vars (expectation_relinked f x) s o
    expectation_stays {x = x} (meets_parts d count e) = meets_parts d (patterns_counted f x.parts ∙ count) (patterns_stay e)
    expectation_stays {x = x} (meets_other_count d other) = meets_other_count d (λ same. other (sym (patterns_counted f x.parts) ∙ same))
    expectation_stays (meets_refused d stop) = meets_refused d stop

    patterns_stay : {at : ℕ} {vars : Variables} {es : ContextEntries} {ps : Patterns} {ts : Opens} {o : PatternOutcome} → MatchesPatterns known at vars es ps ts o → MatchesPatterns known' at vars es (relinked_patterns f ps) ts o
    patterns_stay patterns_done = patterns_done
    patterns_stay {at = at} {o = o} (patterns_next {ws = ws} {fs = fs} {p = p} {ps = ps} {ts = ts} d e) =
        patterns_next (pattern_stays d) (subst (λ (k : ℕ). MatchesPatterns known' (at + k) ws fs (relinked_patterns f ps) ts o) (sym (pattern_length f p)) (patterns_stay e))
    patterns_stay (patterns_stop d) = patterns_stop (pattern_stays d)

  mutual
    pub check_stays : {sight : Sight} {at : ℕ} {es : ContextEntries} {e : Term} {t : Open} {o : TermOutcome} → Checks known sight at es e t o → Checks known' sight at es (relinked f e) t o
    check_stays (checks_small small d) = checks_small small (against_stays d)
    check_stays (checks_large large) = checks_large large

    against_stays : {sight : Sight} {at : ℕ} {es : ContextEntries} {e : Term} {t : Open} {o : TermOutcome} → ChecksAgainst known sight at es e t o → ChecksAgainst known' sight at es (relinked f e) t o
    against_stays (against_quantified n d p) = against_quantified n (check_stays d) p
    against_stays (against_form q d) = against_form q (form_stays d)
    against_stays {e = e} {t = t} (against_subtype q h d s) = against_subtype q (same_rule f e t ∙ h) (synthesis_stays d) s
    against_stays {e = e} {t = t} (against_no_subtype q h d s stop) = against_no_subtype q (same_rule f e t ∙ h) (synthesis_stays d) s stop
    against_stays {e = e} {t = t} (against_type_stops q h d) = against_type_stops q (same_rule f e t ∙ h) (synthesis_stays d)

    form_stays : {sight : Sight} {at : ℕ} {es : ContextEntries} {e : Term} {t : Open} {o : TermOutcome} → ChecksByForm known sight at es e t o → ChecksByForm known' sight at es (relinked f e) t o
    form_stays (form_lambda n d p) = form_lambda n (check_stays d) p
    form_stays (form_tuple {parts = parts} count d) = form_tuple (terms_counted f parts ∙ count) (all_stay d)
    form_stays {sight = sight} {at = at} {es = es} {o = o} (form_list {elements = elements} {t = t} s d) =
        form_list s (subst (λ (k : ℕ). ChecksAll known' sight (at + 1) es (all_relinked f elements) (repeated k t) o) (sym (terms_counted f elements)) (all_stay d))
    form_stays (form_conditional d) = form_conditional (all_stay d)
    form_stays {sight = sight} {at = at} (form_signed {n = n} {fs = fs} {ty = ty} {a = a} {b = b} {t = t} {o = o} m s d e p) =
        form_signed m s (meeting_stays d) (subst (λ (k : ℕ). Checks known' (under (Some n) sight) (at + 1 + length (ty_nodes ty) + k) fs (relinked f b) t o) (sym (term_length f a)) (check_stays e)) p
    form_stays (form_signed_stops n s d) = form_signed_stops n s (meeting_stays d)
    form_stays (form_own_use {a = a} u) = form_own_use (same_uses f 0 a ∙ u)
    form_stays {sight = sight} {at = at} (form_binding {n = n} {fs = fs} {a = a} {b = b} {s = s} {t = t} {o = o} u d m e p) =
        form_binding (same_uses f 0 a ∙ u) (synthesis_stays d) m (subst (λ (k : ℕ). Checks known' (under (Some n) sight) (at + 1 + k) (fs ++ Binder n s ∷ []) (relinked f b) t o) (sym (term_length f a)) (check_stays e)) p
    form_stays (form_binding_stops {a = a} u d) = form_binding_stops (same_uses f 0 a ∙ u) (synthesis_stays d)
    form_stays {sight = sight} {at = at} {o = o} (form_match {fs = fs} {e = e} {cs = cs} {s = s} {t = t} {numbers = ns} d n c) =
        form_match (synthesis_stays d) n (subst (λ (k : ℕ). ChecksCases known' sight (at + 1 + k) (fs ++ map (λ m. Exists m) ns) (cases_relinked f cs) (behind_front (existentials ns) s) t o) (sym (term_length f e)) (cases_stay c))
    form_stays (form_match_stops d) = form_match_stops (synthesis_stays d)

    pub synthesis_stays : {sight : Sight} {at : ℕ} {es : ContextEntries} {e : Term} {o : TypeOutcome} → Synthesizes known sight at es e o → Synthesizes known' sight at es (relinked f e) o
    synthesis_stays (synthesizes_small d small u) = synthesizes_small (finding_stays d) small u
    synthesis_stays (synthesizes_large d large) = synthesizes_large (finding_stays d) large
    synthesis_stays (synthesizes_stop d) = synthesizes_stop (finding_stays d)

    finding_stays : {sight : Sight} {at : ℕ} {es : ContextEntries} {e : Term} {o : TypeOutcome} → Finds known sight at es e o → Finds known' sight at es (relinked f e) o
    finding_stays (finds_variable i b) = finds_variable i b
    finding_stays (finds_link {x = x} {ty = ty} is t) = finds_link (target_stays x ty is) t
    finding_stays (finds_literal t) = finds_literal t
    finding_stays finds_unit = finds_unit
    finding_stays (finds_annotated w d p) = finds_annotated w (check_stays d) p
    finding_stays (finds_lambda n d p) = finds_lambda n (check_stays d) p
    finding_stays {sight = sight} {at = at} {o = o} (finds_application {fs = fs} {f = g} {e = e} {s = s} d a) =
        finds_application (synthesis_stays d) (subst (λ (k : ℕ). Applies known' sight at (at + 1 + k) fs s (relinked f e) o) (sym (term_length f g)) (application_stays a))
    finding_stays (finds_no_function d) = finds_no_function (synthesis_stays d)
    finding_stays {sight = sight} {at = at} {es = es} (finds_tuple {parts = parts} {numbers = ns} n d p) = finds_tuple (n ∙ ap (λ (k : ℕ). fresh_numbers k es) (sym (terms_counted f parts))) (all_stay d) p
    finding_stays {sight = sight} {at = at} {es = es} (finds_list {n = m} {elements = elements} {o = o} n d p) =
        finds_list n (subst (λ (k : ℕ). ChecksAll known' sight (at + 1) (es ++ Exists m ∷ []) (all_relinked f elements) (repeated k (existential m)) o) (sym (terms_counted f elements)) (all_stay d)) p
    finding_stays (finds_and d p) = finds_and (all_stay d) p
    finding_stays (finds_or d p) = finds_or (all_stay d) p
    finding_stays {sight = sight} {at = at} (finds_conditional {n = m} {fs = fs} {a = a} {b = b} {c = c} {o = o} d n e p) =
        finds_conditional (check_stays d) n (subst (λ (k : ℕ). ChecksAll known' sight (at + 1 + k) (fs ++ Exists m ∷ []) (terms.more (relinked f b) (terms.more (relinked f c) terms.none)) (more (existential m) (more (existential m) none)) o) (sym (term_length f a)) (all_stay e)) p
    finding_stays (finds_no_condition d) = finds_no_condition (check_stays d)
    finding_stays (finds_binding n d p) = finds_binding n (form_stays d) p
    finding_stays (finds_match n d p) = finds_match n (form_stays d) p

    application_stays : {sight : Sight} {at next : ℕ} {es : ContextEntries} {s : Open} {e : Term} {o : TypeOutcome} → Applies known sight at next es s e o → Applies known' sight at next es s (relinked f e) o
    application_stays (applies_quantified n d) = applies_quantified n (application_stays d)
    application_stays (applies_arrow d p) = applies_arrow (check_stays d) p
    application_stays (applies_existential u n d p) = applies_existential u n (check_stays d) p
    application_stays (applies_ill ill) = applies_ill ill

    pub meeting_stays : {sight : Sight} {at : ℕ} {es : ContextEntries} {e : Term} {s : Open} {o : TermOutcome} → Meets known sight at es e s o → Meets known' sight at es (relinked f e) s o
    meeting_stays (meets_quantified small n d p) = meets_quantified small n (meeting_stays d) p
    meeting_stays (meets_rest q d) = meets_rest q (check_stays d)
    meeting_stays (meets_large large) = meets_large large

    all_stay : {sight : Sight} {at : ℕ} {es : ContextEntries} {bodies : Terms} {ts : Opens} {o : TermOutcome} → ChecksAll known sight at es bodies ts o → ChecksAll known' sight at es (all_relinked f bodies) ts o
    all_stay all_checked = all_checked
    all_stay {sight = sight} {at = at} {o = o} (checked_next {fs = fs} {e = e} {rest = rest} {ts = ts} d c) =
        checked_next (check_stays d) (subst (λ (k : ℕ). ChecksAll known' sight (at + k) fs (all_relinked f rest) ts o) (sym (term_length f e)) (all_stay c))
    all_stay (checked_stop d) = checked_stop (check_stays d)

    cases_stay : {sight : Sight} {at : ℕ} {es : ContextEntries} {cs : Cases} {s t : Open} {o : TermOutcome} → ChecksCases known sight at es cs s t o → ChecksCases known' sight at es (cases_relinked f cs) s t o
    cases_stay all_cases = all_cases
    cases_stay {sight = sight} {at = at} {s = s} {t = t} {o = o} (case_next {fs = fs} {q = q} {b = b} {cs = cs} d c) =
        case_next (case_stays d) (subst₂ (λ (k l : ℕ). ChecksCases known' sight (at + k + l) fs (cases_relinked f cs) s t o) (sym (pattern_length f q)) (sym (term_length f b)) (cases_stay c))
    cases_stay (case_stop d) = case_stop (case_stays d)
    cases_stay {sight = sight} {at = at} {s = s} {t = t} {o = o} (guarded_next {fs = fs} {q = q} {g = g} {b = b} {cs = cs} d c) =
        guarded_next (case_stays d)
        (subst (λ (m : ℕ). ChecksCases known' sight (at + length (pattern_nodes (relinked_pattern f q)) + length (term_nodes (relinked f g)) + m) fs (cases_relinked f cs) s t o) (sym (term_length f b))
        (subst₂ (λ (k l : ℕ). ChecksCases known' sight (at + k + l + length (term_nodes b)) fs (cases_relinked f cs) s t o) (sym (pattern_length f q)) (sym (term_length f g)) (cases_stay c)))
    cases_stay (guarded_stop d) = guarded_stop (case_stays d)

    case_stays : {sight : Sight} {at : ℕ} {es : ContextEntries} {q : Pattern} {bodies : Terms} {s : Open} {ts : Opens} {o : TermOutcome} → ChecksCase known sight at es q bodies s ts o → ChecksCase known' sight at es (relinked_pattern f q) (all_relinked f bodies) s ts o
    case_stays {sight = sight} {at = at} (case_checked {fs = fs} {q = q} {bodies = bodies} {ts = ts} {vars = vars} {o = o} n m d p) =
        case_checked n (pattern_stays m) (subst (λ (k : ℕ). ChecksAll known' (with_variables vars sight) (at + k) fs (all_relinked f bodies) ts o) (sym (pattern_length f q)) (all_stay d)) p
    case_stays (case_unmatched n m) = case_unmatched n (pattern_stays m)
