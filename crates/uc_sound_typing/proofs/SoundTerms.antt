-- Terms have the types that are found.
use Rattle.uc_tree.specs.Terms as terms
use Rattle.std.proofs.Common.{◌≡◌, ℕ, suc, ◌+◌, List, [], ◌∷◌, ◌++◌, map, length, Some, refl, sym, ap, subst, ◌∙◌, None}
use Rattle.uc_tree.specs.Patterns.{Pattern}
use Rattle.uc_tree.specs.Terms.{Term, Terms, Cases}
use Rattle.uc_kinds.specs.PatternTyping.{Known}
use Rattle.uc_kinds.specs.Typing.{binders_in, by_tuple, by_list, by_conditional, of_variable, of_link, of_literal, of_unit, of_list, of_and, of_or, of_binding, of_match, at_argument, at_rest, have_none, have_more, no_cases, more_cases, more_guarded, HasType, Infers}
use Rattle.uc_context.specs.declared.entry.Entry.TheVariants.{Rigid, Exists, Mark, Binder}
use Rattle.uc_context.specs.Entries.{ContextEntries}
use Rattle.uc_context.specs.Fresh.{AreNew}
use Rattle.uc_context.specs.Opens.{Open, existential, arrow, tuple, Opens, opens_of, rigid, quantified, none, more}
use Rattle.uc_context.specs.Solving.{solved_with_arrow}
use Rattle.uc_context.proofs.FreshNumbers.{fresh_numbers-AreNew}
use Rattle.uc_subtyping.specs.Outcomes.{done}
use Rattle.uc_soundness.specs.Extending.{Extends}
use Rattle.uc_soundness.specs.WellFormed.{IsTypeIn, IsWellFormedContext}
use Rattle.uc_soundness.proofs.Extending.{Extends-trans}
use Rattle.uc_soundness.proofs.Instances.{rigid_formed, rigid_typed, all_new, extended_with_arrow}
use Rattle.uc_soundness.proofs.Outcomes.{Extended, extended_on, Given, given_on, given_cut}
use Rattle.uc_soundness.proofs.Subtypes.{AreTypesIn, types_covered, mono_types, subtypes_extend}
use Rattle.uc_soundness.proofs.Types.{Covered, Covered-front, Covered-extends, Covered-trans, type_covered}
use Rattle.uc_soundness.proofs.WellFormed.{type_under_typed}
use Rattle.uc_typing.specs.Checking.{Checks, checks_small, checks_large, ChecksAgainst, against_quantified, against_form, against_subtype, against_no_subtype, against_type_stops, ChecksByForm, form_lambda, form_tuple, form_list, form_conditional, form_signed, form_signed_stops, form_own_use, form_binding, form_binding_stops, form_match, form_match_stops, Synthesizes, synthesizes_small, synthesizes_large, synthesizes_stop, Finds, finds_variable, finds_link, finds_literal, finds_unit, finds_annotated, finds_lambda, finds_application, finds_no_function, finds_tuple, finds_list, finds_and, finds_or, finds_conditional, finds_no_condition, finds_binding, finds_match, Applies, applies_quantified, applies_arrow, applies_existential, applies_ill, Meets, meets_quantified, meets_rest, meets_large, ChecksAll, all_checked, checked_next, checked_stop, ChecksCases, all_cases, case_next, case_stop, guarded_next, guarded_stop, ChecksCase, case_checked, case_unmatched}
use Rattle.uc_typing.specs.Fronts.{front_count, existentials, boolean, list_of, repeated, behind_front}
use Rattle.uc_typing.specs.Scopes.{Sight, under, with_variables, with_seen}
use Rattle.uc_typing.specs.Stops.{matched, TermOutcome, TypeOutcome, gives, left_before}
use Rattle.uc_typing.specs.Terms.{terms_count}
use Rattle.uc_sound_typing.specs.Formed.{IsFormedKnown, IsFormedPattern, written_front, IsFormed, AreFormed, AreFormedCases}
use Rattle.uc_sound_typing.specs.Seeing.{IsSeen, scope_in}
use Rattle.uc_sound_typing.proofs.Cuts.{ended, ended_before}
use Rattle.uc_sound_typing.proofs.Growing.{fresh_unbound, Covered-grows}
use Rattle.uc_sound_typing.proofs.Terms.{TypeExtended, bound_formed, bound_behind, marked_behind_all, new_behind, new_typed, opened_new, lambda_front, lambda_formed, lambda_typed, lambda_unbound, lambda_whole, boolean_typed, list_parts}
use Rattle.uc_sound_typing.proofs.NewExistentials.{with_existentials, behind_typed, repeated_typed, Extends-existentials}
use Rattle.uc_sound_typing.proofs.Patterns.{PatternExtended, pattern_extends}
use Rattle.uc_sound_typing.proofs.Sights.{seen_extends, seen_unused, seen_under, seen_behind_rigid, seen_with, seen_marked, seen_matched, formed_under, formed_plain, formed_unsigned, one_new, argument_declared}
use Rattle.uc_sound_typing.proofs.WrittenTypes.{written_typed, front_written, value_open}
use Rattle.uc_soundness.specs.Valuations.{Valuation, value, Fits}
use Rattle.uc_soundness.proofs.Fitting.{value_under}
use Rattle.uc_soundness.proofs.SoundSubtypes.{AllSound, subtypes_sound}
use Rattle.uc_sound_typing.proofs.SoundExpectations.{value_literal}
use Rattle.uc_sound_typing.proofs.SoundForms.{Termed, Inferred, Applied, Signed, AllTermed, CasesTermed, CaseTermed, GivenType, GivenApplied, giving_type, giving_applied, given_map, given_marked, variable_value, all_have, first_has, rest_have, plain_value}
use Rattle.uc_sound_typing.proofs.SoundPatterns.{pattern_sound}
use Rattle.uc_sound_typing.proofs.TermsExtend.{checks_extend, against_extends, form_extends, synthesizes_extends, applies_extends, meets_extends, all_extend, cases_extend, case_extends}
use Rattle.uc_context.specs.Variables.{opened_at}
use Rattle.uc_context.specs.Contexts.{type_under}
use Rattle.uc_sound_typing.proofs.SoundTermRules.{subsumed, rigid_on, signed_on, lambda_on, SignedPair, pair_on, signed_binding_on, binding_on, match_on, termed_before, all_before, cases_before, new_mono, found_lambda_on, application_sound, applied_quantified, case_on, annotated_on, found_tuple_on, found_conditional_on, existential_on}

mutual
  pub checks_sound : {known : Known} {sight : Sight} {at : ℕ} {es : ContextEntries} {e : Term} {t : Open} {o : TermOutcome} → Checks known sight at es e t o
      → (outer : ℕ) → IsFormedKnown known → (m : ℕ) → IsFormed known m (length sight.seen) e → IsWellFormedContext known.arity es → IsSeen es sight → IsTypeIn known.arity es 0 t → Given known.arity outer (ended o) (Termed known outer es sight e t)
  checks_sound (checks_small {known = known} {sight = sight} {es = es} {e = e} {t = t} {o = o} small d) outer formed m h wf seen typed =
      let there : IsTypeIn known.arity es 0 (type_under es t) = type_under_typed known.arity es 0 t wf typed in
      given_on known.arity outer es (ended o) (Termed known outer es sight e (type_under es t)) (Termed known outer es sight e t) (against_extends d formed m h wf seen there)
      (λ σ fits f ps v. subst (HasType known (scope_in outer es sight ps) e) (value_under known.arity σ es t fits) (f ps v)) (against_sound d outer formed m h wf seen there)
  checks_sound (checks_large large) outer formed m h wf seen typed = tt

  against_sound : {known : Known} {sight : Sight} {at : ℕ} {es : ContextEntries} {e : Term} {t : Open} {o : TermOutcome} → ChecksAgainst known sight at es e t o
      → (outer : ℕ) → IsFormedKnown known → (m : ℕ) → IsFormed known m (length sight.seen) e → IsWellFormedContext known.arity es → IsSeen es sight → IsTypeIn known.arity es 0 t → Given known.arity outer (ended o) (Termed known outer es sight e t)
  against_sound (against_quantified {known = known} {sight = sight} {n = n} {es = es} {e = e} {t = t} {o = o} {p = p} is d cut) outer formed m h wf seen typed =
      given_cut known.arity outer es (Rigid n) [] (ended o) (ended p) (Termed known outer (es ++ Rigid n ∷ []) sight e (opened_at 0 (rigid n) t)) (Termed known outer es sight e (quantified t)) tt refl (ended_before (Rigid n) o p cut)
      (checks_extend d formed m h (rigid_formed known.arity es n wf is) (seen_behind_rigid es sight seen n) (rigid_typed known.arity es n t typed)) (rigid_on known outer es sight n e t is wf typed)
      (checks_sound d outer formed m h (rigid_formed known.arity es n wf is) (seen_behind_rigid es sight seen n) (rigid_typed known.arity es n t typed))
  against_sound (against_form plain d) outer formed m h wf seen typed = form_sound d outer formed m h wf seen typed
  against_sound (against_subtype {known = known} {sight = sight} {es = es} {fs = fs} {gs = gs} {e = e} {s = s} {t = t} plain formless d ds) outer formed m h wf seen typed =
      let x : TypeExtended known.arity es (gives s fs) = synthesizes_extends d formed m h wf seen in
      let there : IsTypeIn known.arity fs 0 t = type_covered known.arity es fs (Covered-extends x.1) 0 t typed in
      given_on known.arity outer fs (done gs) (AllSound known.arity outer fs (more s none) (more t none)) (Termed known outer es sight e t) (subtypes_extend known.arity ds x.0 (x.2, tt) (there, tt))
      (subsumed known outer es fs gs sight e s t x.1 (synthesizes_sound d outer formed m h wf seen)) (subtypes_sound known.arity outer ds x.0 (x.2, tt) (there, tt))
  against_sound (against_no_subtype plain formless d ds is) outer formed m h wf seen typed = tt
  against_sound (against_type_stops plain formless d) outer formed m h wf seen typed = tt

  form_sound : {known : Known} {sight : Sight} {at : ℕ} {es : ContextEntries} {e : Term} {t : Open} {o : TermOutcome} → ChecksByForm known sight at es e t o
      → (outer : ℕ) → IsFormedKnown known → (m : ℕ) → IsFormed known m (length sight.seen) e → IsWellFormedContext known.arity es → IsSeen es sight → IsTypeIn known.arity es 0 t → Given known.arity outer (ended o) (Termed known outer es sight e t)
  form_sound (form_lambda {known = known} {sight = sight} {n = n} {es = es} {e = e} {a = a} {b = b} {o = o} {p = p} is d cut) outer formed m h wf seen typed =
      let wf' : IsWellFormedContext known.arity (es ++ Binder n a ∷ []) = bound_formed known.arity es n a wf typed.0 in
      let seen' : IsSeen (es ++ Binder n a ∷ []) (under (Some n) sight) = seen_under es sight seen n a (fresh_unbound es n is) in
      let b_typed : IsTypeIn known.arity (es ++ Binder n a ∷ []) 0 b = bound_behind known.arity es n a b typed.1 in
      given_cut known.arity outer es (Binder n a) [] (ended o) (ended p) (Termed known outer (es ++ Binder n a ∷ []) (under (Some n) sight) e b) (Termed known outer es sight (terms.lambda e) (arrow a b)) tt refl (ended_before (Binder n a) o p cut)
      (checks_extend d formed (suc m) h wf' seen' b_typed) (lambda_on known outer es sight n e a b is wf typed.0 typed.1) (checks_sound d outer formed (suc m) h wf' seen' b_typed)
  form_sound (form_tuple {known = known} {sight = sight} {es = es} {parts = parts} {ts = ts} {o = o} same d) outer formed m h wf seen typed =
      given_map known.arity outer (ended o) (AllTermed known outer es sight parts ts) (Termed known outer es sight (terms.tuple parts) (tuple ts)) (λ σ f ps v. by_tuple (f ps v)) (all_sound d outer formed m h wf seen (mono_types known.arity es ts typed))
  form_sound (form_list {known = known} {sight = sight} {es = es} {elements = elements} {s = s} {t = t} {o = o} is d) outer formed m h wf seen typed =
      given_map known.arity outer (ended o) (AllTermed known outer es sight elements (repeated (terms_count elements) t)) (Termed known outer es sight (terms.list elements) s)
      (λ σ f ps v. subst (HasType known (scope_in outer es sight ps) (terms.list elements)) (ap (value σ) (sym is)) (by_list (all_have (f ps v) σ t refl)))
      (all_sound d outer formed m h wf seen (repeated_typed known.arity es (terms_count elements) t (list_parts known.arity es s t is typed)))
  form_sound (form_conditional {known = known} {sight = sight} {es = es} {a = a} {b = b} {c = c} {t = t} {o = o} d) outer formed m h wf seen typed =
      given_map known.arity outer (ended o) (AllTermed known outer es sight (terms.more a (terms.more b (terms.more c terms.none))) (more boolean (more t (more t none)))) (Termed known outer es sight (terms.conditional a b c) t)
      (λ σ f ps v. let all = f ps v in by_conditional (first_has all) (first_has (rest_have all)) (first_has (rest_have (rest_have all))))
      (all_sound d outer formed m (h.0, (h.1, (h.2, tt))) wf seen (boolean_typed known formed es, (typed, (typed, tt))))
  form_sound (form_signed {known = known} {sight = sight} {n = n} {es = es} {fs = fs} {ty = ty} {a = a} {b = b} {s = s} {t = t} {o = o} {p = p} is s_is d k cut) outer formed m h wf seen typed =
      let s_typed : IsTypeIn known.arity es 0 s = subst (IsTypeIn known.arity es 0) (sym s_is) (written_typed known.arity es sight.seen seen.rigids ty h.0) in
      let front : front_count s ≡ written_front ty = ap front_count s_is ∙ front_written sight.seen 0 ty in
      let body : IsFormed known (suc m) (front_count s + length sight.seen) a = subst (λ (j : ℕ). IsFormed known (suc m) (j + length sight.seen) a) (sym front) h.1 in
      let es' : ContextEntries = es ++ Binder n s ∷ [] in
      let inside : IsSeen es' (under (Some n) sight) = seen_under es sight seen n s (fresh_unbound es n is) in
      let wf' : IsWellFormedContext known.arity es' = bound_formed known.arity es n s wf s_typed in
      let s_typed' : IsTypeIn known.arity es' 0 s = bound_behind known.arity es n s s s_typed in
      let x : Extended known.arity es' (done fs) = meets_extends d formed (suc m) body wf' inside s_typed' in
      let t_typed : IsTypeIn known.arity fs 0 t = type_covered known.arity es' fs (Covered-extends x.1) 0 t (bound_behind known.arity es n s t typed) in
      let seen' : IsSeen fs (under (Some n) sight) = seen_extends (under (Some n) sight) x.1 inside in
      let y : Extended known.arity fs (ended o) = checks_extend k formed (suc m) h.2 x.0 seen' t_typed in
      given_cut known.arity outer es (Binder n s) [] (ended o) (ended p) (SignedPair known outer es' sight n a b s t) (Termed known outer es sight (terms.binding (Some ty) a b) t) tt refl (ended_before (Binder n s) o p cut)
      (extended_on known.arity es' fs (ended o) x.1 y) (signed_binding_on known outer es sight n ty a b s t is s_is wf typed)
      (given_on known.arity outer fs (ended o) (Termed known outer fs (under (Some n) sight) b t) (SignedPair known outer es' sight n a b s t) y
      (pair_on known outer es' fs sight n a b s t x.1 (meets_sound d outer formed (suc m) body wf' inside s_typed')) (checks_sound k outer formed (suc m) h.2 x.0 seen' t_typed))
  form_sound (form_signed_stops is s_is d) outer formed m h wf seen typed = tt
  form_sound (form_own_use used) outer formed m h wf seen typed = tt
  form_sound (form_binding {known = known} {sight = sight} {n = n} {es = es} {fs = fs} {a = a} {b = b} {s = s} {t = t} {o = o} {p = p} unused d is k cut) outer formed m h wf seen typed =
      let body : IsFormed known (suc m) (length sight.seen) a = formed_unsigned known (suc m) a (length sight.seen) h.1 in
      let x : TypeExtended known.arity es (gives s fs) = synthesizes_extends d formed (suc m) body wf (seen_unused es sight seen) in
      let fs' : ContextEntries = fs ++ Binder n s ∷ [] in
      let wf' : IsWellFormedContext known.arity fs' = bound_formed known.arity fs n s x.0 x.2 in
      let seen' : IsSeen fs' (under (Some n) sight) = seen_under fs sight (seen_extends sight x.1 seen) n s (fresh_unbound fs n is) in
      let t_typed : IsTypeIn known.arity fs' 0 t = bound_behind known.arity fs n s t (type_covered known.arity es fs (Covered-extends x.1) 0 t typed) in
      given_cut known.arity outer fs (Binder n s) [] (ended o) (ended p) (Termed known outer fs' (under (Some n) sight) b t) (Termed known outer es sight (terms.binding None a b) t) tt refl (ended_before (Binder n s) o p cut)
      (checks_extend k formed (suc m) h.2 wf' seen' t_typed) (binding_on known outer es fs sight n a b s t x.1 unused is wf typed (synthesizes_sound d outer formed (suc m) body wf (seen_unused es sight seen)))
      (checks_sound k outer formed (suc m) h.2 wf' seen' t_typed)
  form_sound (form_binding_stops unused d) outer formed m h wf seen typed = tt
  form_sound (form_match {known = known} {sight = sight} {es = es} {fs = fs} {e = e} {cs = cs} {s = s} {t = t} {numbers = numbers} {o = o} d are k) outer formed m h wf seen typed =
      let x : TypeExtended known.arity es (gives s fs) = synthesizes_extends d formed m h.0 wf seen in
      let gs : ContextEntries = fs ++ map (λ n. Exists n) numbers in
      let grown : Extends fs gs = Extends-existentials fs numbers in
      let wf' : IsWellFormedContext known.arity gs = with_existentials known.arity fs numbers (subst (λ (ns : List ℕ). AreNew ns fs) (sym are) (fresh_numbers-AreNew (front_count s) fs)) x.0 in
      let seen' : IsSeen gs sight = seen_extends sight (Extends-trans x.1 grown) seen in
      let s_typed : IsTypeIn known.arity gs 0 (behind_front (existentials numbers) s) = behind_typed known.arity gs numbers s (all_new known.arity fs numbers) (new_behind known.arity fs numbers s x.2) in
      let t_typed : IsTypeIn known.arity gs 0 t = type_covered known.arity es gs (Covered-extends (Extends-trans x.1 grown)) 0 t typed in
      given_on known.arity outer gs (ended o) (CasesTermed known outer gs sight cs (behind_front (existentials numbers) s) t) (Termed known outer es sight (terms.match e cs) t) (cases_extend k formed m h.1 wf' seen' s_typed t_typed)
      (match_on known outer es fs sight e cs s t numbers x.1 are x.2 (synthesizes_sound d outer formed m h.0 wf seen)) (cases_sound k outer formed m h.1 wf' seen' s_typed t_typed)
  form_sound (form_match_stops d) outer formed m h wf seen typed = tt

  pub synthesizes_sound : {known : Known} {sight : Sight} {at : ℕ} {es : ContextEntries} {e : Term} {o : TypeOutcome} → Synthesizes known sight at es e o
      → (outer : ℕ) → IsFormedKnown known → (m : ℕ) → IsFormed known m (length sight.seen) e → IsWellFormedContext known.arity es → IsSeen es sight → GivenType known outer es sight e o
  synthesizes_sound (synthesizes_small {known = known} {sight = sight} {es = es} {fs = fs} {e = e} {t = t} d small is) outer formed m h wf seen = λ σ fits ps v.
      subst (Infers known (scope_in outer es sight ps) e) (sym (ap (value σ) is ∙ value_under known.arity σ fs t fits)) (finds_sound d outer formed m h wf seen σ fits ps v)
  synthesizes_sound (synthesizes_large d large) outer formed m h wf seen = tt
  synthesizes_sound (synthesizes_stop d) outer formed m h wf seen = tt

  finds_sound : {known : Known} {sight : Sight} {at : ℕ} {es : ContextEntries} {e : Term} {o : TypeOutcome} → Finds known sight at es e o
      → (outer : ℕ) → IsFormedKnown known → (m : ℕ) → IsFormed known m (length sight.seen) e → IsWellFormedContext known.arity es → IsSeen es sight → GivenType known outer es sight e o
  finds_sound (finds_variable {i = i} {n = n} {t = t} slot is) outer formed m h wf seen = λ σ fits ps v. of_variable (variable_value v i n t slot is)
  finds_sound (finds_link {known = known} {sight = sight} {es = es} {x = x} {ty = ty} {t = t} is t_is) outer formed m h wf seen = λ σ fits ps v.
      subst (Infers known (scope_in outer es sight ps) (terms.link x)) (sym (ap (value σ) t_is ∙ value_open σ ty)) (of_link is)
  finds_sound (finds_literal {known = known} {sight = sight} {es = es} {l = l} is) outer formed m h wf seen = λ σ fits ps v.
      subst (Infers known (scope_in outer es sight ps) (terms.literal l)) (sym (ap (value σ) is ∙ value_literal σ l)) of_literal
  finds_sound finds_unit outer formed m h wf seen = λ σ fits ps v. of_unit
  finds_sound (finds_annotated {known = known} {sight = sight} {es = es} {e = e} {ty = ty} {t = t} {o = o} {p = p} t_is d is) outer formed m h wf seen =
      let typed : IsTypeIn known.arity es 0 t = subst (IsTypeIn known.arity es 0) (sym t_is) (written_typed known.arity es sight.seen seen.rigids ty h.1) in
      giving_type known outer es sight (terms.annotated e ty) t o p is
      (given_map known.arity outer (ended o) (Termed known outer es sight e t) (Inferred known outer es sight (terms.annotated e ty) t) (annotated_on known outer es sight e ty t t_is) (checks_sound d outer formed m h.0 wf seen typed))
  finds_sound (finds_lambda {known = known} {sight = sight} {argument = argument} {result = result} {n = n} {es = es} {e = e} {o = o} {p = p} are d is) outer formed m h wf seen =
      let front : ContextEntries = lambda_front known.arity es argument result n wf are in
      let typed = lambda_typed known.arity es argument result n wf are in
      let whole = lambda_whole known.arity es argument result n wf are in
      let unbound = lambda_unbound known.arity es argument result n wf are in
      let before : Extends es front = Extends-existentials es (argument ∷ result ∷ []) in
      let all : ContextEntries = es ++ Exists argument ∷ Exists result ∷ Binder n (existential argument) ∷ [] in
      let wf' : IsWellFormedContext known.arity all = subst (IsWellFormedContext known.arity) whole (bound_formed known.arity front n (existential argument) (lambda_formed known.arity es argument result n wf are) typed.0) in
      let seen' : IsSeen all (under (Some n) sight) = subst (λ (cs : ContextEntries). IsSeen cs (under (Some n) sight)) whole (seen_under front sight (seen_extends sight before seen) n (existential argument) unbound) in
      let typed' : IsTypeIn known.arity all 0 (existential result) = subst (λ (cs : ContextEntries). IsTypeIn known.arity cs 0 (existential result)) whole (bound_behind known.arity front n (existential argument) (existential result) typed.1) in
      let x : Extended known.arity (front ++ Binder n (existential argument) ∷ []) (ended o) = subst (λ (cs : ContextEntries). Extended known.arity cs (ended o)) (sym whole) (checks_extend d formed (suc m) h wf' seen' typed') in
      let q : TermOutcome = left_before (Binder n (existential argument)) o in
      giving_type known outer es sight (terms.lambda e) (arrow (existential argument) (existential result)) q p is
      (given_cut known.arity outer front (Binder n (existential argument)) [] (ended o) (ended q) (Termed known outer (front ++ Binder n (existential argument) ∷ []) (under (Some n) sight) e (existential result))
      (Inferred known outer es sight (terms.lambda e) (arrow (existential argument) (existential result))) tt refl (ended_before (Binder n (existential argument)) o q refl) x
      (found_lambda_on known outer es front sight n argument result e before unbound wf typed)
      (subst (λ (cs : ContextEntries). Given known.arity outer (ended o) (Termed known outer cs (under (Some n) sight) e (existential result))) (sym whole) (checks_sound d outer formed (suc m) h wf' seen' typed')))
  finds_sound (finds_application {known = known} {sight = sight} {es = es} {fs = fs} {f = f} {e = e} {s = s} {o = o} d k) outer formed m h wf seen =
      let x : TypeExtended known.arity es (gives s fs) = synthesizes_extends d formed m h.0 wf seen in
      application_sound known outer es fs sight f e s o x.1 (synthesizes_sound d outer formed m h.0 wf seen) (applies_extends k formed m h.1 x.0 (seen_extends sight x.1 seen) x.2)
      (applies_sound k outer formed m h.1 x.0 (seen_extends sight x.1 seen) x.2)
  finds_sound (finds_no_function d) outer formed m h wf seen = tt
  finds_sound (finds_tuple {known = known} {sight = sight} {es = es} {parts = parts} {numbers = numbers} {o = o} {p = p} are d is) outer formed m h wf seen =
      let fs : ContextEntries = es ++ map (λ n. Exists n) numbers in
      let ts : Opens = opens_of (existentials numbers) in
      let grown : Extends es fs = Extends-existentials es numbers in
      let wf' : IsWellFormedContext known.arity fs = with_existentials known.arity es numbers (subst (λ (ns : List ℕ). AreNew ns es) (sym are) (fresh_numbers-AreNew (terms_count parts) es)) wf in
      let typed : AreTypesIn known.arity fs ts = mono_types known.arity fs ts (all_new known.arity es numbers) in
      giving_type known outer es sight (terms.tuple parts) (tuple ts) o p is
      (given_on known.arity outer fs (ended o) (AllTermed known outer fs sight parts ts) (Inferred known outer es sight (terms.tuple parts) (tuple ts)) (all_extend d formed m h wf' (seen_extends sight grown seen) typed)
      (found_tuple_on known outer es sight parts numbers) (all_sound d outer formed m h wf' (seen_extends sight grown seen) typed))
  finds_sound (finds_list {known = known} {sight = sight} {n = n} {es = es} {elements = elements} {o = o} {p = p} fresh d is) outer formed m h wf seen =
      let fs : ContextEntries = es ++ Exists n ∷ [] in
      let ts : Opens = repeated (terms_count elements) (existential n) in
      let grown : Extends es fs = Extends-existentials es (n ∷ []) in
      let wf' : IsWellFormedContext known.arity fs = with_existentials known.arity es (n ∷ []) (one_new es n fresh) wf in
      let typed : AreTypesIn known.arity fs ts = repeated_typed known.arity fs (terms_count elements) (existential n) (new_typed known.arity es n) in
      giving_type known outer es sight (terms.list elements) (list_of (existential n)) o p is
      (given_on known.arity outer fs (ended o) (AllTermed known outer fs sight elements ts) (Inferred known outer es sight (terms.list elements) (list_of (existential n))) (all_extend d formed m h wf' (seen_extends sight grown seen) typed)
      (λ σ fits f ps v. of_list (σ.stands_for n) (new_mono known outer es n σ fits) (all_have (all_before known outer es fs sight elements ts σ grown f ps v) σ (existential n) refl)) (all_sound d outer formed m h wf' (seen_extends sight grown seen) typed))
  finds_sound (finds_and {known = known} {sight = sight} {es = es} {a = a} {b = b} {o = o} {p = p} d is) outer formed m h wf seen =
      giving_type known outer es sight (terms.and a b) boolean o p is
      (given_map known.arity outer (ended o) (AllTermed known outer es sight (terms.more a (terms.more b terms.none)) (more boolean (more boolean none))) (Inferred known outer es sight (terms.and a b) boolean)
      (λ σ f ps v. of_and (first_has (f ps v)) (first_has (rest_have (f ps v)))) (all_sound d outer formed m (h.0, (h.1, tt)) wf seen (boolean_typed known formed es, (boolean_typed known formed es, tt))))
  finds_sound (finds_or {known = known} {sight = sight} {es = es} {a = a} {b = b} {o = o} {p = p} d is) outer formed m h wf seen =
      giving_type known outer es sight (terms.or a b) boolean o p is
      (given_map known.arity outer (ended o) (AllTermed known outer es sight (terms.more a (terms.more b terms.none)) (more boolean (more boolean none))) (Inferred known outer es sight (terms.or a b) boolean)
      (λ σ f ps v. of_or (first_has (f ps v)) (first_has (rest_have (f ps v)))) (all_sound d outer formed m (h.0, (h.1, tt)) wf seen (boolean_typed known formed es, (boolean_typed known formed es, tt))))
  finds_sound (finds_conditional {known = known} {sight = sight} {n = n} {es = es} {fs = fs} {a = a} {b = b} {c = c} {o = o} {p = p} d fresh k is) outer formed m h wf seen =
      let x : Extended known.arity es (done fs) = checks_extend d formed m h.0 wf seen (boolean_typed known formed es) in
      let gs : ContextEntries = fs ++ Exists n ∷ [] in
      let grown : Extends fs gs = Extends-existentials fs (n ∷ []) in
      let typed : IsTypeIn known.arity gs 0 (existential n) = new_typed known.arity fs n in
      let wf' : IsWellFormedContext known.arity gs = with_existentials known.arity fs (n ∷ []) (one_new fs n fresh) x.0 in
      let seen' : IsSeen gs sight = seen_extends sight (Extends-trans x.1 grown) seen in
      giving_type known outer es sight (terms.conditional a b c) (existential n) o p is
      (given_on known.arity outer gs (ended o) (AllTermed known outer gs sight (terms.more b (terms.more c terms.none)) (more (existential n) (more (existential n) none))) (Inferred known outer es sight (terms.conditional a b c) (existential n))
      (all_extend k formed m (h.1, (h.2, tt)) wf' seen' (typed, (typed, tt)))
      (found_conditional_on known outer es fs sight n a b c x.1 (checks_sound d outer formed m h.0 wf seen (boolean_typed known formed es))) (all_sound k outer formed m (h.1, (h.2, tt)) wf' seen' (typed, (typed, tt))))
  finds_sound (finds_no_condition d) outer formed m h wf seen = tt
  finds_sound (finds_binding {known = known} {sight = sight} {n = n} {es = es} {ty = ty} {a = a} {b = b} {o = o} {p = p} fresh d is) outer formed m h wf seen =
      let fs : ContextEntries = es ++ Exists n ∷ [] in
      let grown : Extends es fs = Extends-existentials es (n ∷ []) in
      let typed : IsTypeIn known.arity fs 0 (existential n) = new_typed known.arity es n in
      let wf' : IsWellFormedContext known.arity fs = with_existentials known.arity es (n ∷ []) (one_new es n fresh) wf in
      giving_type known outer es sight (terms.binding ty a b) (existential n) o p is
      (given_on known.arity outer fs (ended o) (Termed known outer fs sight (terms.binding ty a b) (existential n)) (Inferred known outer es sight (terms.binding ty a b) (existential n)) (form_extends d formed m h wf' (seen_extends sight grown seen) typed)
      (λ σ fits f ps v. of_binding (σ.stands_for n) (new_mono known outer es n σ fits) (termed_before known outer es fs sight (terms.binding ty a b) (existential n) σ grown f ps v)) (form_sound d outer formed m h wf' (seen_extends sight grown seen) typed))
  finds_sound (finds_match {known = known} {sight = sight} {n = n} {es = es} {e = e} {cs = cs} {o = o} {p = p} fresh d is) outer formed m h wf seen =
      let fs : ContextEntries = es ++ Exists n ∷ [] in
      let grown : Extends es fs = Extends-existentials es (n ∷ []) in
      let typed : IsTypeIn known.arity fs 0 (existential n) = new_typed known.arity es n in
      let wf' : IsWellFormedContext known.arity fs = with_existentials known.arity es (n ∷ []) (one_new es n fresh) wf in
      giving_type known outer es sight (terms.match e cs) (existential n) o p is
      (given_on known.arity outer fs (ended o) (Termed known outer fs sight (terms.match e cs) (existential n)) (Inferred known outer es sight (terms.match e cs) (existential n)) (form_extends d formed m h wf' (seen_extends sight grown seen) typed)
      (λ σ fits f ps v. of_match (σ.stands_for n) (new_mono known outer es n σ fits) (termed_before known outer es fs sight (terms.match e cs) (existential n) σ grown f ps v)) (form_sound d outer formed m h wf' (seen_extends sight grown seen) typed))

  applies_sound : {known : Known} {sight : Sight} {at next : ℕ} {es : ContextEntries} {t : Open} {e : Term} {o : TypeOutcome} → Applies known sight at next es t e o
      → (outer : ℕ) → IsFormedKnown known → (m : ℕ) → IsFormed known m (length sight.seen) e → IsWellFormedContext known.arity es → IsSeen es sight → IsTypeIn known.arity es 0 t → GivenApplied known outer es sight t e o
  applies_sound (applies_quantified {known = known} {sight = sight} {n = n} {es = es} {t = t} {e = e} {o = o} fresh d) outer formed m h wf seen typed =
      let grown : Extends es (es ++ Exists n ∷ []) = Extends-existentials es (n ∷ []) in
      let wf' : IsWellFormedContext known.arity (es ++ Exists n ∷ []) = with_existentials known.arity es (n ∷ []) (one_new es n fresh) wf in
      let there : IsTypeIn known.arity (es ++ Exists n ∷ []) 0 (opened_at 0 (existential n) t) = opened_new known.arity es n t typed in
      applied_quantified known outer es sight n t e o typed (applies_extends d formed m h wf' (seen_extends sight grown seen) there) (applies_sound d outer formed m h wf' (seen_extends sight grown seen) there)
  applies_sound (applies_arrow {known = known} {sight = sight} {es = es} {a = a} {b = b} {e = e} {o = o} {p = p} d is) outer formed m h wf seen typed =
      giving_applied known outer es sight (arrow a b) e b o p is
      (given_map known.arity outer (ended o) (Termed known outer es sight e a) (Applied known outer es sight (arrow a b) e b) (λ σ f ps v. at_argument (f ps v)) (checks_sound d outer formed m h wf seen typed.0))
  applies_sound (applies_existential {known = known} {sight = sight} {x = x} {argument = argument} {result = result} {es = es} {e = e} {o = o} {p = p} unsolved are d is) outer formed m h wf seen typed =
      let fs : ContextEntries = solved_with_arrow es x argument result in
      let y : Extended known.arity es (done fs) = extended_with_arrow known.arity es x wf unsolved argument result are in
      let there : IsTypeIn known.arity fs 0 (existential argument) = argument_declared known.arity es x wf unsolved argument result in
      giving_applied known outer es sight (existential x) e (existential result) o p is
      (given_on known.arity outer fs (ended o) (Termed known outer fs sight e (existential argument)) (Applied known outer es sight (existential x) e (existential result)) (checks_extend d formed m h y.0 (seen_extends sight y.1 seen) there)
      (existential_on known outer es sight x argument result e wf unsolved y.1) (checks_sound d outer formed m h y.0 (seen_extends sight y.1 seen) there))
  applies_sound (applies_ill unfit) outer formed m h wf seen typed = tt

  pub meets_sound : {known : Known} {sight : Sight} {at : ℕ} {es : ContextEntries} {e : Term} {t : Open} {o : TermOutcome} → Meets known sight at es e t o
      → (outer : ℕ) → IsFormedKnown known → (m : ℕ) → IsFormed known m (front_count t + length sight.seen) e → IsWellFormedContext known.arity es → IsSeen es sight → IsTypeIn known.arity es 0 t → Given known.arity outer (ended o) (Signed known outer es sight e t)
  meets_sound (meets_quantified {known = known} {sight = sight} {n = n} {es = es} {e = e} {t = t} {o = o} {p = p} small is d cut) outer formed m h wf seen typed =
      let body : IsFormed known m (front_count (opened_at 0 (rigid n) t) + suc (length sight.seen)) e = formed_under known m e n (length sight.seen) t h in
      given_cut known.arity outer es (Rigid n) [] (ended o) (ended p) (Signed known outer (es ++ Rigid n ∷ []) (with_seen n sight) e (opened_at 0 (rigid n) t)) (Signed known outer es sight e (quantified t)) tt refl (ended_before (Rigid n) o p cut)
      (meets_extends d formed m body (rigid_formed known.arity es n wf is) (seen_with es sight seen n) (rigid_typed known.arity es n t typed)) (signed_on known outer es sight n e t is wf typed)
      (meets_sound d outer formed m body (rigid_formed known.arity es n wf is) (seen_with es sight seen n) (rigid_typed known.arity es n t typed))
  meets_sound (meets_rest {known = known} {sight = sight} {es = es} {e = e} {t = t} {o = o} plain d) outer formed m h wf seen typed =
      let body : IsFormed known m (length sight.seen) e = formed_plain known m e (length sight.seen) t plain h in
      given_on known.arity outer es (ended o) (Termed known outer es sight e t) (Signed known outer es sight e t) (checks_extend d formed m body wf seen typed)
      (λ σ fits f ps v. at_rest (plain_value known.arity σ es fits t typed plain) (f ps v)) (checks_sound d outer formed m body wf seen typed)
  meets_sound (meets_large large) outer formed m h wf seen typed = tt

  all_sound : {known : Known} {sight : Sight} {at : ℕ} {es : ContextEntries} {parts : Terms} {ts : Opens} {o : TermOutcome} → ChecksAll known sight at es parts ts o
      → (outer : ℕ) → IsFormedKnown known → (m : ℕ) → AreFormed known m (length sight.seen) parts → IsWellFormedContext known.arity es → IsSeen es sight → AreTypesIn known.arity es ts → Given known.arity outer (ended o) (AllTermed known outer es sight parts ts)
  all_sound all_checked outer formed m h wf seen typed = λ σ fits ps v. have_none
  all_sound (checked_next {known = known} {sight = sight} {es = es} {fs = fs} {e = e} {rest = rest} {t = t} {ts = ts} {o = o} d ds) outer formed m h wf seen typed =
      let x : Extended known.arity es (done fs) = checks_extend d formed m h.0 wf seen typed.0 in
      let there : AreTypesIn known.arity fs ts = types_covered known.arity es fs ts (Covered-extends x.1) typed.1 in
      let first : (σ : Valuation outer) → Fits known.arity σ fs → Termed known outer es sight e t σ = checks_sound d outer formed m h.0 wf seen typed.0 in
      given_on known.arity outer fs (ended o) (AllTermed known outer fs sight rest ts) (AllTermed known outer es sight (terms.more e rest) (more t ts)) (all_extend ds formed m h.1 x.0 (seen_extends sight x.1 seen) there)
      (λ σ fits f ps v. have_more (first σ fits ps v) (all_before known outer es fs sight rest ts σ x.1 f ps v)) (all_sound ds outer formed m h.1 x.0 (seen_extends sight x.1 seen) there)
  all_sound (checked_stop d) outer formed m h wf seen typed = tt

  cases_sound : {known : Known} {sight : Sight} {at : ℕ} {es : ContextEntries} {cs : Cases} {s t : Open} {o : TermOutcome} → ChecksCases known sight at es cs s t o
      → (outer : ℕ) → IsFormedKnown known → (m : ℕ) → AreFormedCases known m (length sight.seen) cs → IsWellFormedContext known.arity es → IsSeen es sight → IsTypeIn known.arity es 0 s → IsTypeIn known.arity es 0 t
      → Given known.arity outer (ended o) (CasesTermed known outer es sight cs s t)
  cases_sound all_cases outer formed m h wf seen s_typed t_typed = λ σ fits ps v. no_cases
  cases_sound (case_next {known = known} {sight = sight} {es = es} {fs = fs} {q = q} {b = b} {cs = cs} {s = s} {t = t} {o = o} d ds) outer formed m h wf seen s_typed t_typed =
      let x : Extended known.arity es (done fs) = case_extends d formed h.0 (binders_in q + m) (h.1, tt) wf seen s_typed (t_typed, tt) in
      let s' : IsTypeIn known.arity fs 0 s = type_covered known.arity es fs (Covered-extends x.1) 0 s s_typed in
      let t' : IsTypeIn known.arity fs 0 t = type_covered known.arity es fs (Covered-extends x.1) 0 t t_typed in
      let first : (σ : Valuation outer) → Fits known.arity σ fs → CaseTermed known outer es sight q (terms.more b terms.none) s (more t none) σ = case_sound d outer formed h.0 (binders_in q + m) (h.1, tt) wf seen s_typed (t_typed, tt) in
      given_on known.arity outer fs (ended o) (CasesTermed known outer fs sight cs s t) (CasesTermed known outer es sight (terms.case q b cs) s t) (cases_extend ds formed m h.2 x.0 (seen_extends sight x.1 seen) s' t')
      (λ σ fits f ps v. let r = first σ fits ps v in more_cases r.1 (first_has r.2) (cases_before known outer es fs sight cs s t σ x.1 f ps v)) (cases_sound ds outer formed m h.2 x.0 (seen_extends sight x.1 seen) s' t')
  cases_sound (case_stop d) outer formed m h wf seen s_typed t_typed = tt
  cases_sound (guarded_next {known = known} {sight = sight} {es = es} {fs = fs} {q = q} {g = g} {b = b} {cs = cs} {s = s} {t = t} {o = o} d ds) outer formed m h wf seen s_typed t_typed =
      let typed : AreTypesIn known.arity es (more boolean (more t none)) = (boolean_typed known formed es, (t_typed, tt)) in
      let x : Extended known.arity es (done fs) = case_extends d formed h.0 (binders_in q + m) (h.1, (h.2, tt)) wf seen s_typed typed in
      let s' : IsTypeIn known.arity fs 0 s = type_covered known.arity es fs (Covered-extends x.1) 0 s s_typed in
      let t' : IsTypeIn known.arity fs 0 t = type_covered known.arity es fs (Covered-extends x.1) 0 t t_typed in
      let first : (σ : Valuation outer) → Fits known.arity σ fs → CaseTermed known outer es sight q (terms.more g (terms.more b terms.none)) s (more boolean (more t none)) σ = case_sound d outer formed h.0 (binders_in q + m) (h.1, (h.2, tt)) wf seen s_typed typed in
      given_on known.arity outer fs (ended o) (CasesTermed known outer fs sight cs s t) (CasesTermed known outer es sight (terms.guarded q g b cs) s t) (cases_extend ds formed m h.3 x.0 (seen_extends sight x.1 seen) s' t')
      (λ σ fits f ps v. let r = first σ fits ps v in more_guarded r.1 (first_has r.2) (first_has (rest_have r.2)) (cases_before known outer es fs sight cs s t σ x.1 f ps v)) (cases_sound ds outer formed m h.3 x.0 (seen_extends sight x.1 seen) s' t')
  cases_sound (guarded_stop d) outer formed m h wf seen s_typed t_typed = tt

  case_sound : {known : Known} {sight : Sight} {at : ℕ} {es : ContextEntries} {q : Pattern} {bodies : Terms} {s : Open} {ts : Opens} {o : TermOutcome} → ChecksCase known sight at es q bodies s ts o
      → (outer : ℕ) → IsFormedKnown known → IsFormedPattern known q → (m : ℕ) → AreFormed known m (length sight.seen) bodies → IsWellFormedContext known.arity es → IsSeen es sight → IsTypeIn known.arity es 0 s → AreTypesIn known.arity es ts
      → Given known.arity outer (ended o) (CaseTermed known outer es sight q bodies s ts)
  case_sound (case_checked {known = known} {sight = sight} {n = n} {es = es} {fs = fs} {q = q} {bodies = bodies} {s = s} {ts = ts} {vars = vars} {o = o} {p = p} is d ds cut) outer formed pattern m h wf seen s_typed typed =
      let marked : ContextEntries = es ++ Mark n ∷ [] in
      let front : Covered es marked = Covered-front es (Mark n ∷ []) in
      let wf' : IsWellFormedContext known.arity marked = marked_behind_all known.arity es n wf in
      let s' : IsTypeIn known.arity marked 0 s = type_covered known.arity es marked front 0 s s_typed in
      let x : PatternExtended known.arity marked (matched vars fs) = pattern_extends d formed pattern wf' s' (seen_marked es sight seen n).variables in
      let through : Covered es fs = Covered-trans front (Covered-grows x.1) in
      let seen' : IsSeen fs (with_variables vars sight) = seen_matched es fs vars sight through x.2 seen in
      let typed' : AreTypesIn known.arity fs ts = types_covered known.arity es fs ts through typed in
      given_marked known.arity outer es n fs o p (AllTermed known outer fs (with_variables vars sight) bodies ts) (CaseTermed known outer es sight q bodies s ts) x.1 cut (all_extend ds formed m h x.0 seen' typed')
      (case_on known outer es fs sight n q bodies s ts vars x.1 wf s_typed typed (pattern_sound d outer formed pattern wf' s' (seen_marked es sight seen n).variables)) (all_sound ds outer formed m h x.0 seen' typed')
  case_sound (case_unmatched is d) outer formed pattern m h wf seen s_typed typed = tt
