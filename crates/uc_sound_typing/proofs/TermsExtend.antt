-- Terms leave well-formed contexts that have what stood before, one rule after another.
use Rattle.std.proofs.Common.{◌≡◌, ℕ, suc, ◌+◌, List, [], ◌∷◌, ◌++◌, map, length, Some, refl, sym, ap, subst, ◌∙◌}
use Rattle.uc_tree.specs.Patterns.{Pattern}
use Rattle.uc_tree.specs.Terms.{Term, Terms, Cases}
use Rattle.uc_kinds.specs.PatternTyping.{Known}
use Rattle.uc_kinds.specs.Typing.{binders_in}
use Rattle.uc_context.specs.declared.entry.Entry.TheVariants.{Rigid, Exists, Mark, Binder}
use Rattle.uc_context.specs.Entries.{ContextEntries}
use Rattle.uc_context.specs.Fresh.{AreNew}
use Rattle.uc_context.specs.Opens.{Open, existential, arrow, tuple, Opens, opens_of}
use Rattle.uc_context.specs.Solving.{solved_with_arrow}
use Rattle.uc_context.proofs.FreshNumbers.{fresh_numbers-AreNew}
use Rattle.uc_subtyping.specs.Outcomes.{done}
use Rattle.uc_soundness.specs.Extending.{Extends}
use Rattle.uc_soundness.specs.WellFormed.{IsTypeIn, IsWellFormedContext}
use Rattle.uc_soundness.proofs.Extending.{Extends-refl, Extends-trans}
use Rattle.uc_soundness.proofs.Instances.{rigid_formed, rigid_typed, all_new, extended_with_arrow}
use Rattle.uc_soundness.proofs.Outcomes.{Extended, extended_on}
use Rattle.uc_soundness.proofs.Subtypes.{AreTypesIn, types_covered, mono_types, subtypes_extend}
use Rattle.uc_soundness.proofs.Types.{Covered, Covered-front, Covered-extends, Covered-trans, type_covered}
use Rattle.uc_soundness.proofs.WellFormed.{type_under_typed}
use Rattle.uc_typing.specs.Checking.{Checks, checks_small, checks_large, ChecksAgainst, against_quantified, against_form, against_subtype, against_no_subtype, against_type_stops, ChecksByForm, form_lambda, form_tuple, form_list, form_conditional, form_signed, form_signed_stops, form_own_use, form_binding, form_binding_stops, form_match, form_match_stops, Synthesizes, synthesizes_small, synthesizes_large, synthesizes_stop, Finds, finds_variable, finds_link, finds_literal, finds_unit, finds_annotated, finds_lambda, finds_application, finds_no_function, finds_tuple, finds_list, finds_and, finds_or, finds_conditional, finds_no_condition, finds_binding, finds_match, Applies, applies_quantified, applies_arrow, applies_existential, applies_ill, Meets, meets_quantified, meets_rest, meets_large, ChecksAll, all_checked, checked_next, checked_stop, ChecksCases, all_cases, case_next, case_stop, guarded_next, guarded_stop, ChecksCase, case_checked, case_unmatched}
use Rattle.uc_typing.specs.Fronts.{front_count, existentials, boolean, list_of}
use Rattle.uc_typing.specs.Scopes.{Sight, under}
use Rattle.uc_typing.specs.Stops.{matched, TermOutcome, TypeOutcome, gives, left_before}
use Rattle.uc_typing.specs.Terms.{terms_count}
use Rattle.uc_sound_typing.specs.Formed.{IsFormedKnown, IsFormedPattern, written_front, IsFormed, AreFormed, AreFormedCases}
use Rattle.uc_sound_typing.specs.Seeing.{IsSeen}
use Rattle.uc_sound_typing.proofs.Binders.{binder_typed}
use Rattle.uc_sound_typing.proofs.Cuts.{ended, term_cut, marked_cut}
use Rattle.uc_sound_typing.proofs.Growing.{fresh_unbound, Covered-grows}
use Rattle.uc_sound_typing.proofs.Terms.{TypeExtended, type_on, given_type, bound_formed, bound_behind, marked_behind_all, new_behind, new_typed, opened_new, lambda_front, lambda_formed, lambda_typed, lambda_unbound, lambda_whole, boolean_typed, list_parts}
use Rattle.uc_sound_typing.proofs.NewExistentials.{with_existentials, behind_typed, repeated_typed, Extends-existentials}
use Rattle.uc_sound_typing.proofs.Patterns.{PatternExtended, pattern_extends, literal_typed}
use Rattle.uc_sound_typing.proofs.Sights.{seen_extends, seen_unused, seen_under, seen_behind_rigid, seen_with, seen_marked, seen_matched, formed_under, formed_plain, formed_unsigned, one_new, argument_declared, result_declared}
use Rattle.uc_sound_typing.proofs.WrittenTypes.{written_typed, open_typed, front_written}

mutual
  pub checks_extend : {known : Known} {sight : Sight} {at : ℕ} {es : ContextEntries} {e : Term} {t : Open} {o : TermOutcome} → Checks known sight at es e t o
      → IsFormedKnown known → (m : ℕ) → IsFormed known m (length sight.seen) e → IsWellFormedContext known.arity es → IsSeen es sight → IsTypeIn known.arity es 0 t → Extended known.arity es (ended o)
  checks_extend (checks_small {known = known} {es = es} {t = t} small d) formed m h wf seen typed = against_extends d formed m h wf seen (type_under_typed known.arity es 0 t wf typed)
  checks_extend (checks_large large) formed m h wf seen typed = tt

  pub against_extends : {known : Known} {sight : Sight} {at : ℕ} {es : ContextEntries} {e : Term} {t : Open} {o : TermOutcome} → ChecksAgainst known sight at es e t o
      → IsFormedKnown known → (m : ℕ) → IsFormed known m (length sight.seen) e → IsWellFormedContext known.arity es → IsSeen es sight → IsTypeIn known.arity es 0 t → Extended known.arity es (ended o)
  against_extends (against_quantified {known = known} {sight = sight} {n = n} {es = es} {t = t} {o = o} {p = p} is d cut) formed m h wf seen typed =
      term_cut known.arity es (Rigid n) [] o p tt refl cut (checks_extend d formed m h (rigid_formed known.arity es n wf is) (seen_behind_rigid es sight seen n) (rigid_typed known.arity es n t typed))
  against_extends (against_form plain d) formed m h wf seen typed = form_extends d formed m h wf seen typed
  against_extends (against_subtype {known = known} {es = es} {fs = fs} {gs = gs} {s = s} {t = t} plain formless d ds) formed m h wf seen typed =
      let e : TypeExtended known.arity es (gives s fs) = synthesizes_extends d formed m h wf seen in
      extended_on known.arity es fs (done gs) e.1 (subtypes_extend known.arity ds e.0 (e.2, tt) (type_covered known.arity es fs (Covered-extends e.1) 0 t typed, tt))
  against_extends (against_no_subtype plain formless d ds is) formed m h wf seen typed = tt
  against_extends (against_type_stops plain formless d) formed m h wf seen typed = tt

  pub form_extends : {known : Known} {sight : Sight} {at : ℕ} {es : ContextEntries} {e : Term} {t : Open} {o : TermOutcome} → ChecksByForm known sight at es e t o
      → IsFormedKnown known → (m : ℕ) → IsFormed known m (length sight.seen) e → IsWellFormedContext known.arity es → IsSeen es sight → IsTypeIn known.arity es 0 t → Extended known.arity es (ended o)
  form_extends (form_lambda {known = known} {sight = sight} {n = n} {es = es} {a = a} {b = b} {o = o} {p = p} is d cut) formed m h wf seen typed =
      term_cut known.arity es (Binder n a) [] o p tt refl cut
      (checks_extend d formed (suc m) h (bound_formed known.arity es n a wf typed.0) (seen_under es sight seen n a (fresh_unbound es n is)) (bound_behind known.arity es n a b typed.1))
  form_extends (form_tuple {known = known} {es = es} {ts = ts} same d) formed m h wf seen typed = all_extend d formed m h wf seen (mono_types known.arity es ts typed)
  form_extends (form_list {known = known} {es = es} {elements = elements} {s = s} {t = t} is d) formed m h wf seen typed =
      all_extend d formed m h wf seen (repeated_typed known.arity es (terms_count elements) t (list_parts known.arity es s t is typed))
  form_extends (form_conditional {known = known} {es = es} d) formed m h wf seen typed = all_extend d formed m (h.0, (h.1, (h.2, tt))) wf seen (boolean_typed known formed es, (typed, (typed, tt)))
  form_extends (form_signed {known = known} {sight = sight} {n = n} {es = es} {fs = fs} {ty = ty} {a = a} {s = s} {t = t} {o = o} {p = p} is s_is d k cut) formed m h wf seen typed =
      let s_typed : IsTypeIn known.arity es 0 s = subst (IsTypeIn known.arity es 0) (sym s_is) (written_typed known.arity es sight.seen seen.rigids ty h.0) in
      let front : front_count s ≡ written_front ty = ap front_count s_is ∙ front_written sight.seen 0 ty in
      let body : IsFormed known (suc m) (front_count s + length sight.seen) a = subst (λ (j : ℕ). IsFormed known (suc m) (j + length sight.seen) a) (sym front) h.1 in
      let inside : IsSeen (es ++ Binder n s ∷ []) (under (Some n) sight) = seen_under es sight seen n s (fresh_unbound es n is) in
      let e : Extended known.arity (es ++ Binder n s ∷ []) (done fs) = meets_extends d formed (suc m) body (bound_formed known.arity es n s wf s_typed) inside (bound_behind known.arity es n s s s_typed) in
      term_cut known.arity es (Binder n s) [] o p tt refl cut
      (extended_on known.arity (es ++ Binder n s ∷ []) fs (ended o) e.1
      (checks_extend k formed (suc m) h.2 e.0 (seen_extends (under (Some n) sight) e.1 inside) (type_covered known.arity (es ++ Binder n s ∷ []) fs (Covered-extends e.1) 0 t (bound_behind known.arity es n s t typed))))
  form_extends (form_signed_stops is s_is d) formed m h wf seen typed = tt
  form_extends (form_own_use used) formed m h wf seen typed = tt
  form_extends (form_binding {known = known} {sight = sight} {n = n} {es = es} {fs = fs} {a = a} {s = s} {t = t} {o = o} {p = p} unused d is k cut) formed m h wf seen typed =
      let e : TypeExtended known.arity es (gives s fs) = synthesizes_extends d formed (suc m) (formed_unsigned known (suc m) a (length sight.seen) h.1) wf (seen_unused es sight seen) in
      extended_on known.arity es fs (ended p) e.1
      (term_cut known.arity fs (Binder n s) [] o p tt refl cut
      (checks_extend k formed (suc m) h.2 (bound_formed known.arity fs n s e.0 e.2) (seen_under fs sight (seen_extends sight e.1 seen) n s (fresh_unbound fs n is))
      (bound_behind known.arity fs n s t (type_covered known.arity es fs (Covered-extends e.1) 0 t typed))))
  form_extends (form_binding_stops unused d) formed m h wf seen typed = tt
  form_extends (form_match {known = known} {sight = sight} {es = es} {fs = fs} {s = s} {t = t} {numbers = numbers} {o = o} d are k) formed m h wf seen typed =
      let e : TypeExtended known.arity es (gives s fs) = synthesizes_extends d formed m h.0 wf seen in
      let gs : ContextEntries = fs ++ map (λ n. Exists n) numbers in
      let grown : Extends fs gs = Extends-existentials fs numbers in
      let new : AreNew numbers fs = subst (λ (ns : List ℕ). AreNew ns fs) (sym are) (fresh_numbers-AreNew (front_count s) fs) in
      extended_on known.arity es fs (ended o) e.1
      (extended_on known.arity fs gs (ended o) grown
      (cases_extend k formed m h.1 (with_existentials known.arity fs numbers new e.0) (seen_extends sight (Extends-trans e.1 grown) seen)
      (behind_typed known.arity gs numbers s (all_new known.arity fs numbers) (new_behind known.arity fs numbers s e.2)) (type_covered known.arity es gs (Covered-extends (Extends-trans e.1 grown)) 0 t typed)))
  form_extends (form_match_stops d) formed m h wf seen typed = tt

  pub synthesizes_extends : {known : Known} {sight : Sight} {at : ℕ} {es : ContextEntries} {e : Term} {o : TypeOutcome} → Synthesizes known sight at es e o
      → IsFormedKnown known → (m : ℕ) → IsFormed known m (length sight.seen) e → IsWellFormedContext known.arity es → IsSeen es sight → TypeExtended known.arity es o
  synthesizes_extends (synthesizes_small {known = known} {es = es} {fs = fs} {t = t} d small is) formed m h wf seen =
      let e : TypeExtended known.arity es (gives t fs) = finds_extends d formed m h wf seen in
      subst (λ (v : Open). TypeExtended known.arity es (gives v fs)) (sym is) (e.0, e.1, type_under_typed known.arity fs 0 t e.0 e.2)
  synthesizes_extends (synthesizes_large d large) formed m h wf seen = tt
  synthesizes_extends (synthesizes_stop d) formed m h wf seen = tt

  pub finds_extends : {known : Known} {sight : Sight} {at : ℕ} {es : ContextEntries} {e : Term} {o : TypeOutcome} → Finds known sight at es e o
      → IsFormedKnown known → (m : ℕ) → IsFormed known m (length sight.seen) e → IsWellFormedContext known.arity es → IsSeen es sight → TypeExtended known.arity es o
  finds_extends (finds_variable {known = known} {n = n} {es = es} {t = t} slot is) formed m h wf seen = (wf, Extends-refl es, binder_typed n known.arity es t wf is)
  finds_extends (finds_link {known = known} {es = es} {x = x} {ty = ty} {t = t} is t_is) formed m h wf seen =
      (wf, Extends-refl es, subst (IsTypeIn known.arity es 0) (sym t_is) (open_typed known.arity es ty (formed.types x ty is)))
  finds_extends (finds_literal {known = known} {es = es} {l = l} is) formed m h wf seen = (wf, Extends-refl es, subst (IsTypeIn known.arity es 0) (sym is) (literal_typed known formed es wf es l))
  finds_extends (finds_unit {es = es}) formed m h wf seen = (wf, Extends-refl es, tt)
  finds_extends (finds_annotated {known = known} {sight = sight} {es = es} {ty = ty} {t = t} {o = o} {p = p} t_is d is) formed m h wf seen =
      let typed : IsTypeIn known.arity es 0 t = subst (IsTypeIn known.arity es 0) (sym t_is) (written_typed known.arity es sight.seen seen.rigids ty h.1) in
      given_type known.arity es t o p is typed (checks_extend d formed m h.0 wf seen typed)
  finds_extends (finds_lambda {known = known} {sight = sight} {argument = argument} {result = result} {n = n} {es = es} {o = o} {p = p} are d is) formed m h wf seen =
      let front : ContextEntries = lambda_front known.arity es argument result n wf are in
      let typed = lambda_typed known.arity es argument result n wf are in
      let whole = lambda_whole known.arity es argument result n wf are in
      let before : Extends es front = Extends-existentials es (argument ∷ result ∷ []) in
      let e : Extended known.arity (es ++ Exists argument ∷ Exists result ∷ Binder n (existential argument) ∷ []) (ended o) =
      checks_extend d formed (suc m) h
      (subst (IsWellFormedContext known.arity) whole (bound_formed known.arity front n (existential argument) (lambda_formed known.arity es argument result n wf are) typed.0))
      (subst (λ (cs : ContextEntries). IsSeen cs (under (Some n) sight)) whole (seen_under front sight (seen_extends sight before seen) n (existential argument) (lambda_unbound known.arity es argument result n wf are)))
      (subst (λ (cs : ContextEntries). IsTypeIn known.arity cs 0 (existential result)) whole (bound_behind known.arity front n (existential argument) (existential result) typed.1)) in
      let back : Extended known.arity (front ++ Binder n (existential argument) ∷ []) (ended o) = subst (λ (cs : ContextEntries). Extended known.arity cs (ended o)) (sym whole) e in
      type_on known.arity es front p before
      (given_type known.arity front (arrow (existential argument) (existential result)) (left_before (Binder n (existential argument)) o) p is typed
      (term_cut known.arity front (Binder n (existential argument)) [] o (left_before (Binder n (existential argument)) o) tt refl refl back))
  finds_extends (finds_application {known = known} {sight = sight} {es = es} {fs = fs} {s = s} {o = o} d k) formed m h wf seen =
      let e : TypeExtended known.arity es (gives s fs) = synthesizes_extends d formed m h.0 wf seen in
      type_on known.arity es fs o e.1 (applies_extends k formed m h.1 e.0 (seen_extends sight e.1 seen) e.2)
  finds_extends (finds_no_function d) formed m h wf seen = tt
  finds_extends (finds_tuple {known = known} {sight = sight} {es = es} {parts = parts} {numbers = numbers} {o = o} {p = p} are d is) formed m h wf seen =
      let fs : ContextEntries = es ++ map (λ n. Exists n) numbers in
      let grown : Extends es fs = Extends-existentials es numbers in
      let new : AreNew numbers es = subst (λ (ns : List ℕ). AreNew ns es) (sym are) (fresh_numbers-AreNew (terms_count parts) es) in
      let declared = all_new known.arity es numbers in
      type_on known.arity es fs p grown
      (given_type known.arity fs (tuple (opens_of (existentials numbers))) o p is declared
      (all_extend d formed m h (with_existentials known.arity es numbers new wf) (seen_extends sight grown seen) (mono_types known.arity fs (opens_of (existentials numbers)) declared)))
  finds_extends (finds_list {known = known} {sight = sight} {n = n} {es = es} {elements = elements} {o = o} {p = p} fresh d is) formed m h wf seen =
      let fs : ContextEntries = es ++ Exists n ∷ [] in
      let grown : Extends es fs = Extends-existentials es (n ∷ []) in
      let typed : IsTypeIn known.arity fs 0 (existential n) = new_typed known.arity es n in
      type_on known.arity es fs p grown
      (given_type known.arity fs (list_of (existential n)) o p is (formed.list, (typed, tt))
      (all_extend d formed m h (with_existentials known.arity es (n ∷ []) (one_new es n fresh) wf) (seen_extends sight grown seen) (repeated_typed known.arity fs (terms_count elements) (existential n) typed)))
  finds_extends (finds_and {known = known} {es = es} {o = o} {p = p} d is) formed m h wf seen =
      given_type known.arity es boolean o p is (boolean_typed known formed es) (all_extend d formed m (h.0, (h.1, tt)) wf seen (boolean_typed known formed es, (boolean_typed known formed es, tt)))
  finds_extends (finds_or {known = known} {es = es} {o = o} {p = p} d is) formed m h wf seen =
      given_type known.arity es boolean o p is (boolean_typed known formed es) (all_extend d formed m (h.0, (h.1, tt)) wf seen (boolean_typed known formed es, (boolean_typed known formed es, tt)))
  finds_extends (finds_conditional {known = known} {sight = sight} {n = n} {es = es} {fs = fs} {o = o} {p = p} d fresh k is) formed m h wf seen =
      let e : Extended known.arity es (done fs) = checks_extend d formed m h.0 wf seen (boolean_typed known formed es) in
      let gs : ContextEntries = fs ++ Exists n ∷ [] in
      let grown : Extends fs gs = Extends-existentials fs (n ∷ []) in
      let typed : IsTypeIn known.arity gs 0 (existential n) = new_typed known.arity fs n in
      type_on known.arity es gs p (Extends-trans e.1 grown)
      (given_type known.arity gs (existential n) o p is typed
      (all_extend k formed m (h.1, (h.2, tt)) (with_existentials known.arity fs (n ∷ []) (one_new fs n fresh) e.0) (seen_extends sight (Extends-trans e.1 grown) seen) (typed, (typed, tt))))
  finds_extends (finds_no_condition d) formed m h wf seen = tt
  finds_extends (finds_binding {known = known} {sight = sight} {n = n} {es = es} {o = o} {p = p} fresh d is) formed m h wf seen =
      let fs : ContextEntries = es ++ Exists n ∷ [] in
      let grown : Extends es fs = Extends-existentials es (n ∷ []) in
      let typed : IsTypeIn known.arity fs 0 (existential n) = new_typed known.arity es n in
      type_on known.arity es fs p grown
      (given_type known.arity fs (existential n) o p is typed (form_extends d formed m h (with_existentials known.arity es (n ∷ []) (one_new es n fresh) wf) (seen_extends sight grown seen) typed))
  finds_extends (finds_match {known = known} {sight = sight} {n = n} {es = es} {o = o} {p = p} fresh d is) formed m h wf seen =
      let fs : ContextEntries = es ++ Exists n ∷ [] in
      let grown : Extends es fs = Extends-existentials es (n ∷ []) in
      let typed : IsTypeIn known.arity fs 0 (existential n) = new_typed known.arity es n in
      type_on known.arity es fs p grown
      (given_type known.arity fs (existential n) o p is typed (form_extends d formed m h (with_existentials known.arity es (n ∷ []) (one_new es n fresh) wf) (seen_extends sight grown seen) typed))

  pub applies_extends : {known : Known} {sight : Sight} {at next : ℕ} {es : ContextEntries} {t : Open} {e : Term} {o : TypeOutcome} → Applies known sight at next es t e o
      → IsFormedKnown known → (m : ℕ) → IsFormed known m (length sight.seen) e → IsWellFormedContext known.arity es → IsSeen es sight → IsTypeIn known.arity es 0 t → TypeExtended known.arity es o
  applies_extends (applies_quantified {known = known} {sight = sight} {n = n} {es = es} {t = t} {o = o} fresh d) formed m h wf seen typed =
      let grown : Extends es (es ++ Exists n ∷ []) = Extends-existentials es (n ∷ []) in
      type_on known.arity es (es ++ Exists n ∷ []) o grown
      (applies_extends d formed m h (with_existentials known.arity es (n ∷ []) (one_new es n fresh) wf) (seen_extends sight grown seen) (opened_new known.arity es n t typed))
  applies_extends (applies_arrow {known = known} {es = es} {b = b} {o = o} {p = p} d is) formed m h wf seen typed = given_type known.arity es b o p is typed.1 (checks_extend d formed m h wf seen typed.0)
  applies_extends (applies_existential {known = known} {sight = sight} {x = x} {argument = argument} {result = result} {es = es} {o = o} {p = p} unsolved are d is) formed m h wf seen typed =
      let fs : ContextEntries = solved_with_arrow es x argument result in
      let e : Extended known.arity es (done fs) = extended_with_arrow known.arity es x wf unsolved argument result are in
      type_on known.arity es fs p e.1
      (given_type known.arity fs (existential result) o p is (result_declared known.arity es x wf unsolved argument result)
      (checks_extend d formed m h e.0 (seen_extends sight e.1 seen) (argument_declared known.arity es x wf unsolved argument result)))
  applies_extends (applies_ill unfit) formed m h wf seen typed = tt

  pub meets_extends : {known : Known} {sight : Sight} {at : ℕ} {es : ContextEntries} {e : Term} {t : Open} {o : TermOutcome} → Meets known sight at es e t o
      → IsFormedKnown known → (m : ℕ) → IsFormed known m (front_count t + length sight.seen) e → IsWellFormedContext known.arity es → IsSeen es sight → IsTypeIn known.arity es 0 t → Extended known.arity es (ended o)
  meets_extends (meets_quantified {known = known} {sight = sight} {n = n} {es = es} {e = e} {t = t} {o = o} {p = p} small is d cut) formed m h wf seen typed =
      term_cut known.arity es (Rigid n) [] o p tt refl cut
      (meets_extends d formed m (formed_under known m e n (length sight.seen) t h) (rigid_formed known.arity es n wf is) (seen_with es sight seen n) (rigid_typed known.arity es n t typed))
  meets_extends (meets_rest {known = known} {sight = sight} {e = e} {t = t} plain d) formed m h wf seen typed = checks_extend d formed m (formed_plain known m e (length sight.seen) t plain h) wf seen typed
  meets_extends (meets_large large) formed m h wf seen typed = tt

  pub all_extend : {known : Known} {sight : Sight} {at : ℕ} {es : ContextEntries} {parts : Terms} {ts : Opens} {o : TermOutcome} → ChecksAll known sight at es parts ts o
      → IsFormedKnown known → (m : ℕ) → AreFormed known m (length sight.seen) parts → IsWellFormedContext known.arity es → IsSeen es sight → AreTypesIn known.arity es ts → Extended known.arity es (ended o)
  all_extend (all_checked {es = es}) formed m h wf seen typed = (wf, Extends-refl es)
  all_extend (checked_next {known = known} {sight = sight} {es = es} {fs = fs} {ts = ts} {o = o} d ds) formed m h wf seen typed =
      let e : Extended known.arity es (done fs) = checks_extend d formed m h.0 wf seen typed.0 in
      extended_on known.arity es fs (ended o) e.1 (all_extend ds formed m h.1 e.0 (seen_extends sight e.1 seen) (types_covered known.arity es fs ts (Covered-extends e.1) typed.1))
  all_extend (checked_stop d) formed m h wf seen typed = tt

  pub cases_extend : {known : Known} {sight : Sight} {at : ℕ} {es : ContextEntries} {cs : Cases} {s t : Open} {o : TermOutcome} → ChecksCases known sight at es cs s t o
      → IsFormedKnown known → (m : ℕ) → AreFormedCases known m (length sight.seen) cs → IsWellFormedContext known.arity es → IsSeen es sight → IsTypeIn known.arity es 0 s → IsTypeIn known.arity es 0 t → Extended known.arity es (ended o)
  cases_extend (all_cases {es = es}) formed m h wf seen s_typed t_typed = (wf, Extends-refl es)
  cases_extend (case_next {known = known} {sight = sight} {es = es} {fs = fs} {q = q} {s = s} {t = t} {o = o} d ds) formed m h wf seen s_typed t_typed =
      let e : Extended known.arity es (done fs) = case_extends d formed h.0 (binders_in q + m) (h.1, tt) wf seen s_typed (t_typed, tt) in
      extended_on known.arity es fs (ended o) e.1
      (cases_extend ds formed m h.2 e.0 (seen_extends sight e.1 seen) (type_covered known.arity es fs (Covered-extends e.1) 0 s s_typed) (type_covered known.arity es fs (Covered-extends e.1) 0 t t_typed))
  cases_extend (case_stop d) formed m h wf seen s_typed t_typed = tt
  cases_extend (guarded_next {known = known} {sight = sight} {es = es} {fs = fs} {q = q} {s = s} {t = t} {o = o} d ds) formed m h wf seen s_typed t_typed =
      let e : Extended known.arity es (done fs) = case_extends d formed h.0 (binders_in q + m) (h.1, (h.2, tt)) wf seen s_typed (boolean_typed known formed es, (t_typed, tt)) in
      extended_on known.arity es fs (ended o) e.1
      (cases_extend ds formed m h.3 e.0 (seen_extends sight e.1 seen) (type_covered known.arity es fs (Covered-extends e.1) 0 s s_typed) (type_covered known.arity es fs (Covered-extends e.1) 0 t t_typed))
  cases_extend (guarded_stop d) formed m h wf seen s_typed t_typed = tt

  pub case_extends : {known : Known} {sight : Sight} {at : ℕ} {es : ContextEntries} {q : Pattern} {bodies : Terms} {s : Open} {ts : Opens} {o : TermOutcome} → ChecksCase known sight at es q bodies s ts o
      → IsFormedKnown known → IsFormedPattern known q → (m : ℕ) → AreFormed known m (length sight.seen) bodies → IsWellFormedContext known.arity es → IsSeen es sight → IsTypeIn known.arity es 0 s → AreTypesIn known.arity es ts
      → Extended known.arity es (ended o)
  case_extends (case_checked {known = known} {sight = sight} {n = n} {es = es} {fs = fs} {s = s} {ts = ts} {vars = vars} {o = o} {p = p} is d ds cut) formed pattern m h wf seen s_typed typed =
      let marked : ContextEntries = es ++ Mark n ∷ [] in
      let front : Covered es marked = Covered-front es (Mark n ∷ []) in
      let e : PatternExtended known.arity marked (matched vars fs) =
      pattern_extends d formed pattern (marked_behind_all known.arity es n wf) (type_covered known.arity es marked front 0 s s_typed) (seen_marked es sight seen n).variables in
      let through : Covered es fs = Covered-trans front (Covered-grows e.1) in
      marked_cut known.arity es n fs o p e.1 cut (all_extend ds formed m h e.0 (seen_matched es fs vars sight through e.2 seen) (types_covered known.arity es fs ts through typed))
  case_extends (case_unmatched is d) formed pattern m h wf seen s_typed typed = tt
