use Rattle.std.proofs.Common.{◌≡◌, ℕ, ◌+◌, ◌-◌, ◌<◌, ◌≤◌, false, List, [], ◌∷◌, ◌++◌, map, length, drop, Option, Some, None, arith, rules, refl, sym, ap, subst, ◌∙◌, inl, length-append, true, IfOk, IfErr, inr}
use Rattle.std.proofs.lemmas.Bool.{false≢true}
use Rattle.std.proofs.lemmas.Result.{err_from_is_err_and, on_ok_weaker, IfErr-weaker}
use Rattle.std.specs.List.{list_any}
use Rattle.uc_base.specs.declared.place.Spot.{Spot}
use Rattle.uc_tree.specs.declared.term.Case.{Case}
use Rattle.uc_tree.specs.Nodes.{ty_nodes, term_nodes, terms_nodes, cases_nodes}
use Rattle.uc_tree.specs.Terms.{Term, terms_of, terms_size, no_case, Terms, term_size}
use Rattle.uc_tree.specs.Terms as terms
use Rattle.uc_tree.specs.TermViews.{case_with, cases_of, term_of}
use Rattle.uc_kinds.specs.PatternTyping.{Known}
use Rattle.uc_kinds.specs.Typing.{uses}
use Rattle.uc_context.specs.declared.entry.Entry.TheVariants.{Rigid, Exists, Binder}
use Rattle.uc_context.specs.Contexts.{type_under}
use Rattle.uc_context.specs.Counts.{IsSmall}
use Rattle.uc_context.specs.Entries.{ContextEntries, is_unsolved, dropped_from}
use Rattle.uc_context.specs.Fresh.{fresh_number, fresh_numbers}
use Rattle.uc_context.specs.Opens.{Open, rigid, quantified, none, more, opens_of, existential, arrow, tuple}
use Rattle.uc_context.specs.OpenViews.{open_of}
use Rattle.uc_context.specs.Variables.{opened_at}
use Rattle.uc_subtyping.specs.InHand.{IsInHand}
use Rattle.uc_subtyping.specs.Subtyping.{is_quantified}
use Rattle.uc_subtyping.proofs.SubtypeArms.{node_plain}
use Rattle.uc_subtyping.proofs.InOrder.{fresh_unused, no_variable}
use Rattle.uc_soundness.specs.WellFormed.{IsTypeIn}
use Rattle.uc_typing.specs.Fronts.{front_count, behind_front, existentials, repeated, boolean, list_of}
use Rattle.uc_typing.specs.Scopes.{under, with_variables, Sight}
use Rattle.uc_typing.specs.Stops.{too_large, unmatched, TermOutcome, stops, gives, gives_none}
use Rattle.uc_typing.specs.WrittenTypes.{written}
use Rattle.uc_sound_typing.proofs.Sights.{front_opened, one_new}
use Rattle.uc_sound_typing.proofs.Terms.{TypeExtended, boolean_typed, new_typed}
use Rattle.uc_patterns.specs.declared.state.State.{State}
use Rattle.uc_patterns.specs.Spots.{passed, fault_at, IsStopped}
use Rattle.uc_patterns.specs.Walks.{IsReady, AreTypes, Matches, IsMatched}
use Rattle.uc_check.specs.Walks.{IsAsked, AreAsked, AreAskedCases, IsChecked, IsFound, ChecksIn, ChecksAgainstIn, ChecksByFormIn, SynthesizesIn, MeetsIn, ChecksAllIn, ChecksCasesIn, ahead, unused, case_terms, case_types, is_block, FindsIn, AppliesIn}
use Rattle.uc_check.proofs.Asked.{tuple_asked, list_asked}
use Rattle.uc_check.proofs.CaseArms.{PendingCases, marked, ready_marked, marked_typed, pattern_formed, pattern_room, case_unmatched_stopped, bodies_asked, body_typed, case_depth, case_done, case_stopped, cases_start, cases_as, this_asked, this_stopped, cases_next, cases_done, cases_left, cases_left-more, cases_left-none, cases_left-all}
use Rattle.uc_check.proofs.CaseParts.{case_smaller, guarded_left, body_left}
use Rattle.uc_check.proofs.CheckArms.{left_room, unbound_depth, unbound_found, lambda_asked, lambda_typed, lambda_done, lambda_stopped, signed_bound_asked, signed_bound_typed, signed_stopped, signed_body_asked, signed_body_typed, signed_body_stopped, signed_done, own_room, own_use, unsigned_asked, unsigned_stopped, unsigned_body_asked, unsigned_body_typed, unsigned_body_stopped, unsigned_done}
use Rattle.uc_check.proofs.CheckForms.{tuple_lengths}
use Rattle.uc_check.proofs.CheckMeasures.{front_small}
use Rattle.uc_check.proofs.CheckParts.{tuple_types, tuple_done, tuple_stopped, element_typed, list_done, list_stopped, three_terms, branch_types, conditional_start, match_room, subject_asked, subject_stopped, cases_asked, matched_typed, match_typed, match_stopped, match_done}
use Rattle.uc_check.proofs.CheckStates.{state_as, checked_from, entered, behind_rigid, showing}
use Rattle.uc_check.proofs.CheckTypes.{put_typed, put_current, put_done, put_stopped, put_large, form_done, form_stopped, found_stopped, found_extends, against_typed, subtype_done, subtype_stopped, rigid_asked, rigid_type, rigid_hand, rigid_done, rigid_stopped}
use Rattle.uc_check.proofs.ListPending.{terms_count-of, PendingTerms, terms_start, terms_as, term_asked, term_typed, term_stopped, terms_next, terms_last, terms_done, terms_left, terms_left-more, terms_left-none, terms_left-all, types_left, types_left-more, types_left-none, types_left-all, term_smaller, repeated_types, repeated_more, repeated_none}
use Rattle.uc_check.proofs.MeetArms.{rest_asked, rest_done, rest_stopped, signature_large, shown_asked, shown_typed, opened_front, hidden_room, shown_done, shown_stopped}
use Rattle.uc_check.proofs.+terms.Goals as goal
use Rattle.uc_tree.specs.Types.{Ty}
use Rattle.uc_typing.specs.Checking.{synthesizes_stop}
use Rattle.uc_typing.specs.Terms.{terms_count}
use Rattle.uc_sound_typing.specs.Formed.{IsFormed}
use Rattle.uc_check.proofs.ApplyRules.{unfit, unfit_stops, stops_as, applied_as, arrow_applied, arrow_stops, opened_applied, opened_stops, opened_typed, opened_asked, opened_small, applied_front, body_levels, solved_state, solved_asked, argument_typed, existential_applied, existential_stops, node_unfit}
use Rattle.uc_check.proofs.AskedFound.{declared, with_new, declared_on, all_new_of, goes_on, asked_function, asked_argument, asked_inside, annotation_typed, asked_parts, asked_elements, asked_first, asked_second, asked_condition, asked_consequent, asked_alternative, lambda_state, asked_body, inner_typed}
use Rattle.uc_check.proofs.FindArms.{asked_as, form_ok, form_err, memory_err, variable_ok, link_ok, literal_found, unit_found, variable_asked, link_asked, node_asked, and_asked, or_asked, and_ok, or_ok, and_err, or_err}
use Rattle.uc_check.proofs.FindRules.{three_fresh, put_in_found, put_in_large, application_found, application_stops, function_stops, annotated_found, annotated_stops, lambda_found, lambda_stops, tuple_found, tuple_stops, list_found, list_stops, joined_found, joined_stops_first, joined_stops_second, condition_stops, consequent_stops, alternative_stops, conditional_found, block_found, block_stops}
use Rattle.uc_check.proofs.FindSteps.{new_as, lambda_as, checked_as, by_form_as, all_checked_as, found_as_start, new_types, tuple_many, node_more, behind_room, under_some, no_more, block_rule}
use Rattle.uc_check.proofs.FindWalks.{GoesOn, stopped_as, checked_on, found_on, found_typed, typed_on, asked_formed, asked_behind, member_behind, on_ahead}
use Rattle.uc_check.proofs.FormCounts.{terms_counted}

pub checking::check-check_against-requires : goal.checking::check-check_against-requires
checking::check-check_against-requires g t c κs lives =
    let known : Known = g.K.TargetTypes.known c.args.known.now in
    let old : State = c.args.state.now in
    let v : Open = c.in_ok-against.against in
    let put : v ≡ type_under old.context c.args.against.now = c.in_ok-against.ensures.ok.0 in
    let front : front_count v < 512 = front_small v c.in_ok-against.ensures.ok.1 in (
      omega (arith, front),
      (
        search rules,
        (
          c.requires.asked,
          (
            put_typed known old c.args.term.now c.args.against.now v put c.requires.asked.ready.context c.requires.typed,
            (c.in_ok-against.ensures.ok.1, put_current known old c.args.term.now c.args.against.now v put c.requires.asked.ready.context),
          ),
        ),
      ),
    )

pub checking::check-returns-in_err-against-clause-err : goal.checking::check-returns-in_err-against-clause-err
checking::check-returns-in_err-against-clause-err g t c =
    let known : Known = g.K.TargetTypes.known c.args.known.now in
    let old : State = c.args.state.now in
    let p = err_from_is_err_and c.from_residual.result c.from_residual.ensures.1 in
    rw (p.1, p.2) (put_large known old c.args.term.now c.args.against.now _ c.in_err-against.ensures.err)

pub checking::check-returns-in_err-check_against-clause-err : goal.checking::check-returns-in_err-check_against-clause-err
checking::check-returns-in_err-check_against-clause-err g t c =
    let known : Known = g.K.TargetTypes.known c.args.known.now in
    let old : State = c.args.state.now in
    let v : Open = c.in_ok-against.against in
    let put : v ≡ type_under old.context c.args.against.now = c.in_ok-against.ensures.ok.0 in
    let p = err_from_is_err_and c.from_residual-in_err-check_against.result c.from_residual-in_err-check_against.ensures.1 in
    rw (p.1, p.2) (put_stopped known old c.args.term.now c.args.against.now v put _ c.in_ok-against.ensures.ok.1 c.in_err-check_against.ensures.err)

pub checking::check-returns-clause-ok : goal.checking::check-returns-clause-ok
checking::check-returns-clause-ok g t c =
    let known : Known = g.K.TargetTypes.known c.args.known.now in
    let old : State = c.args.state.now in
    let v : Open = c.in_ok-against.against in
    let put : v ≡ type_under old.context c.args.against.now = c.in_ok-against.ensures.ok.0 in
    put_done known old c.args.term.now c.args.against.now v put c.check_against.new.state (length (term_nodes c.args.term.now)) c.in_ok-against.ensures.ok.1 c.in_ok-check_against.ensures.ok

pub checking::check_against-check_quantified-requires : goal.checking::check_against-check_quantified-requires
checking::check_against-check_quantified-requires g t c κs lives =
    let known : Known = g.K.TargetTypes.known c.args.known.now in
    let old : State = c.args.state.now in
    let is : c.args.against.now ≡ quantified c.deref.result.now = sym c.against.view_is ∙ ap open_of c.in-Forall.is ∙ ap quantified (sym c.deref.ensures) in
    let front : front_count c.args.against.now ≡ front_count (quantified c.deref.result.now) = ap front_count is in (omega (arith, front), (search rules, (c.requires.asked, (subst (IsTypeIn known.arity old.context 0) is c.requires.typed, (subst IsSmall is c.requires.small, subst (λ (v : Open). type_under old.context v ≡ v) is c.requires.current)))))

pub checking::check_against-returns-in-Forall-clause-ok : goal.checking::check_against-returns-in-Forall-clause-ok
checking::check_against-returns-in-Forall-clause-ok g t c =
    let known : Known = g.K.TargetTypes.known c.args.known.now in
    let old : State = c.args.state.now in
    let is : c.args.against.now ≡ quantified c.deref.result.now = sym c.against.view_is ∙ ap open_of c.in-Forall.is ∙ ap quantified (sym c.deref.ensures) in
    on_ok_weaker c.check_quantified.result (λ k. subst (λ (v : Open). IsChecked (ChecksAgainstIn known old c.args.term.now v) old c.check_quantified.new.state (length (term_nodes c.args.term.now))) (sym is) k) c.check_quantified.ensures.ok

pub checking::check_against-returns-in-Forall-clause-err : goal.checking::check_against-returns-in-Forall-clause-err
checking::check_against-returns-in-Forall-clause-err g t c =
    let known : Known = g.K.TargetTypes.known c.args.known.now in
    let old : State = c.args.state.now in
    let is : c.args.against.now ≡ quantified c.deref.result.now = sym c.against.view_is ∙ ap open_of c.in-Forall.is ∙ ap quantified (sym c.deref.ensures) in
    subst (λ (v : Open). IfErr c.check_quantified.result (IsStopped old.spot.member (λ stop. ChecksAgainstIn known old c.args.term.now v (stops stop)))) (sym is) c.check_quantified.ensures.err

pub checking::check_against-check_by_form-requires : goal.checking::check_against-check_by_form-requires
checking::check_against-check_by_form-requires g t c κs lives =
    (omega arith, (search rules, (c.requires.asked, (c.requires.typed, sym c.has_rule_of_form.ensures ∙ c.if-has_rule_of_form.true))))

pub checking::check_against-returns-then-has_rule_of_form-clause-ok : goal.checking::check_against-returns-then-has_rule_of_form-clause-ok
checking::check_against-returns-then-has_rule_of_form-clause-ok g t c =
    let known : Known = g.K.TargetTypes.known c.args.known.now in
    let old : State = c.args.state.now in
    let plain : is_quantified c.args.against.now ≡ false = node_plain c.against.inside.node c.args.against.now c.against.view_is c.in_default.not-Forall in
    on_ok_weaker c.check_by_form.result (λ k. form_done known old c.args.term.now c.args.against.now plain c.check_by_form.new.state (length (term_nodes c.args.term.now)) k) c.check_by_form.ensures.ok

pub checking::check_against-returns-then-has_rule_of_form-clause-err : goal.checking::check_against-returns-then-has_rule_of_form-clause-err
checking::check_against-returns-then-has_rule_of_form-clause-err g t c =
    let known : Known = g.K.TargetTypes.known c.args.known.now in
    let old : State = c.args.state.now in
    let plain : is_quantified c.args.against.now ≡ false = node_plain c.against.inside.node c.args.against.now c.against.view_is c.in_default.not-Forall in
    IfErr-weaker c.check_by_form.result (IsStopped old.spot.member (λ stop. ChecksByFormIn known old c.args.term.now c.args.against.now (stops stop))) (IsStopped old.spot.member (λ stop. ChecksAgainstIn known old c.args.term.now c.args.against.now (stops stop)))
    (λ fault s. form_stopped known old c.args.term.now c.args.against.now plain fault s) c.check_by_form.ensures.err

pub checking::check_against-check_by_subtype-requires : goal.checking::check_against-check_by_subtype-requires
checking::check_against-check_by_subtype-requires g t c κs lives =
    let known : Known = g.K.TargetTypes.known c.args.known.now in
    let old : State = c.args.state.now in
    let plain : is_quantified c.args.against.now ≡ false = node_plain c.against.inside.node c.args.against.now c.against.view_is c.in_default.not-Forall in
    (omega arith, (search rules, (c.requires.asked, (c.requires.typed, (plain, sym c.has_rule_of_form.ensures ∙ c.if-has_rule_of_form.false)))))

pub checking::check_quantified-push-requires : goal.checking::check_quantified-push-requires
checking::check_quantified-push-requires g t c =
    let known : Known = g.K.TargetTypes.known c.args.known.now in
    let old : State = c.args.state.now in
    let n : ℕ = c.fresh-number.result in
    no_variable old.context n (fresh_unused old.context n c.fresh-number.ensures.number)

pub checking::check_quantified-opened-requires : goal.checking::check_quantified-opened-requires
checking::check_quantified-opened-requires g t c =
    let levels = c.requires.small.levels in omega (arith, levels)

pub checking::check_quantified-check_against-requires : goal.checking::check_quantified-check_against-requires
checking::check_quantified-check_against-requires g t c κs lives =
    let known : Known = g.K.TargetTypes.known c.args.known.now in
    let old : State = c.args.state.now in
    let n : ℕ = c.fresh-number.result in
    let fresh : n ≡ fresh_number old.context = c.fresh-number.ensures.number in
    let u : Open = c.in_ok-opened.opened in
    let is : u ≡ opened_at 0 (rigid n) c.args.body.now = c.in_ok-opened.ensures ∙ ap (λ (v : Open). opened_at 0 v c.args.body.now) c.rigid.ensures in
    let mid : State = record { context = c.push.new.self; sight = old.sight; spot = old.spot } in
    let at : behind_rigid n old ≡ mid = sym (state_as mid (old.context ++ Rigid n ∷ []) old.sight old.spot c.in_ok-push.ensures.ok refl refl) in
    let hand : IsInHand (behind_rigid n old).context u = rigid_hand known old n c.args.term.now c.args.body.now u fresh is c.requires.asked.ready.context c.requires.typed c.requires.current c.requires.small in
    let front : front_count u ≡ front_count c.args.body.now = ap front_count is ∙ front_opened (rigid n) refl 0 c.args.body.now in (
      omega (arith, front),
      (
        search rules,
        (
          subst (λ (s : State). IsAsked known s 0 c.args.term.now) at (rigid_asked known old n c.args.term.now c.args.body.now u fresh is c.requires.asked),
          (
            subst (λ (s : State). IsTypeIn known.arity s.context 0 u) at (rigid_type known old n c.args.term.now c.args.body.now u fresh is c.requires.typed),
            (hand.small, subst (λ (s : State). type_under s.context u ≡ u) at hand.current),
          ),
        ),
      ),
    )

pub checking::check_quantified-returns-in_err-check_against-clause-err : goal.checking::check_quantified-returns-in_err-check_against-clause-err
checking::check_quantified-returns-in_err-check_against-clause-err g t c =
    let known : Known = g.K.TargetTypes.known c.args.known.now in
    let old : State = c.args.state.now in
    let n : ℕ = c.fresh-number.result in
    let fresh : n ≡ fresh_number old.context = c.fresh-number.ensures.number in
    let u : Open = c.in_ok-opened.opened in
    let is : u ≡ opened_at 0 (rigid n) c.args.body.now = c.in_ok-opened.ensures ∙ ap (λ (v : Open). opened_at 0 v c.args.body.now) c.rigid.ensures in
    let mid : State = record { context = c.push.new.self; sight = old.sight; spot = old.spot } in
    let at : behind_rigid n old ≡ mid = sym (state_as mid (old.context ++ Rigid n ∷ []) old.sight old.spot c.in_ok-push.ensures.ok refl refl) in
    let hand : IsInHand (behind_rigid n old).context u = rigid_hand known old n c.args.term.now c.args.body.now u fresh is c.requires.asked.ready.context c.requires.typed c.requires.current c.requires.small in
    let p = err_from_is_err_and c.from_residual-in_err-check_against.result c.from_residual-in_err-check_against.ensures.1 in
    rw (p.1, p.2) (rigid_stopped known old n c.args.term.now c.args.body.now u fresh is hand _ (subst (λ (s : State). IsStopped s.spot.member (λ stop. ChecksAgainstIn known s c.args.term.now u (stops stop)) c.in_err-check_against.field-0.0) (sym at) c.in_err-check_against.ensures.err))

pub checking::check_quantified-returns-clause-ok : goal.checking::check_quantified-returns-clause-ok
checking::check_quantified-returns-clause-ok g t c =
    let known : Known = g.K.TargetTypes.known c.args.known.now in
    let old : State = c.args.state.now in
    let n : ℕ = c.fresh-number.result in
    let fresh : n ≡ fresh_number old.context = c.fresh-number.ensures.number in
    let u : Open = c.in_ok-opened.opened in
    let is : u ≡ opened_at 0 (rigid n) c.args.body.now = c.in_ok-opened.ensures ∙ ap (λ (v : Open). opened_at 0 v c.args.body.now) c.rigid.ensures in
    let mid : State = record { context = c.push.new.self; sight = old.sight; spot = old.spot } in
    let at : behind_rigid n old ≡ mid = sym (state_as mid (old.context ++ Rigid n ∷ []) old.sight old.spot c.in_ok-push.ensures.ok refl refl) in
    let hand : IsInHand (behind_rigid n old).context u = rigid_hand known old n c.args.term.now c.args.body.now u fresh is c.requires.asked.ready.context c.requires.typed c.requires.current c.requires.small in
    let last : State = c.check_against.new.state in
    let k : ℕ = length (term_nodes c.args.term.now) in
    let checked : IsChecked (ChecksAgainstIn known (behind_rigid n old) c.args.term.now u) (behind_rigid n old) last k = subst (λ (s : State). IsChecked (ChecksAgainstIn known s c.args.term.now u) s last k) (sym at) c.in_ok-check_against.ensures.ok in
    rigid_done known old n c.args.term.now c.args.body.now u fresh is hand last (record { context = c.drop_from.new.self; sight = last.sight; spot = last.spot }) k checked c.drop_from.ensures refl refl

pub checking::check_by_subtype-synthesize-requires : goal.checking::check_by_subtype-synthesize-requires
checking::check_by_subtype-synthesize-requires g t c κs lives =
    (omega arith, (search rules, c.requires.asked))

pub checking::check_by_subtype-returns-in_err-found-clause-err : goal.checking::check_by_subtype-returns-in_err-found-clause-err
checking::check_by_subtype-returns-in_err-found-clause-err g t c =
    let known : Known = g.K.TargetTypes.known c.args.known.now in
    let old : State = c.args.state.now in
    let p = err_from_is_err_and c.from_residual.result c.from_residual.ensures.1 in
    rw (p.1, p.2) (found_stopped known old c.args.term.now c.args.against.now c.requires.plain c.requires.formless _ c.in_err-found.ensures.err)

pub checking::check_by_subtype-subtype_at-requires : goal.checking::check_by_subtype-subtype_at-requires
checking::check_by_subtype-subtype_at-requires g t c =
    let known : Known = g.K.TargetTypes.known c.args.known.now in
    let old : State = c.args.state.now in
    let mid : State = c.synthesize.new.state in
    let u : Open = c.in_ok-found.found in
    let k : ℕ = length (term_nodes c.args.term.now) in
    let found : IsFound (SynthesizesIn known old c.args.term.now) old mid k u = c.in_ok-found.ensures.ok in
    let x : TypeExtended known.arity old.context (gives u mid.context) = found_extends known old c.args.term.now c.args.against.now c.requires.plain c.requires.formless mid u k found c.requires.asked in
    record { context = x.0; lower = x.2; upper = against_typed known old c.args.term.now c.args.against.now c.requires.plain c.requires.formless mid u k found c.requires.asked c.requires.typed }

pub checking::check_by_subtype-returns-in_err-subtype_at-clause-err : goal.checking::check_by_subtype-returns-in_err-subtype_at-clause-err
checking::check_by_subtype-returns-in_err-subtype_at-clause-err g t c =
    let known : Known = g.K.TargetTypes.known c.args.known.now in
    let old : State = c.args.state.now in
    let mid : State = c.synthesize.new.state in
    let u : Open = c.in_ok-found.found in
    let k : ℕ = length (term_nodes c.args.term.now) in
    let found : IsFound (SynthesizesIn known old c.args.term.now) old mid k u = c.in_ok-found.ensures.ok in
    let p = err_from_is_err_and c.from_residual-in_err-subtype_at.result c.from_residual-in_err-subtype_at.ensures.1 in
    rw (p.1, p.2) (subtype_stopped known old c.args.term.now c.args.against.now c.requires.plain c.requires.formless mid u k found _ c.in_err-subtype_at.ensures.err)

pub checking::check_by_subtype-returns-clause-ok : goal.checking::check_by_subtype-returns-clause-ok
checking::check_by_subtype-returns-clause-ok g t c =
    let known : Known = g.K.TargetTypes.known c.args.known.now in
    let old : State = c.args.state.now in
    let mid : State = c.synthesize.new.state in
    let u : Open = c.in_ok-found.found in
    let k : ℕ = length (term_nodes c.args.term.now) in
    let found : IsFound (SynthesizesIn known old c.args.term.now) old mid k u = c.in_ok-found.ensures.ok in
    subtype_done known old c.args.term.now c.args.against.now c.requires.plain c.requires.formless mid u k found (record { context = c.subtype_at.new.context; sight = mid.sight; spot = mid.spot }) c.in_ok-subtype_at.ensures.ok refl refl

pub checking::check_lambda-advance-requires : goal.checking::check_lambda-advance-requires
checking::check_lambda-advance-requires g t c =
    let known : Known = g.K.TargetTypes.known c.args.known.now in
    let old : State = c.args.state.now in
    let node : c.enter.new.state.spot.node ≡ old.spot.node = ap (λ (s : Spot). s.node) c.in_ok-number.ensures.spot in
    let nodes = c.requires.asked.nodes in
    omega (arith, nodes, node)

pub checking::check_lambda-check-requires : goal.checking::check_lambda-check-requires
checking::check_lambda-check-requires g t c κs lives =
    let known : Known = g.K.TargetTypes.known c.args.known.now in
    let old : State = c.args.state.now in
    let n : ℕ = c.in_ok-number.number in
    let fresh : n ≡ fresh_number old.context = c.in_ok-number.ensures.number in
    let mid : State = record { context = c.enter.new.state.context; sight = c.enter.new.state.sight; spot = c.advance.new.spot } in
    let inside : State = ahead 1 (entered n c.args.from.now old) in
    let at : mid ≡ inside = state_as mid inside.context inside.sight inside.spot c.in_ok-number.ensures.context c.in_ok-number.ensures.sight (c.advance.ensures ∙ ap (λ (s : Spot). passed s 1) c.in_ok-number.ensures.spot) in (
      omega arith,
      (
        search rules,
        (
          subst (λ (s : State). IsAsked known s 0 c.args.body.now) (sym at) (lambda_asked known old n c.args.body.now c.args.from.now c.args.to.now c.requires.asked fresh c.requires.typed),
          subst (λ (s : State). IsTypeIn known.arity s.context 0 c.args.to.now) (sym at) (lambda_typed known old n c.args.body.now c.args.from.now c.args.to.now c.requires.asked fresh c.requires.typed),
        ),
      ),
    )

pub checking::check_lambda-returns-in_err-check-clause-err : goal.checking::check_lambda-returns-in_err-check-clause-err
checking::check_lambda-returns-in_err-check-clause-err g t c =
    let known : Known = g.K.TargetTypes.known c.args.known.now in
    let old : State = c.args.state.now in
    let n : ℕ = c.in_ok-number.number in
    let fresh : n ≡ fresh_number old.context = c.in_ok-number.ensures.number in
    let mid : State = record { context = c.enter.new.state.context; sight = c.enter.new.state.sight; spot = c.advance.new.spot } in
    let inside : State = ahead 1 (entered n c.args.from.now old) in
    let at : mid ≡ inside = state_as mid inside.context inside.sight inside.spot c.in_ok-number.ensures.context c.in_ok-number.ensures.sight (c.advance.ensures ∙ ap (λ (s : Spot). passed s 1) c.in_ok-number.ensures.spot) in
    let p = err_from_is_err_and c.from_residual-in_err-check.result c.from_residual-in_err-check.ensures.1 in
    rw (p.1, p.2) (lambda_stopped known old n c.args.body.now c.args.from.now c.args.to.now c.requires.asked fresh _ (subst (λ (s : State). IsStopped s.spot.member (λ stop. ChecksIn known s c.args.body.now c.args.to.now (stops stop)) c.in_err-check.field-0.0) at c.in_err-check.ensures.err))

pub checking::check_lambda-leave-requires : goal.checking::check_lambda-leave-requires
checking::check_lambda-leave-requires g t c =
    let known : Known = g.K.TargetTypes.known c.args.known.now in
    let old : State = c.args.state.now in
    let n : ℕ = c.in_ok-number.number in
    let fresh : n ≡ fresh_number old.context = c.in_ok-number.ensures.number in
    let mid : State = record { context = c.enter.new.state.context; sight = c.enter.new.state.sight; spot = c.advance.new.spot } in
    let inside : State = ahead 1 (entered n c.args.from.now old) in
    let at : mid ≡ inside = state_as mid inside.context inside.sight inside.spot c.in_ok-number.ensures.context c.in_ok-number.ensures.sight (c.advance.ensures ∙ ap (λ (s : Spot). passed s 1) c.in_ok-number.ensures.spot) in
    let last : State = c.check.new.state in
    let k : ℕ = length (term_nodes c.args.body.now) in
    let checked : IsChecked (ChecksIn known inside c.args.body.now c.args.to.now) inside last k = checked_from (λ s. ChecksIn known s c.args.body.now c.args.to.now) mid inside last k at c.in_ok-check.ensures.ok in
    left_room old.sight last.sight (Some n) checked.sight

pub checking::check_lambda-returns-clause-ok : goal.checking::check_lambda-returns-clause-ok
checking::check_lambda-returns-clause-ok g t c =
    let known : Known = g.K.TargetTypes.known c.args.known.now in
    let old : State = c.args.state.now in
    let n : ℕ = c.in_ok-number.number in
    let fresh : n ≡ fresh_number old.context = c.in_ok-number.ensures.number in
    let mid : State = record { context = c.enter.new.state.context; sight = c.enter.new.state.sight; spot = c.advance.new.spot } in
    let inside : State = ahead 1 (entered n c.args.from.now old) in
    let at : mid ≡ inside = state_as mid inside.context inside.sight inside.spot c.in_ok-number.ensures.context c.in_ok-number.ensures.sight (c.advance.ensures ∙ ap (λ (s : Spot). passed s 1) c.in_ok-number.ensures.spot) in
    let last : State = c.check.new.state in
    let k : ℕ = length (term_nodes c.args.body.now) in
    let checked : IsChecked (ChecksIn known inside c.args.body.now c.args.to.now) inside last k = checked_from (λ s. ChecksIn known s c.args.body.now c.args.to.now) mid inside last k at c.in_ok-check.ensures.ok in
    lambda_done known old n c.args.body.now c.args.from.now c.args.to.now c.requires.asked fresh last c.leave.new.state checked (record { context = c.in_ok-leave.ensures.context; sight = c.in_ok-leave.ensures.sight; spot = c.in_ok-leave.ensures.spot })

pub checking::check_tuple-advance-requires : goal.checking::check_tuple-advance-requires
checking::check_tuple-advance-requires g t c =
    let nodes = c.requires.asked.nodes in omega (arith, nodes)

pub checking::check_tuple-check_each-requires : goal.checking::check_tuple-check_each-requires
checking::check_tuple-check_each-requires g t c κs lives =
    let known : Known = g.K.TargetTypes.known c.args.known.now in
    let old : State = c.args.state.now in
    let mid : State = record { context = old.context; sight = old.sight; spot = c.advance.new.spot } in
    let at : mid ≡ ahead 1 old = state_as mid old.context old.sight (passed old.spot 1) refl refl c.advance.ensures in (
      omega arith,
      (
        search rules,
        (
          subst (λ (x : State). AreAsked known x (terms_of c.args.parts.now)) (sym at) (tuple_asked known old (terms_of c.args.parts.now) c.requires.asked),
          (
            subst (λ (x : State). AreTypes known.arity x.context (opens_of c.args.types.now)) (sym at) (tuple_types known old (terms_of c.args.parts.now) (opens_of c.args.types.now) c.requires.as_many c.requires.typed),
            tuple_lengths c.args.parts.now c.args.types.now c.requires.as_many,
          ),
        ),
      ),
    )

pub checking::check_tuple-returns-in_err-check_each-clause-err : goal.checking::check_tuple-returns-in_err-check_each-clause-err
checking::check_tuple-returns-in_err-check_each-clause-err g t c =
    let known : Known = g.K.TargetTypes.known c.args.known.now in
    let old : State = c.args.state.now in
    let mid : State = record { context = old.context; sight = old.sight; spot = c.advance.new.spot } in
    let at : mid ≡ ahead 1 old = state_as mid old.context old.sight (passed old.spot 1) refl refl c.advance.ensures in
    let p = err_from_is_err_and c.from_residual.result c.from_residual.ensures.1 in
    rw (p.1, p.2) (tuple_stopped known old (terms_of c.args.parts.now) (opens_of c.args.types.now) c.requires.as_many _ (subst (λ (x : State). IsStopped x.spot.member (λ stop. ChecksAllIn known x (terms_of c.args.parts.now) (opens_of c.args.types.now) (stops stop)) c.in_err-check_each.field-0.0) at c.in_err-check_each.ensures.err))

pub checking::check_tuple-returns-clause-ok : goal.checking::check_tuple-returns-clause-ok
checking::check_tuple-returns-clause-ok g t c =
    let known : Known = g.K.TargetTypes.known c.args.known.now in
    let old : State = c.args.state.now in
    let mid : State = record { context = old.context; sight = old.sight; spot = c.advance.new.spot } in
    let at : mid ≡ ahead 1 old = state_as mid old.context old.sight (passed old.spot 1) refl refl c.advance.ensures in
    let new : State = c.check_each.new.state in
    tuple_done known old (terms_of c.args.parts.now) (opens_of c.args.types.now) c.requires.as_many new (checked_from (λ x. ChecksAllIn known x (terms_of c.args.parts.now) (opens_of c.args.types.now)) mid (ahead 1 old) new (length (terms_nodes (terms_of c.args.parts.now))) at c.in_ok-check_each.ensures.ok)

pub checking::check_list-advance-requires : goal.checking::check_list-advance-requires
checking::check_list-advance-requires g t c =
    let nodes = c.requires.asked.nodes in omega (arith, nodes)

pub checking::check_list-check_all_against-requires : goal.checking::check_list-check_all_against-requires
checking::check_list-check_all_against-requires g t c κs lives =
    let known : Known = g.K.TargetTypes.known c.args.known.now in
    let old : State = c.args.state.now in
    let mid : State = record { context = old.context; sight = old.sight; spot = c.advance.new.spot } in
    let at : mid ≡ ahead 1 old = state_as mid old.context old.sight (passed old.spot 1) refl refl c.advance.ensures in (
      omega arith,
      (
        search rules,
        (
          subst (λ (x : State). AreAsked known x (terms_of c.args.elements.now)) (sym at) (list_asked known old (terms_of c.args.elements.now) c.requires.asked),
          subst (λ (x : State). IsTypeIn known.arity x.context 0 c.args.of.now) (sym at) (element_typed known old (terms_of c.args.elements.now) (list_of c.args.of.now) c.args.of.now (length c.args.elements.now) refl (terms_count-of c.args.elements.now) c.requires.typed),
        ),
      ),
    )

pub checking::check_list-returns-in_err-check_all_against-clause-err : goal.checking::check_list-returns-in_err-check_all_against-clause-err
checking::check_list-returns-in_err-check_all_against-clause-err g t c =
    let known : Known = g.K.TargetTypes.known c.args.known.now in
    let old : State = c.args.state.now in
    let mid : State = record { context = old.context; sight = old.sight; spot = c.advance.new.spot } in
    let at : mid ≡ ahead 1 old = state_as mid old.context old.sight (passed old.spot 1) refl refl c.advance.ensures in
    let p = err_from_is_err_and c.from_residual.result c.from_residual.ensures.1 in
    rw (p.1, p.2) (list_stopped known old (terms_of c.args.elements.now) (list_of c.args.of.now) c.args.of.now (length c.args.elements.now) refl (terms_count-of c.args.elements.now) _ (subst (λ (x : State). IsStopped x.spot.member (λ stop. ChecksAllIn known x (terms_of c.args.elements.now) (repeated (length c.args.elements.now) c.args.of.now) (stops stop)) c.in_err-check_all_against.field-0.0) at c.in_err-check_all_against.ensures.err))

pub checking::check_list-returns-clause-ok : goal.checking::check_list-returns-clause-ok
checking::check_list-returns-clause-ok g t c =
    let known : Known = g.K.TargetTypes.known c.args.known.now in
    let old : State = c.args.state.now in
    let mid : State = record { context = old.context; sight = old.sight; spot = c.advance.new.spot } in
    let at : mid ≡ ahead 1 old = state_as mid old.context old.sight (passed old.spot 1) refl refl c.advance.ensures in
    let new : State = c.check_all_against.new.state in
    list_done known old (terms_of c.args.elements.now) (list_of c.args.of.now) c.args.of.now (length c.args.elements.now) refl (terms_count-of c.args.elements.now) new (checked_from (λ x. ChecksAllIn known x (terms_of c.args.elements.now) (repeated (length c.args.elements.now) c.args.of.now)) mid (ahead 1 old) new (length (terms_nodes (terms_of c.args.elements.now))) at c.in_ok-check_all_against.ensures.ok)

pub checking::check_conditional-advance-requires : goal.checking::check_conditional-advance-requires
checking::check_conditional-advance-requires g t c =
    let asked = c.requires.asked.nodes in omega (arith, asked)

pub checking::check_conditional-check-requires : goal.checking::check_conditional-check-requires
checking::check_conditional-check-requires g t c κs lives =
    let known : Known = g.K.TargetTypes.known c.args.known.now in
    let old : State = c.args.state.now in
    let t' : Open = c.args.against.now in
    let judged : TermOutcome → Type 0 = λ o. ChecksByFormIn known old (terms.conditional c.args.condition.now c.args.consequent.now c.args.alternative.now) t' o in
    let nodes : ℕ = length (term_nodes (terms.conditional c.args.condition.now c.args.consequent.now c.args.alternative.now)) in
    let mid : State = record { context = old.context; sight = old.sight; spot = c.advance.new.spot } in
    let at : ahead 1 old ≡ mid = sym (state_as mid old.context old.sight (passed old.spot 1) refl refl c.advance.ensures) in
    let b : boolean ≡ c.boolean.result = sym c.boolean.ensures in
    let first : PendingTerms known judged old mid nodes (terms.more c.args.condition.now (terms.more c.args.consequent.now (terms.more c.args.alternative.now terms.none))) (more c.boolean.result (more t' (more t' none))) =
    terms_as known judged old nodes (ahead 1 old) mid (three_terms c.args.condition.now c.args.consequent.now c.args.alternative.now) (three_terms c.args.condition.now c.args.consequent.now c.args.alternative.now) (branch_types t') (more c.boolean.result (more t' (more t' none))) at refl (ap (λ (v : Open). more v (more t' (more t' none))) b)
    (conditional_start known old c.args.condition.now c.args.consequent.now c.args.alternative.now t' c.requires.asked c.requires.typed) in
    (omega arith, (search rules, (term_asked known judged old nodes mid c.args.condition.now (terms.more c.args.consequent.now (terms.more c.args.alternative.now terms.none)) c.boolean.result (more t' (more t' none)) first, term_typed known judged old nodes mid c.args.condition.now (terms.more c.args.consequent.now (terms.more c.args.alternative.now terms.none)) c.boolean.result (more t' (more t' none)) first)))

pub checking::check_conditional-returns-in_err-check-clause-err : goal.checking::check_conditional-returns-in_err-check-clause-err
checking::check_conditional-returns-in_err-check-clause-err g t c =
    let known : Known = g.K.TargetTypes.known c.args.known.now in
    let old : State = c.args.state.now in
    let t' : Open = c.args.against.now in
    let judged : TermOutcome → Type 0 = λ o. ChecksByFormIn known old (terms.conditional c.args.condition.now c.args.consequent.now c.args.alternative.now) t' o in
    let nodes : ℕ = length (term_nodes (terms.conditional c.args.condition.now c.args.consequent.now c.args.alternative.now)) in
    let mid : State = record { context = old.context; sight = old.sight; spot = c.advance.new.spot } in
    let at : ahead 1 old ≡ mid = sym (state_as mid old.context old.sight (passed old.spot 1) refl refl c.advance.ensures) in
    let b : boolean ≡ c.boolean.result = sym c.boolean.ensures in
    let first : PendingTerms known judged old mid nodes (terms.more c.args.condition.now (terms.more c.args.consequent.now (terms.more c.args.alternative.now terms.none))) (more c.boolean.result (more t' (more t' none))) =
    terms_as known judged old nodes (ahead 1 old) mid (three_terms c.args.condition.now c.args.consequent.now c.args.alternative.now) (three_terms c.args.condition.now c.args.consequent.now c.args.alternative.now) (branch_types t') (more c.boolean.result (more t' (more t' none))) at refl (ap (λ (v : Open). more v (more t' (more t' none))) b)
    (conditional_start known old c.args.condition.now c.args.consequent.now c.args.alternative.now t' c.requires.asked c.requires.typed) in
    let p = err_from_is_err_and c.from_residual.result c.from_residual.ensures.1 in
    rw (p.1, p.2) (term_stopped known judged old nodes mid c.args.condition.now (terms.more c.args.consequent.now (terms.more c.args.alternative.now terms.none)) c.boolean.result (more t' (more t' none)) first _ c.in_err-check.ensures.err)

pub checking::check_conditional-check-requires-2 : goal.checking::check_conditional-check-requires-2
checking::check_conditional-check-requires-2 g t c κs lives =
    let known : Known = g.K.TargetTypes.known c.args.known.now in
    let old : State = c.args.state.now in
    let t' : Open = c.args.against.now in
    let judged : TermOutcome → Type 0 = λ o. ChecksByFormIn known old (terms.conditional c.args.condition.now c.args.consequent.now c.args.alternative.now) t' o in
    let nodes : ℕ = length (term_nodes (terms.conditional c.args.condition.now c.args.consequent.now c.args.alternative.now)) in
    let mid : State = record { context = old.context; sight = old.sight; spot = c.advance.new.spot } in
    let at : ahead 1 old ≡ mid = sym (state_as mid old.context old.sight (passed old.spot 1) refl refl c.advance.ensures) in
    let b : boolean ≡ c.boolean.result = sym c.boolean.ensures in
    let first : PendingTerms known judged old mid nodes (terms.more c.args.condition.now (terms.more c.args.consequent.now (terms.more c.args.alternative.now terms.none))) (more c.boolean.result (more t' (more t' none))) =
    terms_as known judged old nodes (ahead 1 old) mid (three_terms c.args.condition.now c.args.consequent.now c.args.alternative.now) (three_terms c.args.condition.now c.args.consequent.now c.args.alternative.now) (branch_types t') (more c.boolean.result (more t' (more t' none))) at refl (ap (λ (v : Open). more v (more t' (more t' none))) b)
    (conditional_start known old c.args.condition.now c.args.consequent.now c.args.alternative.now t' c.requires.asked c.requires.typed) in
    let after : State = c.check-2.new.state in
    let second : PendingTerms known judged old after nodes (terms.more c.args.consequent.now (terms.more c.args.alternative.now terms.none)) (more t' (more t' none)) = terms_next known judged old nodes mid c.args.condition.now (terms.more c.args.consequent.now (terms.more c.args.alternative.now terms.none)) c.boolean.result (more t' (more t' none)) first after c.in_ok-check.ensures.ok in
    (omega arith, (search rules, (term_asked known judged old nodes after c.args.consequent.now (terms.more c.args.alternative.now terms.none) t' (more t' none) second, term_typed known judged old nodes after c.args.consequent.now (terms.more c.args.alternative.now terms.none) t' (more t' none) second)))

pub checking::check_conditional-returns-in_err-check-2-clause-err : goal.checking::check_conditional-returns-in_err-check-2-clause-err
checking::check_conditional-returns-in_err-check-2-clause-err g t c =
    let known : Known = g.K.TargetTypes.known c.args.known.now in
    let old : State = c.args.state.now in
    let t' : Open = c.args.against.now in
    let judged : TermOutcome → Type 0 = λ o. ChecksByFormIn known old (terms.conditional c.args.condition.now c.args.consequent.now c.args.alternative.now) t' o in
    let nodes : ℕ = length (term_nodes (terms.conditional c.args.condition.now c.args.consequent.now c.args.alternative.now)) in
    let mid : State = record { context = old.context; sight = old.sight; spot = c.advance.new.spot } in
    let at : ahead 1 old ≡ mid = sym (state_as mid old.context old.sight (passed old.spot 1) refl refl c.advance.ensures) in
    let b : boolean ≡ c.boolean.result = sym c.boolean.ensures in
    let first : PendingTerms known judged old mid nodes (terms.more c.args.condition.now (terms.more c.args.consequent.now (terms.more c.args.alternative.now terms.none))) (more c.boolean.result (more t' (more t' none))) =
    terms_as known judged old nodes (ahead 1 old) mid (three_terms c.args.condition.now c.args.consequent.now c.args.alternative.now) (three_terms c.args.condition.now c.args.consequent.now c.args.alternative.now) (branch_types t') (more c.boolean.result (more t' (more t' none))) at refl (ap (λ (v : Open). more v (more t' (more t' none))) b)
    (conditional_start known old c.args.condition.now c.args.consequent.now c.args.alternative.now t' c.requires.asked c.requires.typed) in
    let after : State = c.check-2.new.state in
    let second : PendingTerms known judged old after nodes (terms.more c.args.consequent.now (terms.more c.args.alternative.now terms.none)) (more t' (more t' none)) = terms_next known judged old nodes mid c.args.condition.now (terms.more c.args.consequent.now (terms.more c.args.alternative.now terms.none)) c.boolean.result (more t' (more t' none)) first after c.in_ok-check.ensures.ok in
    let p = err_from_is_err_and c.from_residual-in_err-check-2.result c.from_residual-in_err-check-2.ensures.1 in
    rw (p.1, p.2) (term_stopped known judged old nodes after c.args.consequent.now (terms.more c.args.alternative.now terms.none) t' (more t' none) second _ c.in_err-check-2.ensures.err)

pub checking::check_conditional-check-requires-3 : goal.checking::check_conditional-check-requires-3
checking::check_conditional-check-requires-3 g t c κs lives =
    let known : Known = g.K.TargetTypes.known c.args.known.now in
    let old : State = c.args.state.now in
    let t' : Open = c.args.against.now in
    let judged : TermOutcome → Type 0 = λ o. ChecksByFormIn known old (terms.conditional c.args.condition.now c.args.consequent.now c.args.alternative.now) t' o in
    let nodes : ℕ = length (term_nodes (terms.conditional c.args.condition.now c.args.consequent.now c.args.alternative.now)) in
    let mid : State = record { context = old.context; sight = old.sight; spot = c.advance.new.spot } in
    let at : ahead 1 old ≡ mid = sym (state_as mid old.context old.sight (passed old.spot 1) refl refl c.advance.ensures) in
    let b : boolean ≡ c.boolean.result = sym c.boolean.ensures in
    let first : PendingTerms known judged old mid nodes (terms.more c.args.condition.now (terms.more c.args.consequent.now (terms.more c.args.alternative.now terms.none))) (more c.boolean.result (more t' (more t' none))) =
    terms_as known judged old nodes (ahead 1 old) mid (three_terms c.args.condition.now c.args.consequent.now c.args.alternative.now) (three_terms c.args.condition.now c.args.consequent.now c.args.alternative.now) (branch_types t') (more c.boolean.result (more t' (more t' none))) at refl (ap (λ (v : Open). more v (more t' (more t' none))) b)
    (conditional_start known old c.args.condition.now c.args.consequent.now c.args.alternative.now t' c.requires.asked c.requires.typed) in
    let after : State = c.check-2.new.state in
    let second : PendingTerms known judged old after nodes (terms.more c.args.consequent.now (terms.more c.args.alternative.now terms.none)) (more t' (more t' none)) = terms_next known judged old nodes mid c.args.condition.now (terms.more c.args.consequent.now (terms.more c.args.alternative.now terms.none)) c.boolean.result (more t' (more t' none)) first after c.in_ok-check.ensures.ok in
    let later : State = c.check-3.new.state in
    let third : PendingTerms known judged old later nodes (terms.more c.args.alternative.now terms.none) (more t' none) = terms_next known judged old nodes after c.args.consequent.now (terms.more c.args.alternative.now terms.none) t' (more t' none) second later c.in_ok-check-2.ensures.ok in
    (omega arith, (search rules, (term_asked known judged old nodes later c.args.alternative.now terms.none t' none third, term_typed known judged old nodes later c.args.alternative.now terms.none t' none third)))

pub checking::check_conditional-returns-in_err-check-3-clause-err : goal.checking::check_conditional-returns-in_err-check-3-clause-err
checking::check_conditional-returns-in_err-check-3-clause-err g t c =
    let known : Known = g.K.TargetTypes.known c.args.known.now in
    let old : State = c.args.state.now in
    let t' : Open = c.args.against.now in
    let judged : TermOutcome → Type 0 = λ o. ChecksByFormIn known old (terms.conditional c.args.condition.now c.args.consequent.now c.args.alternative.now) t' o in
    let nodes : ℕ = length (term_nodes (terms.conditional c.args.condition.now c.args.consequent.now c.args.alternative.now)) in
    let mid : State = record { context = old.context; sight = old.sight; spot = c.advance.new.spot } in
    let at : ahead 1 old ≡ mid = sym (state_as mid old.context old.sight (passed old.spot 1) refl refl c.advance.ensures) in
    let b : boolean ≡ c.boolean.result = sym c.boolean.ensures in
    let first : PendingTerms known judged old mid nodes (terms.more c.args.condition.now (terms.more c.args.consequent.now (terms.more c.args.alternative.now terms.none))) (more c.boolean.result (more t' (more t' none))) =
    terms_as known judged old nodes (ahead 1 old) mid (three_terms c.args.condition.now c.args.consequent.now c.args.alternative.now) (three_terms c.args.condition.now c.args.consequent.now c.args.alternative.now) (branch_types t') (more c.boolean.result (more t' (more t' none))) at refl (ap (λ (v : Open). more v (more t' (more t' none))) b)
    (conditional_start known old c.args.condition.now c.args.consequent.now c.args.alternative.now t' c.requires.asked c.requires.typed) in
    let after : State = c.check-2.new.state in
    let second : PendingTerms known judged old after nodes (terms.more c.args.consequent.now (terms.more c.args.alternative.now terms.none)) (more t' (more t' none)) = terms_next known judged old nodes mid c.args.condition.now (terms.more c.args.consequent.now (terms.more c.args.alternative.now terms.none)) c.boolean.result (more t' (more t' none)) first after c.in_ok-check.ensures.ok in
    let later : State = c.check-3.new.state in
    let third : PendingTerms known judged old later nodes (terms.more c.args.alternative.now terms.none) (more t' none) = terms_next known judged old nodes after c.args.consequent.now (terms.more c.args.alternative.now terms.none) t' (more t' none) second later c.in_ok-check-2.ensures.ok in
    let p = err_from_is_err_and c.from_residual-in_err-check-3.result c.from_residual-in_err-check-3.ensures.1 in
    rw (p.1, p.2) (term_stopped known judged old nodes later c.args.alternative.now terms.none t' none third _ c.in_err-check-3.ensures.err)

pub checking::check_conditional-returns-clause-ok : goal.checking::check_conditional-returns-clause-ok
checking::check_conditional-returns-clause-ok g t c =
    let known : Known = g.K.TargetTypes.known c.args.known.now in
    let old : State = c.args.state.now in
    let t' : Open = c.args.against.now in
    let judged : TermOutcome → Type 0 = λ o. ChecksByFormIn known old (terms.conditional c.args.condition.now c.args.consequent.now c.args.alternative.now) t' o in
    let nodes : ℕ = length (term_nodes (terms.conditional c.args.condition.now c.args.consequent.now c.args.alternative.now)) in
    let mid : State = record { context = old.context; sight = old.sight; spot = c.advance.new.spot } in
    let at : ahead 1 old ≡ mid = sym (state_as mid old.context old.sight (passed old.spot 1) refl refl c.advance.ensures) in
    let b : boolean ≡ c.boolean.result = sym c.boolean.ensures in
    let first : PendingTerms known judged old mid nodes (terms.more c.args.condition.now (terms.more c.args.consequent.now (terms.more c.args.alternative.now terms.none))) (more c.boolean.result (more t' (more t' none))) =
    terms_as known judged old nodes (ahead 1 old) mid (three_terms c.args.condition.now c.args.consequent.now c.args.alternative.now) (three_terms c.args.condition.now c.args.consequent.now c.args.alternative.now) (branch_types t') (more c.boolean.result (more t' (more t' none))) at refl (ap (λ (v : Open). more v (more t' (more t' none))) b)
    (conditional_start known old c.args.condition.now c.args.consequent.now c.args.alternative.now t' c.requires.asked c.requires.typed) in
    let after : State = c.check-2.new.state in
    let second : PendingTerms known judged old after nodes (terms.more c.args.consequent.now (terms.more c.args.alternative.now terms.none)) (more t' (more t' none)) = terms_next known judged old nodes mid c.args.condition.now (terms.more c.args.consequent.now (terms.more c.args.alternative.now terms.none)) c.boolean.result (more t' (more t' none)) first after c.in_ok-check.ensures.ok in
    let later : State = c.check-3.new.state in
    let third : PendingTerms known judged old later nodes (terms.more c.args.alternative.now terms.none) (more t' none) = terms_next known judged old nodes after c.args.consequent.now (terms.more c.args.alternative.now terms.none) t' (more t' none) second later c.in_ok-check-2.ensures.ok in
    terms_last known judged old nodes later c.args.alternative.now terms.none t' none third c.check-4.new.state c.in_ok-check-3.ensures.ok refl refl

pub checking::check_signed-written-requires : goal.checking::check_signed-written-requires
checking::check_signed-written-requires g t c =
    let known : Known = g.K.TargetTypes.known c.args.known.now in
    let old : State = c.args.state.now in
    let nodes = c.requires.asked.nodes in
    omega (arith, nodes, length-append (ty_nodes c.args.signature.now ++ term_nodes c.args.bound.now) (term_nodes c.args.body.now), length-append (ty_nodes c.args.signature.now) (term_nodes c.args.bound.now))

pub checking::check_signed-advance-requires : goal.checking::check_signed-advance-requires
checking::check_signed-advance-requires g t c =
    let known : Known = g.K.TargetTypes.known c.args.known.now in
    let old : State = c.args.state.now in
    let node : c.enter.new.state.spot.node ≡ old.spot.node = ap (λ (p : Spot). p.node) c.in_ok-number.ensures.spot in
    let nodes = c.requires.asked.nodes in
    omega (arith, nodes, node, length-append (ty_nodes c.args.signature.now ++ term_nodes c.args.bound.now) (term_nodes c.args.body.now), length-append (ty_nodes c.args.signature.now) (term_nodes c.args.bound.now))

pub checking::check_signed-pass_type-requires : goal.checking::check_signed-pass_type-requires
checking::check_signed-pass_type-requires g t c =
    let known : Known = g.K.TargetTypes.known c.args.known.now in
    let old : State = c.args.state.now in
    let node : c.advance.new.spot.node ≡ old.spot.node + 1 = ap (λ (p : Spot). p.node) (c.advance.ensures ∙ ap (λ (p : Spot). passed p 1) c.in_ok-number.ensures.spot) in
    let nodes = c.requires.asked.nodes in
    omega (arith, nodes, node, length-append (ty_nodes c.args.signature.now ++ term_nodes c.args.bound.now) (term_nodes c.args.body.now), length-append (ty_nodes c.args.signature.now) (term_nodes c.args.bound.now))

pub checking::check_signed-meet-requires : goal.checking::check_signed-meet-requires
checking::check_signed-meet-requires g t c κs lives =
    let known : Known = g.K.TargetTypes.known c.args.known.now in
    let old : State = c.args.state.now in
    let s : Open = c.in_ok-of.of in
    let is : s ≡ written old.sight.seen c.args.signature.now = c.in_ok-of.ensures in
    let n : ℕ = c.in_ok-number.number in
    let fresh : n ≡ fresh_number old.context = c.in_ok-number.ensures.number in
    let inside : State = ahead (length (ty_nodes c.args.signature.now)) (ahead 1 (entered n s old)) in
    let mid : State = record { context = c.enter.new.state.context; sight = c.enter.new.state.sight; spot = c.pass_type.new.spot } in
    let at : mid ≡ inside = state_as mid inside.context inside.sight inside.spot c.in_ok-number.ensures.context c.in_ok-number.ensures.sight
    (c.pass_type.ensures ∙ ap (λ (p : Spot). passed p (length (ty_nodes c.args.signature.now))) (c.advance.ensures ∙ ap (λ (p : Spot). passed p 1) c.in_ok-number.ensures.spot)) in (
      omega arith,
      (
        search rules,
        (
          subst (λ (x : State). IsAsked known x (front_count s) c.args.bound.now) (sym at) (signed_bound_asked known old n c.args.signature.now c.args.bound.now c.args.body.now s c.args.against.now c.requires.asked c.requires.typed fresh is),
          subst (λ (x : State). IsTypeIn known.arity x.context 0 s) (sym at) (signed_bound_typed known old n c.args.signature.now c.args.bound.now c.args.body.now s c.args.against.now c.requires.asked c.requires.typed fresh is),
        ),
      ),
    )

pub checking::check_signed-returns-in_err-meet-clause-err : goal.checking::check_signed-returns-in_err-meet-clause-err
checking::check_signed-returns-in_err-meet-clause-err g t c =
    let known : Known = g.K.TargetTypes.known c.args.known.now in
    let old : State = c.args.state.now in
    let s : Open = c.in_ok-of.of in
    let is : s ≡ written old.sight.seen c.args.signature.now = c.in_ok-of.ensures in
    let n : ℕ = c.in_ok-number.number in
    let fresh : n ≡ fresh_number old.context = c.in_ok-number.ensures.number in
    let inside : State = ahead (length (ty_nodes c.args.signature.now)) (ahead 1 (entered n s old)) in
    let mid : State = record { context = c.enter.new.state.context; sight = c.enter.new.state.sight; spot = c.pass_type.new.spot } in
    let at : mid ≡ inside = state_as mid inside.context inside.sight inside.spot c.in_ok-number.ensures.context c.in_ok-number.ensures.sight
    (c.pass_type.ensures ∙ ap (λ (p : Spot). passed p (length (ty_nodes c.args.signature.now))) (c.advance.ensures ∙ ap (λ (p : Spot). passed p 1) c.in_ok-number.ensures.spot)) in
    let p = err_from_is_err_and c.from_residual-in_err-meet.result c.from_residual-in_err-meet.ensures.1 in
    rw (p.1, p.2) (signed_stopped known old n c.args.signature.now c.args.bound.now c.args.body.now s c.args.against.now c.requires.asked c.requires.typed fresh is _ (subst (λ (x : State). IsStopped x.spot.member (λ stop. MeetsIn known x c.args.bound.now s (stops stop)) c.in_err-meet.field-0.0) at c.in_err-meet.ensures.err))

pub checking::check_signed-check-requires : goal.checking::check_signed-check-requires
checking::check_signed-check-requires g t c κs lives =
    let known : Known = g.K.TargetTypes.known c.args.known.now in
    let old : State = c.args.state.now in
    let s : Open = c.in_ok-of.of in
    let is : s ≡ written old.sight.seen c.args.signature.now = c.in_ok-of.ensures in
    let n : ℕ = c.in_ok-number.number in
    let fresh : n ≡ fresh_number old.context = c.in_ok-number.ensures.number in
    let inside : State = ahead (length (ty_nodes c.args.signature.now)) (ahead 1 (entered n s old)) in
    let mid : State = record { context = c.enter.new.state.context; sight = c.enter.new.state.sight; spot = c.pass_type.new.spot } in
    let at : mid ≡ inside = state_as mid inside.context inside.sight inside.spot c.in_ok-number.ensures.context c.in_ok-number.ensures.sight
    (c.pass_type.ensures ∙ ap (λ (p : Spot). passed p (length (ty_nodes c.args.signature.now))) (c.advance.ensures ∙ ap (λ (p : Spot). passed p 1) c.in_ok-number.ensures.spot)) in
    let after : State = c.meet.new.state in
    let met : IsChecked (MeetsIn known inside c.args.bound.now s) inside after (length (term_nodes c.args.bound.now)) = checked_from (λ x. MeetsIn known x c.args.bound.now s) mid inside after (length (term_nodes c.args.bound.now)) at c.in_ok-meet.ensures.ok in
    (omega arith, (search rules, (signed_body_asked known old n c.args.signature.now c.args.bound.now c.args.body.now s c.args.against.now c.requires.asked c.requires.typed fresh is after met, signed_body_typed known old n c.args.signature.now c.args.bound.now c.args.body.now s c.args.against.now c.requires.asked c.requires.typed fresh is after met)))

pub checking::check_signed-returns-in_err-check-clause-err : goal.checking::check_signed-returns-in_err-check-clause-err
checking::check_signed-returns-in_err-check-clause-err g t c =
    let known : Known = g.K.TargetTypes.known c.args.known.now in
    let old : State = c.args.state.now in
    let s : Open = c.in_ok-of.of in
    let is : s ≡ written old.sight.seen c.args.signature.now = c.in_ok-of.ensures in
    let n : ℕ = c.in_ok-number.number in
    let fresh : n ≡ fresh_number old.context = c.in_ok-number.ensures.number in
    let inside : State = ahead (length (ty_nodes c.args.signature.now)) (ahead 1 (entered n s old)) in
    let mid : State = record { context = c.enter.new.state.context; sight = c.enter.new.state.sight; spot = c.pass_type.new.spot } in
    let at : mid ≡ inside = state_as mid inside.context inside.sight inside.spot c.in_ok-number.ensures.context c.in_ok-number.ensures.sight
    (c.pass_type.ensures ∙ ap (λ (p : Spot). passed p (length (ty_nodes c.args.signature.now))) (c.advance.ensures ∙ ap (λ (p : Spot). passed p 1) c.in_ok-number.ensures.spot)) in
    let after : State = c.meet.new.state in
    let met : IsChecked (MeetsIn known inside c.args.bound.now s) inside after (length (term_nodes c.args.bound.now)) = checked_from (λ x. MeetsIn known x c.args.bound.now s) mid inside after (length (term_nodes c.args.bound.now)) at c.in_ok-meet.ensures.ok in
    let p = err_from_is_err_and c.from_residual-in_err-check.result c.from_residual-in_err-check.ensures.1 in
    rw (p.1, p.2) (signed_body_stopped known old n c.args.signature.now c.args.bound.now c.args.body.now s c.args.against.now c.requires.asked c.requires.typed fresh is after met _ c.in_err-check.ensures.err)

pub checking::check_signed-leave-requires : goal.checking::check_signed-leave-requires
checking::check_signed-leave-requires g t c =
    let known : Known = g.K.TargetTypes.known c.args.known.now in
    let old : State = c.args.state.now in
    let s : Open = c.in_ok-of.of in
    let is : s ≡ written old.sight.seen c.args.signature.now = c.in_ok-of.ensures in
    let n : ℕ = c.in_ok-number.number in
    let fresh : n ≡ fresh_number old.context = c.in_ok-number.ensures.number in
    let inside : State = ahead (length (ty_nodes c.args.signature.now)) (ahead 1 (entered n s old)) in
    let mid : State = record { context = c.enter.new.state.context; sight = c.enter.new.state.sight; spot = c.pass_type.new.spot } in
    let at : mid ≡ inside = state_as mid inside.context inside.sight inside.spot c.in_ok-number.ensures.context c.in_ok-number.ensures.sight
    (c.pass_type.ensures ∙ ap (λ (p : Spot). passed p (length (ty_nodes c.args.signature.now))) (c.advance.ensures ∙ ap (λ (p : Spot). passed p 1) c.in_ok-number.ensures.spot)) in
    let after : State = c.meet.new.state in
    let met : IsChecked (MeetsIn known inside c.args.bound.now s) inside after (length (term_nodes c.args.bound.now)) = checked_from (λ x. MeetsIn known x c.args.bound.now s) mid inside after (length (term_nodes c.args.bound.now)) at c.in_ok-meet.ensures.ok in
    let last : State = c.check.new.state in
    left_room old.sight last.sight (Some n) (c.in_ok-check.ensures.ok.sight ∙ met.sight)

pub checking::check_signed-returns-clause-ok : goal.checking::check_signed-returns-clause-ok
checking::check_signed-returns-clause-ok g t c =
    let known : Known = g.K.TargetTypes.known c.args.known.now in
    let old : State = c.args.state.now in
    let s : Open = c.in_ok-of.of in
    let is : s ≡ written old.sight.seen c.args.signature.now = c.in_ok-of.ensures in
    let n : ℕ = c.in_ok-number.number in
    let fresh : n ≡ fresh_number old.context = c.in_ok-number.ensures.number in
    let inside : State = ahead (length (ty_nodes c.args.signature.now)) (ahead 1 (entered n s old)) in
    let mid : State = record { context = c.enter.new.state.context; sight = c.enter.new.state.sight; spot = c.pass_type.new.spot } in
    let at : mid ≡ inside = state_as mid inside.context inside.sight inside.spot c.in_ok-number.ensures.context c.in_ok-number.ensures.sight
    (c.pass_type.ensures ∙ ap (λ (p : Spot). passed p (length (ty_nodes c.args.signature.now))) (c.advance.ensures ∙ ap (λ (p : Spot). passed p 1) c.in_ok-number.ensures.spot)) in
    let after : State = c.meet.new.state in
    let met : IsChecked (MeetsIn known inside c.args.bound.now s) inside after (length (term_nodes c.args.bound.now)) = checked_from (λ x. MeetsIn known x c.args.bound.now s) mid inside after (length (term_nodes c.args.bound.now)) at c.in_ok-meet.ensures.ok in
    let last : State = c.check.new.state in
    signed_done known old n c.args.signature.now c.args.bound.now c.args.body.now s c.args.against.now c.requires.asked c.requires.typed fresh is after met last c.leave.new.state c.in_ok-check.ensures.ok (record { context = c.in_ok-leave.ensures.context; sight = c.in_ok-leave.ensures.sight; spot = c.in_ok-leave.ensures.spot })

pub checking::check_unsigned-uses-requires : goal.checking::check_unsigned-uses-requires
checking::check_unsigned-uses-requires g t c =
    let known : Known = g.K.TargetTypes.known c.args.known.now in
    let old : State = c.args.state.now in
    own_room known old c.args.bound.now c.args.body.now c.args.against.now c.requires.asked c.requires.typed

pub checking::check_unsigned-returns-then-uses-clause-err : goal.checking::check_unsigned-returns-then-uses-clause-err
checking::check_unsigned-returns-then-uses-clause-err g t c =
    let known : Known = g.K.TargetTypes.known c.args.known.now in
    let old : State = c.args.state.now in
    own_use known old c.args.bound.now c.args.body.now c.args.against.now c.requires.asked c.requires.typed _ (sym c.uses.ensures ∙ c.if-uses.true) refl

pub checking::check_unsigned-advance-requires : goal.checking::check_unsigned-advance-requires
checking::check_unsigned-advance-requires g t c =
    let nodes = c.requires.asked.nodes in omega (arith, nodes)

pub checking::check_unsigned-synthesize_unbound-requires : goal.checking::check_unsigned-synthesize_unbound-requires
checking::check_unsigned-synthesize_unbound-requires g t c κs lives =
    let known : Known = g.K.TargetTypes.known c.args.known.now in
    let old : State = c.args.state.now in
    let none : uses 0 c.args.bound.now ≡ false = sym c.uses.ensures ∙ c.if-uses.false in
    let mid : State = record { context = old.context; sight = old.sight; spot = c.advance.new.spot } in
    let at : mid ≡ ahead 1 old = state_as mid old.context old.sight (passed old.spot 1) refl refl c.advance.ensures in
    (omega arith, (search rules, subst (λ (x : State). IsAsked known (unused x) 0 c.args.bound.now) (sym at) (unsigned_asked known old c.args.bound.now c.args.body.now c.args.against.now c.requires.asked c.requires.typed none)))

pub checking::check_unsigned-returns-in_err-of-clause-err : goal.checking::check_unsigned-returns-in_err-of-clause-err
checking::check_unsigned-returns-in_err-of-clause-err g t c =
    let known : Known = g.K.TargetTypes.known c.args.known.now in
    let old : State = c.args.state.now in
    let none : uses 0 c.args.bound.now ≡ false = sym c.uses.ensures ∙ c.if-uses.false in
    let mid : State = record { context = old.context; sight = old.sight; spot = c.advance.new.spot } in
    let at : mid ≡ ahead 1 old = state_as mid old.context old.sight (passed old.spot 1) refl refl c.advance.ensures in
    let p = err_from_is_err_and c.from_residual.result c.from_residual.ensures.1 in
    rw (p.1, p.2) (unsigned_stopped known old c.args.bound.now c.args.body.now c.args.against.now c.requires.asked c.requires.typed none _ (subst (λ (x : State). IsStopped x.spot.member (λ stop. SynthesizesIn known (unused x) c.args.bound.now (gives_none stop)) c.in_err-of.field-0.0) at c.in_err-of.ensures.err))

pub checking::check_unsigned-check-requires : goal.checking::check_unsigned-check-requires
checking::check_unsigned-check-requires g t c κs lives =
    let known : Known = g.K.TargetTypes.known c.args.known.now in
    let old : State = c.args.state.now in
    let none : uses 0 c.args.bound.now ≡ false = sym c.uses.ensures ∙ c.if-uses.false in
    let mid : State = record { context = old.context; sight = old.sight; spot = c.advance.new.spot } in
    let at : mid ≡ ahead 1 old = state_as mid old.context old.sight (passed old.spot 1) refl refl c.advance.ensures in
    let s : Open = c.in_ok-of.of in
    let found_at : State = c.synthesize_unbound.new.state in
    let found : IsFound (SynthesizesIn known (unused (ahead 1 old)) c.args.bound.now) (ahead 1 old) found_at (length (term_nodes c.args.bound.now)) s =
    subst (λ (x : State). IsFound (SynthesizesIn known (unused x) c.args.bound.now) x found_at (length (term_nodes c.args.bound.now)) s) at c.in_ok-of.ensures.ok in
    let n : ℕ = c.in_ok-number.number in
    let fresh : n ≡ fresh_number found_at.context = c.in_ok-number.ensures.number in
    let inside : State = entered n s found_at in
    let body : State = c.enter.new.state in
    let here : body ≡ inside = state_as body inside.context inside.sight inside.spot c.in_ok-number.ensures.context c.in_ok-number.ensures.sight c.in_ok-number.ensures.spot in (
      omega arith,
      (
        search rules,
        (
          subst (λ (x : State). IsAsked known x 0 c.args.body.now) (sym here) (unsigned_body_asked known old c.args.bound.now c.args.body.now c.args.against.now c.requires.asked c.requires.typed none found_at s found n fresh),
          subst (λ (x : State). IsTypeIn known.arity x.context 0 c.args.against.now) (sym here) (unsigned_body_typed known old c.args.bound.now c.args.body.now c.args.against.now c.requires.asked c.requires.typed none found_at s found n fresh),
        ),
      ),
    )

pub checking::check_unsigned-returns-in_err-check-clause-err : goal.checking::check_unsigned-returns-in_err-check-clause-err
checking::check_unsigned-returns-in_err-check-clause-err g t c =
    let known : Known = g.K.TargetTypes.known c.args.known.now in
    let old : State = c.args.state.now in
    let none : uses 0 c.args.bound.now ≡ false = sym c.uses.ensures ∙ c.if-uses.false in
    let mid : State = record { context = old.context; sight = old.sight; spot = c.advance.new.spot } in
    let at : mid ≡ ahead 1 old = state_as mid old.context old.sight (passed old.spot 1) refl refl c.advance.ensures in
    let s : Open = c.in_ok-of.of in
    let found_at : State = c.synthesize_unbound.new.state in
    let found : IsFound (SynthesizesIn known (unused (ahead 1 old)) c.args.bound.now) (ahead 1 old) found_at (length (term_nodes c.args.bound.now)) s =
    subst (λ (x : State). IsFound (SynthesizesIn known (unused x) c.args.bound.now) x found_at (length (term_nodes c.args.bound.now)) s) at c.in_ok-of.ensures.ok in
    let n : ℕ = c.in_ok-number.number in
    let fresh : n ≡ fresh_number found_at.context = c.in_ok-number.ensures.number in
    let inside : State = entered n s found_at in
    let body : State = c.enter.new.state in
    let here : body ≡ inside = state_as body inside.context inside.sight inside.spot c.in_ok-number.ensures.context c.in_ok-number.ensures.sight c.in_ok-number.ensures.spot in
    let p = err_from_is_err_and c.from_residual-in_err-check.result c.from_residual-in_err-check.ensures.1 in
    rw (p.1, p.2) (unsigned_body_stopped known old c.args.bound.now c.args.body.now c.args.against.now c.requires.asked c.requires.typed none found_at s found n fresh _ (subst (λ (x : State). IsStopped x.spot.member (λ stop. ChecksIn known x c.args.body.now c.args.against.now (stops stop)) c.in_err-check.field-0.0) here c.in_err-check.ensures.err))

pub checking::check_unsigned-leave-requires : goal.checking::check_unsigned-leave-requires
checking::check_unsigned-leave-requires g t c =
    let known : Known = g.K.TargetTypes.known c.args.known.now in
    let old : State = c.args.state.now in
    let none : uses 0 c.args.bound.now ≡ false = sym c.uses.ensures ∙ c.if-uses.false in
    let mid : State = record { context = old.context; sight = old.sight; spot = c.advance.new.spot } in
    let at : mid ≡ ahead 1 old = state_as mid old.context old.sight (passed old.spot 1) refl refl c.advance.ensures in
    let s : Open = c.in_ok-of.of in
    let found_at : State = c.synthesize_unbound.new.state in
    let found : IsFound (SynthesizesIn known (unused (ahead 1 old)) c.args.bound.now) (ahead 1 old) found_at (length (term_nodes c.args.bound.now)) s =
    subst (λ (x : State). IsFound (SynthesizesIn known (unused x) c.args.bound.now) x found_at (length (term_nodes c.args.bound.now)) s) at c.in_ok-of.ensures.ok in
    let n : ℕ = c.in_ok-number.number in
    let fresh : n ≡ fresh_number found_at.context = c.in_ok-number.ensures.number in
    let inside : State = entered n s found_at in
    let body : State = c.enter.new.state in
    let here : body ≡ inside = state_as body inside.context inside.sight inside.spot c.in_ok-number.ensures.context c.in_ok-number.ensures.sight c.in_ok-number.ensures.spot in
    let last : State = c.check.new.state in
    let checked : IsChecked (ChecksIn known inside c.args.body.now c.args.against.now) inside last (length (term_nodes c.args.body.now)) = checked_from (λ x. ChecksIn known x c.args.body.now c.args.against.now) body inside last (length (term_nodes c.args.body.now)) here c.in_ok-check.ensures.ok in
    left_room found_at.sight last.sight (Some n) checked.sight

pub checking::check_unsigned-returns-clause-ok : goal.checking::check_unsigned-returns-clause-ok
checking::check_unsigned-returns-clause-ok g t c =
    let known : Known = g.K.TargetTypes.known c.args.known.now in
    let old : State = c.args.state.now in
    let none : uses 0 c.args.bound.now ≡ false = sym c.uses.ensures ∙ c.if-uses.false in
    let mid : State = record { context = old.context; sight = old.sight; spot = c.advance.new.spot } in
    let at : mid ≡ ahead 1 old = state_as mid old.context old.sight (passed old.spot 1) refl refl c.advance.ensures in
    let s : Open = c.in_ok-of.of in
    let found_at : State = c.synthesize_unbound.new.state in
    let found : IsFound (SynthesizesIn known (unused (ahead 1 old)) c.args.bound.now) (ahead 1 old) found_at (length (term_nodes c.args.bound.now)) s =
    subst (λ (x : State). IsFound (SynthesizesIn known (unused x) c.args.bound.now) x found_at (length (term_nodes c.args.bound.now)) s) at c.in_ok-of.ensures.ok in
    let n : ℕ = c.in_ok-number.number in
    let fresh : n ≡ fresh_number found_at.context = c.in_ok-number.ensures.number in
    let inside : State = entered n s found_at in
    let body : State = c.enter.new.state in
    let here : body ≡ inside = state_as body inside.context inside.sight inside.spot c.in_ok-number.ensures.context c.in_ok-number.ensures.sight c.in_ok-number.ensures.spot in
    let last : State = c.check.new.state in
    let checked : IsChecked (ChecksIn known inside c.args.body.now c.args.against.now) inside last (length (term_nodes c.args.body.now)) = checked_from (λ x. ChecksIn known x c.args.body.now c.args.against.now) body inside last (length (term_nodes c.args.body.now)) here c.in_ok-check.ensures.ok in
    unsigned_done known old c.args.bound.now c.args.body.now c.args.against.now c.requires.asked c.requires.typed none found_at s found n fresh last c.leave.new.state checked (record { context = c.in_ok-leave.ensures.context; sight = c.in_ok-leave.ensures.sight; spot = c.in_ok-leave.ensures.spot })

pub checking::synthesize_unbound-synthesize-requires : goal.checking::synthesize_unbound-synthesize-requires
checking::synthesize_unbound-synthesize-requires g t c κs lives =
    let known : Known = g.K.TargetTypes.known c.args.known.now in
    let old : State = c.args.state.now in
    let mid : State = record { context = old.context; sight = c.bind.new.self; spot = old.spot } in
    let at : mid ≡ unused old = state_as mid old.context (under None old.sight) old.spot refl c.in_ok-bind.ensures.ok refl in
    (omega arith, (search rules, subst (λ (x : State). IsAsked known x 0 c.args.bound.now) (sym at) c.requires.asked))

pub checking::synthesize_unbound-returns-in_err-of-clause-err : goal.checking::synthesize_unbound-returns-in_err-of-clause-err
checking::synthesize_unbound-returns-in_err-of-clause-err g t c =
    let known : Known = g.K.TargetTypes.known c.args.known.now in
    let old : State = c.args.state.now in
    let mid : State = record { context = old.context; sight = c.bind.new.self; spot = old.spot } in
    let at : mid ≡ unused old = state_as mid old.context (under None old.sight) old.spot refl c.in_ok-bind.ensures.ok refl in
    let p = err_from_is_err_and c.from_residual-in_err-of.result c.from_residual-in_err-of.ensures.1 in
    rw (p.1, p.2) (subst (λ (x : State). IsStopped x.spot.member (λ stop. SynthesizesIn known x c.args.bound.now (gives_none stop)) c.in_err-of.field-0.0) at c.in_err-of.ensures.err)

pub checking::synthesize_unbound-leave-requires : goal.checking::synthesize_unbound-leave-requires
checking::synthesize_unbound-leave-requires g t c =
    let known : Known = g.K.TargetTypes.known c.args.known.now in
    let old : State = c.args.state.now in
    let mid : State = record { context = old.context; sight = c.bind.new.self; spot = old.spot } in
    let at : mid ≡ unused old = state_as mid old.context (under None old.sight) old.spot refl c.in_ok-bind.ensures.ok refl in
    let found_at : State = c.synthesize.new.state in
    let k : ℕ = length (term_nodes c.args.bound.now) in
    let found : IsFound (SynthesizesIn known (unused old) c.args.bound.now) (unused old) found_at k c.in_ok-of.of = subst (λ (x : State). IsFound (SynthesizesIn known x c.args.bound.now) x found_at k c.in_ok-of.of) at c.in_ok-of.ensures.ok in
    let depth : c.depth-depth.result ≡ length old.sight.variables = c.depth-depth.ensures in
    let within = unbound_depth known old found_at c.args.bound.now k c.in_ok-of.of found in
    omega (arith, depth, within)

pub checking::synthesize_unbound-returns-clause-ok : goal.checking::synthesize_unbound-returns-clause-ok
checking::synthesize_unbound-returns-clause-ok g t c =
    let known : Known = g.K.TargetTypes.known c.args.known.now in
    let old : State = c.args.state.now in
    let mid : State = record { context = old.context; sight = c.bind.new.self; spot = old.spot } in
    let at : mid ≡ unused old = state_as mid old.context (under None old.sight) old.spot refl c.in_ok-bind.ensures.ok refl in
    let found_at : State = c.synthesize.new.state in
    let k : ℕ = length (term_nodes c.args.bound.now) in
    let found : IsFound (SynthesizesIn known (unused old) c.args.bound.now) (unused old) found_at k c.in_ok-of.of = subst (λ (x : State). IsFound (SynthesizesIn known x c.args.bound.now) x found_at k c.in_ok-of.of) at c.in_ok-of.ensures.ok in
    let depth : c.depth-depth.result ≡ length old.sight.variables = c.depth-depth.ensures in
    unbound_found known old found_at c.args.bound.now k c.in_ok-of.of found (record { context = found_at.context; sight = c.leave.new.self; spot = found_at.spot }) refl
    (c.leave.ensures ∙ ap (λ (d : ℕ). with_variables (drop (length found_at.sight.variables - d) found_at.sight.variables) found_at.sight) depth) refl

pub checking::check_match-advance-requires : goal.checking::check_match-advance-requires
checking::check_match-advance-requires g t c =
    let known : Known = g.K.TargetTypes.known c.args.known.now in
    let old : State = c.args.state.now in
    match_room known old c.args.subject.now (cases_of c.args.cases.now) c.args.against.now c.requires.asked c.requires.typed

pub checking::check_match-synthesize-requires : goal.checking::check_match-synthesize-requires
checking::check_match-synthesize-requires g t c κs lives =
    let known : Known = g.K.TargetTypes.known c.args.known.now in
    let old : State = c.args.state.now in
    let mid : State = record { context = old.context; sight = old.sight; spot = c.advance.new.spot } in
    let at : mid ≡ ahead 1 old = state_as mid old.context old.sight (passed old.spot 1) refl refl c.advance.ensures in
    (omega arith, (search rules, subst (λ (x : State). IsAsked known x 0 c.args.subject.now) (sym at) (subject_asked known old c.args.subject.now (cases_of c.args.cases.now) c.args.against.now c.requires.asked c.requires.typed)))

pub checking::check_match-returns-in_err-found-clause-err : goal.checking::check_match-returns-in_err-found-clause-err
checking::check_match-returns-in_err-found-clause-err g t c =
    let known : Known = g.K.TargetTypes.known c.args.known.now in
    let old : State = c.args.state.now in
    let mid : State = record { context = old.context; sight = old.sight; spot = c.advance.new.spot } in
    let at : mid ≡ ahead 1 old = state_as mid old.context old.sight (passed old.spot 1) refl refl c.advance.ensures in
    let p = err_from_is_err_and c.from_residual.result c.from_residual.ensures.1 in
    rw (p.1, p.2) (subject_stopped known old c.args.subject.now (cases_of c.args.cases.now) c.args.against.now c.requires.asked c.requires.typed _ (subst (λ (x : State). IsStopped x.spot.member (λ stop. SynthesizesIn known x c.args.subject.now (gives_none stop)) c.in_err-found.field-0.0) at c.in_err-found.ensures.err))

pub checking::check_match-open_front-requires : goal.checking::check_match-open_front-requires
checking::check_match-open_front-requires g t c =
    let levels = c.in_ok-found.ensures.small.levels in omega (arith, levels)

pub checking::check_match-check_cases-requires : goal.checking::check_match-check_cases-requires
checking::check_match-check_cases-requires g t c κs lives =
    let known : Known = g.K.TargetTypes.known c.args.known.now in
    let old : State = c.args.state.now in
    let mid : State = record { context = old.context; sight = old.sight; spot = c.advance.new.spot } in
    let at : mid ≡ ahead 1 old = state_as mid old.context old.sight (passed old.spot 1) refl refl c.advance.ensures in
    let s : Open = c.in_ok-found.found in
    let found_at : State = c.synthesize.new.state in
    let found : IsFound (SynthesizesIn known (ahead 1 old) c.args.subject.now) (ahead 1 old) found_at (length (term_nodes c.args.subject.now)) s =
    subst (λ (x : State). IsFound (SynthesizesIn known x c.args.subject.now) x found_at (length (term_nodes c.args.subject.now)) s) at c.in_ok-found.ensures.ok in
    let numbers : List ℕ = fresh_numbers (front_count s) found_at.context in
    let inside : State = record { context = found_at.context ++ map (λ n. Exists n) numbers; sight = found_at.sight; spot = found_at.spot } in
    let body : State = record { context = c.open_front.new.context; sight = found_at.sight; spot = found_at.spot } in
    let here : body ≡ inside = state_as body inside.context found_at.sight found_at.spot c.in_ok-matched.ensures.context refl refl in
    let u : Open = c.in_ok-matched.matched in
    let is : u ≡ behind_front (existentials numbers) s = c.in_ok-matched.ensures.ok in (
      omega arith,
      (
        search rules,
        (
          subst (λ (x : State). AreAskedCases known x (cases_of c.args.cases.now)) (sym here) (cases_asked known old c.args.subject.now (cases_of c.args.cases.now) c.args.against.now c.requires.asked c.requires.typed found_at s found),
          (
            subst (IsTypeIn known.arity body.context 0) (sym is) (subst (λ (x : State). IsTypeIn known.arity x.context 0 (behind_front (existentials numbers) s)) (sym here) (matched_typed known old c.args.subject.now (cases_of c.args.cases.now) c.args.against.now c.requires.asked c.requires.typed found_at s found)),
            subst (λ (x : State). IsTypeIn known.arity x.context 0 c.args.against.now) (sym here) (match_typed known old c.args.subject.now (cases_of c.args.cases.now) c.args.against.now c.requires.asked c.requires.typed found_at s found),
          ),
        ),
      ),
    )

pub checking::check_match-returns-in_err-check_cases-clause-err : goal.checking::check_match-returns-in_err-check_cases-clause-err
checking::check_match-returns-in_err-check_cases-clause-err g t c =
    let known : Known = g.K.TargetTypes.known c.args.known.now in
    let old : State = c.args.state.now in
    let mid : State = record { context = old.context; sight = old.sight; spot = c.advance.new.spot } in
    let at : mid ≡ ahead 1 old = state_as mid old.context old.sight (passed old.spot 1) refl refl c.advance.ensures in
    let s : Open = c.in_ok-found.found in
    let found_at : State = c.synthesize.new.state in
    let found : IsFound (SynthesizesIn known (ahead 1 old) c.args.subject.now) (ahead 1 old) found_at (length (term_nodes c.args.subject.now)) s =
    subst (λ (x : State). IsFound (SynthesizesIn known x c.args.subject.now) x found_at (length (term_nodes c.args.subject.now)) s) at c.in_ok-found.ensures.ok in
    let numbers : List ℕ = fresh_numbers (front_count s) found_at.context in
    let inside : State = record { context = found_at.context ++ map (λ n. Exists n) numbers; sight = found_at.sight; spot = found_at.spot } in
    let body : State = record { context = c.open_front.new.context; sight = found_at.sight; spot = found_at.spot } in
    let here : body ≡ inside = state_as body inside.context found_at.sight found_at.spot c.in_ok-matched.ensures.context refl refl in
    let u : Open = c.in_ok-matched.matched in
    let is : u ≡ behind_front (existentials numbers) s = c.in_ok-matched.ensures.ok in
    let p = err_from_is_err_and c.from_residual-in_err-check_cases.result c.from_residual-in_err-check_cases.ensures.1 in
    rw (p.1, p.2) (match_stopped known old c.args.subject.now (cases_of c.args.cases.now) c.args.against.now c.requires.asked c.requires.typed found_at s found _ (subst (λ (v : Open). IsStopped inside.spot.member (λ stop. ChecksCasesIn known inside (cases_of c.args.cases.now) v c.args.against.now (stops stop)) c.in_err-check_cases.field-0.0) is
    (subst (λ (x : State). IsStopped x.spot.member (λ stop. ChecksCasesIn known x (cases_of c.args.cases.now) u c.args.against.now (stops stop)) c.in_err-check_cases.field-0.0) here c.in_err-check_cases.ensures.err)))

pub checking::check_match-returns-clause-ok : goal.checking::check_match-returns-clause-ok
checking::check_match-returns-clause-ok g t c =
    let known : Known = g.K.TargetTypes.known c.args.known.now in
    let old : State = c.args.state.now in
    let mid : State = record { context = old.context; sight = old.sight; spot = c.advance.new.spot } in
    let at : mid ≡ ahead 1 old = state_as mid old.context old.sight (passed old.spot 1) refl refl c.advance.ensures in
    let s : Open = c.in_ok-found.found in
    let found_at : State = c.synthesize.new.state in
    let found : IsFound (SynthesizesIn known (ahead 1 old) c.args.subject.now) (ahead 1 old) found_at (length (term_nodes c.args.subject.now)) s =
    subst (λ (x : State). IsFound (SynthesizesIn known x c.args.subject.now) x found_at (length (term_nodes c.args.subject.now)) s) at c.in_ok-found.ensures.ok in
    let numbers : List ℕ = fresh_numbers (front_count s) found_at.context in
    let inside : State = record { context = found_at.context ++ map (λ n. Exists n) numbers; sight = found_at.sight; spot = found_at.spot } in
    let body : State = record { context = c.open_front.new.context; sight = found_at.sight; spot = found_at.spot } in
    let here : body ≡ inside = state_as body inside.context found_at.sight found_at.spot c.in_ok-matched.ensures.context refl refl in
    let u : Open = c.in_ok-matched.matched in
    let is : u ≡ behind_front (existentials numbers) s = c.in_ok-matched.ensures.ok in
    let new : State = c.check_cases.new.state in
    let k : ℕ = length (cases_nodes (cases_of c.args.cases.now)) in
    match_done known old c.args.subject.now (cases_of c.args.cases.now) c.args.against.now c.requires.asked c.requires.typed found_at s found new (subst (λ (v : Open). IsChecked (ChecksCasesIn known inside (cases_of c.args.cases.now) v c.args.against.now) inside new k) is (checked_from (λ x. ChecksCasesIn known x (cases_of c.args.cases.now) u c.args.against.now) body inside new k here c.in_ok-check_cases.ensures.ok))

pub checking::meet-returns-then-not-is_small-clause-err : goal.checking::meet-returns-then-not-is_small-clause-err
checking::meet-returns-then-not-is_small-clause-err g t c =
    let known : Known = g.K.TargetTypes.known c.args.known.now in
    let old : State = c.args.state.now in
    let is : c.args.signature.now ≡ quantified c.in-Forall.body.value = sym c.signature.view_is ∙ ap open_of c.in-Forall.is in
    subst (λ (v : Open). IsStopped old.spot.member (λ stop. MeetsIn known old c.args.term.now v (stops stop)) (fault_at old.spot.member (too_large old.spot.node))) (sym is)
    (signature_large known old c.args.term.now c.in-Forall.body.value (fault_at old.spot.member (too_large old.spot.node)) (λ small. false≢true (sym c.if-not-is_small.true ∙ c.is_small.ensures.1 (subst IsSmall (sym is) small))) refl)

pub checking::meet-meet_quantified-requires : goal.checking::meet-meet_quantified-requires
checking::meet-meet_quantified-requires g t c κs lives =
    let known : Known = g.K.TargetTypes.known c.args.known.now in
    let old : State = c.args.state.now in
    let is : c.args.signature.now ≡ quantified c.deref.result.now = sym c.signature.view_is ∙ ap open_of c.in-Forall.is ∙ ap quantified (sym c.deref.ensures) in
    let small : IsSmall c.args.signature.now = c.is_small.ensures.0 c.if-not-is_small.false in
    let front : front_count c.args.signature.now ≡ front_count (quantified c.deref.result.now) = ap front_count is in
    let within : front_count c.args.signature.now < 512 = front_small c.args.signature.now small in (omega (arith, front, within), (search rules, (subst (λ (v : Open). IsAsked known old (front_count v) c.args.term.now) is c.requires.asked, (subst (IsTypeIn known.arity old.context 0) is c.requires.typed, subst IsSmall is small))))

pub checking::meet-returns-in-Forall-clause-ok : goal.checking::meet-returns-in-Forall-clause-ok
checking::meet-returns-in-Forall-clause-ok g t c =
    let known : Known = g.K.TargetTypes.known c.args.known.now in
    let old : State = c.args.state.now in
    let is : c.args.signature.now ≡ quantified c.deref.result.now = sym c.signature.view_is ∙ ap open_of c.in-Forall.is ∙ ap quantified (sym c.deref.ensures) in
    on_ok_weaker c.meet_quantified.result (λ k. subst (λ (v : Open). IsChecked (MeetsIn known old c.args.term.now v) old c.meet_quantified.new.state (length (term_nodes c.args.term.now))) (sym is) k) c.meet_quantified.ensures.ok

pub checking::meet-returns-in-Forall-clause-err : goal.checking::meet-returns-in-Forall-clause-err
checking::meet-returns-in-Forall-clause-err g t c =
    let known : Known = g.K.TargetTypes.known c.args.known.now in
    let old : State = c.args.state.now in
    let is : c.args.signature.now ≡ quantified c.deref.result.now = sym c.signature.view_is ∙ ap open_of c.in-Forall.is ∙ ap quantified (sym c.deref.ensures) in
    subst (λ (v : Open). IfErr c.meet_quantified.result (IsStopped old.spot.member (λ stop. MeetsIn known old c.args.term.now v (stops stop)))) (sym is) c.meet_quantified.ensures.err

pub checking::meet-check-requires : goal.checking::meet-check-requires
checking::meet-check-requires g t c κs lives =
    let known : Known = g.K.TargetTypes.known c.args.known.now in
    let old : State = c.args.state.now in
    let plain : is_quantified c.args.signature.now ≡ false = node_plain c.signature.inside.node c.args.signature.now c.signature.view_is c.in_default.not-Forall in
    (omega arith, (search rules, (rest_asked known old c.args.term.now c.args.signature.now plain c.requires.asked, c.requires.typed)))

pub checking::meet-returns-in_err-met-clause-err : goal.checking::meet-returns-in_err-met-clause-err
checking::meet-returns-in_err-met-clause-err g t c =
    let known : Known = g.K.TargetTypes.known c.args.known.now in
    let old : State = c.args.state.now in
    let plain : is_quantified c.args.signature.now ≡ false = node_plain c.signature.inside.node c.args.signature.now c.signature.view_is c.in_default.not-Forall in
    let p = err_from_is_err_and c.from_residual.result c.from_residual.ensures.1 in
    rw (p.1, p.2) (rest_stopped known old c.args.term.now c.args.signature.now plain _ c.in_err-met.ensures.err)

pub checking::meet-returns-clause-ok : goal.checking::meet-returns-clause-ok
checking::meet-returns-clause-ok g t c =
    let known : Known = g.K.TargetTypes.known c.args.known.now in
    let old : State = c.args.state.now in
    let plain : is_quantified c.args.signature.now ≡ false = node_plain c.signature.inside.node c.args.signature.now c.signature.view_is c.in_default.not-Forall in
    rest_done known old c.args.term.now c.args.signature.now plain c.check.new.state (length (term_nodes c.args.term.now)) c.in_ok-met.ensures.ok

pub checking::meet_quantified-push-requires : goal.checking::meet_quantified-push-requires
checking::meet_quantified-push-requires g t c =
    let known : Known = g.K.TargetTypes.known c.args.known.now in
    let old : State = c.args.state.now in
    let n : ℕ = c.fresh-number.result in
    no_variable old.context n (fresh_unused old.context n c.fresh-number.ensures.number)

pub checking::meet_quantified-opened-requires : goal.checking::meet_quantified-opened-requires
checking::meet_quantified-opened-requires g t c =
    let levels = c.requires.small.levels in omega (arith, levels)

pub checking::meet_quantified-meet-requires : goal.checking::meet_quantified-meet-requires
checking::meet_quantified-meet-requires g t c κs lives =
    let known : Known = g.K.TargetTypes.known c.args.known.now in
    let old : State = c.args.state.now in
    let n : ℕ = c.fresh-number.result in
    let fresh : n ≡ fresh_number old.context = c.fresh-number.ensures.number in
    let u : Open = c.in_ok-opened.opened in
    let is : u ≡ opened_at 0 (rigid n) c.args.body.now = c.in_ok-opened.ensures ∙ ap (λ (v : Open). opened_at 0 v c.args.body.now) c.rigid.ensures in
    let inside : State = showing n old in
    let mid : State = record { context = c.push.new.self; sight = c.show.new.self; spot = old.spot } in
    let at : mid ≡ inside = state_as mid inside.context inside.sight old.spot c.in_ok-push.ensures.ok c.in_ok-show.ensures.ok refl in
    let front : front_count u ≡ front_count c.args.body.now = opened_front known old n c.args.term.now c.args.body.now u fresh is in (
      omega (arith, front),
      (
        search rules,
        (
          subst (λ (x : State). IsAsked known x (front_count u) c.args.term.now) (sym at) (shown_asked known old n c.args.term.now c.args.body.now u fresh is c.requires.asked),
          subst (λ (x : State). IsTypeIn known.arity x.context 0 u) (sym at) (shown_typed known old n c.args.term.now c.args.body.now u fresh is c.requires.typed),
        ),
      ),
    )

pub checking::meet_quantified-returns-in_err-meet-clause-err : goal.checking::meet_quantified-returns-in_err-meet-clause-err
checking::meet_quantified-returns-in_err-meet-clause-err g t c =
    let known : Known = g.K.TargetTypes.known c.args.known.now in
    let old : State = c.args.state.now in
    let n : ℕ = c.fresh-number.result in
    let fresh : n ≡ fresh_number old.context = c.fresh-number.ensures.number in
    let u : Open = c.in_ok-opened.opened in
    let is : u ≡ opened_at 0 (rigid n) c.args.body.now = c.in_ok-opened.ensures ∙ ap (λ (v : Open). opened_at 0 v c.args.body.now) c.rigid.ensures in
    let inside : State = showing n old in
    let mid : State = record { context = c.push.new.self; sight = c.show.new.self; spot = old.spot } in
    let at : mid ≡ inside = state_as mid inside.context inside.sight old.spot c.in_ok-push.ensures.ok c.in_ok-show.ensures.ok refl in
    let p = err_from_is_err_and c.from_residual-in_err-meet.result c.from_residual-in_err-meet.ensures.1 in
    rw (p.1, p.2) (shown_stopped known old n c.args.term.now c.args.body.now u fresh is c.requires.small _ (subst (λ (x : State). IsStopped x.spot.member (λ stop. MeetsIn known x c.args.term.now u (stops stop)) c.in_err-meet.field-0.0) at c.in_err-meet.ensures.err))

pub checking::meet_quantified-hide-requires : goal.checking::meet_quantified-hide-requires
checking::meet_quantified-hide-requires g t c =
    let known : Known = g.K.TargetTypes.known c.args.known.now in
    let old : State = c.args.state.now in
    let n : ℕ = c.fresh-number.result in
    let fresh : n ≡ fresh_number old.context = c.fresh-number.ensures.number in
    let u : Open = c.in_ok-opened.opened in
    let is : u ≡ opened_at 0 (rigid n) c.args.body.now = c.in_ok-opened.ensures ∙ ap (λ (v : Open). opened_at 0 v c.args.body.now) c.rigid.ensures in
    let inside : State = showing n old in
    let mid : State = record { context = c.push.new.self; sight = c.show.new.self; spot = old.spot } in
    let at : mid ≡ inside = state_as mid inside.context inside.sight old.spot c.in_ok-push.ensures.ok c.in_ok-show.ensures.ok refl in
    let last : State = c.meet.new.state in
    let k : ℕ = length (term_nodes c.args.term.now) in
    let met : IsChecked (MeetsIn known inside c.args.term.now u) inside last k = checked_from (λ x. MeetsIn known x c.args.term.now u) mid inside last k at c.in_ok-meet.ensures.ok in
    hidden_room known old n c.args.term.now c.args.body.now u fresh is last met.sight

pub checking::meet_quantified-returns-clause-ok : goal.checking::meet_quantified-returns-clause-ok
checking::meet_quantified-returns-clause-ok g t c =
    let known : Known = g.K.TargetTypes.known c.args.known.now in
    let old : State = c.args.state.now in
    let n : ℕ = c.fresh-number.result in
    let fresh : n ≡ fresh_number old.context = c.fresh-number.ensures.number in
    let u : Open = c.in_ok-opened.opened in
    let is : u ≡ opened_at 0 (rigid n) c.args.body.now = c.in_ok-opened.ensures ∙ ap (λ (v : Open). opened_at 0 v c.args.body.now) c.rigid.ensures in
    let inside : State = showing n old in
    let mid : State = record { context = c.push.new.self; sight = c.show.new.self; spot = old.spot } in
    let at : mid ≡ inside = state_as mid inside.context inside.sight old.spot c.in_ok-push.ensures.ok c.in_ok-show.ensures.ok refl in
    let last : State = c.meet.new.state in
    let k : ℕ = length (term_nodes c.args.term.now) in
    let met : IsChecked (MeetsIn known inside c.args.term.now u) inside last k = checked_from (λ x. MeetsIn known x c.args.term.now u) mid inside last k at c.in_ok-meet.ensures.ok in
    shown_done known old n c.args.term.now c.args.body.now u fresh is c.requires.small last (record { context = c.drop_from.new.self; sight = c.hide.new.self; spot = last.spot }) k met c.drop_from.ensures c.hide.ensures refl

pub lists::check_each-loop-at-init : goal.lists::check_each-loop-at-init
lists::check_each-loop-at-init g t c =
    let known : Known = g.K.TargetTypes.known c.args.known.now in
    let old : State = c.args.state.now in
    let judged : TermOutcome → Type 0 = λ o. ChecksAllIn known old (terms_of c.args.terms.now) (opens_of c.args.types.now) o in
    let nodes : ℕ = length (terms_nodes (terms_of c.args.terms.now)) in
    terms_as known judged old nodes old old (terms_of c.args.terms.now) (terms_left c.args.terms.now 0) (opens_of c.args.types.now) (types_left c.args.types.now 0) refl (terms_left-all c.args.terms.now) (types_left-all c.args.types.now) (terms_start known old (terms_of c.args.terms.now) (opens_of c.args.types.now) c.requires.asked c.requires.typed)

pub lists::check_each-check-requires : goal.lists::check_each-check-requires
lists::check_each-check-requires g t c κs lives =
    let known : Known = g.K.TargetTypes.known c.args.known.now in
    let old : State = c.args.state.now in
    let judged : TermOutcome → Type 0 = λ o. ChecksAllIn known old (terms_of c.args.terms.now) (opens_of c.args.types.now) o in
    let nodes : ℕ = length (terms_nodes (terms_of c.args.terms.now)) in
    let now : State = c.loop-at.state in
    let at : ℕ = c.loop-at.at in
    let e : Term = c.index-terms-at.result in
    let u : Open = c.index-types-at.result in
    let within : at < length c.args.terms.now = c.loop-at-test.true in
    let within_types : at < length c.args.types.now = let many = c.requires.as_many in omega (arith, within, many) in
    let h : PendingTerms known judged old now nodes (terms.more e (terms_left c.args.terms.now (at + 1))) (more u (types_left c.args.types.now (at + 1))) =
    terms_as known judged old nodes now now (terms_left c.args.terms.now at) (terms.more e (terms_left c.args.terms.now (at + 1))) (types_left c.args.types.now at) (more u (types_left c.args.types.now (at + 1))) refl
    (terms_left-more c.args.terms.now at e within c.index-terms-at.is) (types_left-more c.args.types.now at u within_types c.index-types-at.is) c.loop-at.invariant in
    let smaller = term_smaller c.args.terms.now at e within c.index-terms-at.is in
    (omega (arith, smaller), (search rules, (term_asked known judged old nodes now e (terms_left c.args.terms.now (at + 1)) u (types_left c.args.types.now (at + 1)) h, term_typed known judged old nodes now e (terms_left c.args.terms.now (at + 1)) u (types_left c.args.types.now (at + 1)) h)))

pub lists::check_each-returns-in_err-check-clause-err : goal.lists::check_each-returns-in_err-check-clause-err
lists::check_each-returns-in_err-check-clause-err g t c =
    let known : Known = g.K.TargetTypes.known c.args.known.now in
    let old : State = c.args.state.now in
    let judged : TermOutcome → Type 0 = λ o. ChecksAllIn known old (terms_of c.args.terms.now) (opens_of c.args.types.now) o in
    let nodes : ℕ = length (terms_nodes (terms_of c.args.terms.now)) in
    let now : State = c.loop-at.state in
    let at : ℕ = c.loop-at.at in
    let e : Term = c.index-terms-at.result in
    let u : Open = c.index-types-at.result in
    let within : at < length c.args.terms.now = c.loop-at-test.true in
    let within_types : at < length c.args.types.now = let many = c.requires.as_many in omega (arith, within, many) in
    let h : PendingTerms known judged old now nodes (terms.more e (terms_left c.args.terms.now (at + 1))) (more u (types_left c.args.types.now (at + 1))) =
    terms_as known judged old nodes now now (terms_left c.args.terms.now at) (terms.more e (terms_left c.args.terms.now (at + 1))) (types_left c.args.types.now at) (more u (types_left c.args.types.now (at + 1))) refl
    (terms_left-more c.args.terms.now at e within c.index-terms-at.is) (types_left-more c.args.types.now at u within_types c.index-types-at.is) c.loop-at.invariant in
    let p = err_from_is_err_and c.from_residual.result c.from_residual.ensures.1 in
    rw (p.1, p.2) (term_stopped known judged old nodes now e (terms_left c.args.terms.now (at + 1)) u (types_left c.args.types.now (at + 1)) h _ c.in_err-check.ensures.err)

pub lists::check_each-loop-at-preserved : goal.lists::check_each-loop-at-preserved
lists::check_each-loop-at-preserved g t c =
    let known : Known = g.K.TargetTypes.known c.args.known.now in
    let old : State = c.args.state.now in
    let judged : TermOutcome → Type 0 = λ o. ChecksAllIn known old (terms_of c.args.terms.now) (opens_of c.args.types.now) o in
    let nodes : ℕ = length (terms_nodes (terms_of c.args.terms.now)) in
    let now : State = c.loop-at.state in
    let at : ℕ = c.loop-at.at in
    let e : Term = c.index-terms-at.result in
    let u : Open = c.index-types-at.result in
    let within : at < length c.args.terms.now = c.loop-at-test.true in
    let within_types : at < length c.args.types.now = let many = c.requires.as_many in omega (arith, within, many) in
    let h : PendingTerms known judged old now nodes (terms.more e (terms_left c.args.terms.now (at + 1))) (more u (types_left c.args.types.now (at + 1))) =
    terms_as known judged old nodes now now (terms_left c.args.terms.now at) (terms.more e (terms_left c.args.terms.now (at + 1))) (types_left c.args.types.now at) (more u (types_left c.args.types.now (at + 1))) refl
    (terms_left-more c.args.terms.now at e within c.index-terms-at.is) (types_left-more c.args.types.now at u within_types c.index-types-at.is) c.loop-at.invariant in
    terms_next known judged old nodes now e (terms_left c.args.terms.now (at + 1)) u (types_left c.args.types.now (at + 1)) h c.check.new.state c.in_ok-check.ensures.ok

pub lists::check_each-returns-clause-ok : goal.lists::check_each-returns-clause-ok
lists::check_each-returns-clause-ok g t c =
    let known : Known = g.K.TargetTypes.known c.args.known.now in
    let old : State = c.args.state.now in
    let judged : TermOutcome → Type 0 = λ o. ChecksAllIn known old (terms_of c.args.terms.now) (opens_of c.args.types.now) o in
    let nodes : ℕ = length (terms_nodes (terms_of c.args.terms.now)) in
    let now : State = c.loop-at.state in
    let at : ℕ = c.loop-at.at in
    let past : length c.args.terms.now ≤ at = c.loop-at-test.false in
    let past_types : length c.args.types.now ≤ at = let many = c.requires.as_many in omega (arith, past, many) in
    terms_done known judged old nodes now
    (terms_as known judged old nodes now now (terms_left c.args.terms.now at) terms.none (types_left c.args.types.now at) none refl (terms_left-none c.args.terms.now at past) (types_left-none c.args.types.now at past_types) c.loop-at.invariant)

pub lists::check_all_against-loop-term-init : goal.lists::check_all_against-loop-term-init
lists::check_all_against-loop-term-init g t c =
    let known : Known = g.K.TargetTypes.known c.args.known.now in
    let old : State = c.args.state.now in
    let judged : TermOutcome → Type 0 = λ o. ChecksAllIn known old (terms_of c.args.terms.now) (repeated (length c.args.terms.now) c.args.against.now) o in
    let nodes : ℕ = length (terms_nodes (terms_of c.args.terms.now)) in
    let whole : length c.args.terms.now ≡ length c.args.terms.now - 0 = omega arith in
    terms_as known judged old nodes old old (terms_of c.args.terms.now) (terms_left c.args.terms.now 0) (repeated (length c.args.terms.now) c.args.against.now) (repeated (length c.args.terms.now - 0) c.args.against.now) refl (terms_left-all c.args.terms.now) (ap (λ (k : ℕ). repeated k c.args.against.now) whole)
    (terms_start known old (terms_of c.args.terms.now) (repeated (length c.args.terms.now) c.args.against.now) c.requires.asked (repeated_types known.arity old.context (length c.args.terms.now) c.args.against.now c.requires.typed))

pub lists::check_all_against-check-requires : goal.lists::check_all_against-check-requires
lists::check_all_against-check-requires g t c κs lives =
    let known : Known = g.K.TargetTypes.known c.args.known.now in
    let old : State = c.args.state.now in
    let judged : TermOutcome → Type 0 = λ o. ChecksAllIn known old (terms_of c.args.terms.now) (repeated (length c.args.terms.now) c.args.against.now) o in
    let nodes : ℕ = length (terms_nodes (terms_of c.args.terms.now)) in
    let now : State = c.loop-term.state in
    let at : ℕ = c.loop-term.term-index in
    let e : Term = c.term-item.result in
    let within : at < length c.args.terms.now = c.loop-term-test.true in
    let h : PendingTerms known judged old now nodes (terms.more e (terms_left c.args.terms.now (at + 1))) (more c.args.against.now (repeated (length c.args.terms.now - (at + 1)) c.args.against.now)) =
    terms_as known judged old nodes now now (terms_left c.args.terms.now at) (terms.more e (terms_left c.args.terms.now (at + 1))) (repeated (length c.args.terms.now - at) c.args.against.now) (more c.args.against.now (repeated (length c.args.terms.now - (at + 1)) c.args.against.now)) refl
    (terms_left-more c.args.terms.now at e within c.term-item.is) (repeated_more (length c.args.terms.now) at c.args.against.now within) c.loop-term.invariant in
    let smaller = term_smaller c.args.terms.now at e within c.term-item.is in
    (omega (arith, smaller), (search rules, (term_asked known judged old nodes now e (terms_left c.args.terms.now (at + 1)) c.args.against.now (repeated (length c.args.terms.now - (at + 1)) c.args.against.now) h, term_typed known judged old nodes now e (terms_left c.args.terms.now (at + 1)) c.args.against.now (repeated (length c.args.terms.now - (at + 1)) c.args.against.now) h)))

pub lists::check_all_against-returns-in_err-check-clause-err : goal.lists::check_all_against-returns-in_err-check-clause-err
lists::check_all_against-returns-in_err-check-clause-err g t c =
    let known : Known = g.K.TargetTypes.known c.args.known.now in
    let old : State = c.args.state.now in
    let judged : TermOutcome → Type 0 = λ o. ChecksAllIn known old (terms_of c.args.terms.now) (repeated (length c.args.terms.now) c.args.against.now) o in
    let nodes : ℕ = length (terms_nodes (terms_of c.args.terms.now)) in
    let now : State = c.loop-term.state in
    let at : ℕ = c.loop-term.term-index in
    let e : Term = c.term-item.result in
    let within : at < length c.args.terms.now = c.loop-term-test.true in
    let h : PendingTerms known judged old now nodes (terms.more e (terms_left c.args.terms.now (at + 1))) (more c.args.against.now (repeated (length c.args.terms.now - (at + 1)) c.args.against.now)) =
    terms_as known judged old nodes now now (terms_left c.args.terms.now at) (terms.more e (terms_left c.args.terms.now (at + 1))) (repeated (length c.args.terms.now - at) c.args.against.now) (more c.args.against.now (repeated (length c.args.terms.now - (at + 1)) c.args.against.now)) refl
    (terms_left-more c.args.terms.now at e within c.term-item.is) (repeated_more (length c.args.terms.now) at c.args.against.now within) c.loop-term.invariant in
    let p = err_from_is_err_and c.from_residual.result c.from_residual.ensures.1 in
    rw (p.1, p.2) (term_stopped known judged old nodes now e (terms_left c.args.terms.now (at + 1)) c.args.against.now (repeated (length c.args.terms.now - (at + 1)) c.args.against.now) h _ c.in_err-check.ensures.err)

pub lists::check_all_against-loop-term-preserved : goal.lists::check_all_against-loop-term-preserved
lists::check_all_against-loop-term-preserved g t c =
    let known : Known = g.K.TargetTypes.known c.args.known.now in
    let old : State = c.args.state.now in
    let judged : TermOutcome → Type 0 = λ o. ChecksAllIn known old (terms_of c.args.terms.now) (repeated (length c.args.terms.now) c.args.against.now) o in
    let nodes : ℕ = length (terms_nodes (terms_of c.args.terms.now)) in
    let now : State = c.loop-term.state in
    let at : ℕ = c.loop-term.term-index in
    let e : Term = c.term-item.result in
    let within : at < length c.args.terms.now = c.loop-term-test.true in
    let h : PendingTerms known judged old now nodes (terms.more e (terms_left c.args.terms.now (at + 1))) (more c.args.against.now (repeated (length c.args.terms.now - (at + 1)) c.args.against.now)) =
    terms_as known judged old nodes now now (terms_left c.args.terms.now at) (terms.more e (terms_left c.args.terms.now (at + 1))) (repeated (length c.args.terms.now - at) c.args.against.now) (more c.args.against.now (repeated (length c.args.terms.now - (at + 1)) c.args.against.now)) refl
    (terms_left-more c.args.terms.now at e within c.term-item.is) (repeated_more (length c.args.terms.now) at c.args.against.now within) c.loop-term.invariant in
    terms_next known judged old nodes now e (terms_left c.args.terms.now (at + 1)) c.args.against.now (repeated (length c.args.terms.now - (at + 1)) c.args.against.now) h c.check.new.state c.in_ok-check.ensures.ok

pub lists::check_all_against-returns-clause-ok : goal.lists::check_all_against-returns-clause-ok
lists::check_all_against-returns-clause-ok g t c =
    let known : Known = g.K.TargetTypes.known c.args.known.now in
    let old : State = c.args.state.now in
    let judged : TermOutcome → Type 0 = λ o. ChecksAllIn known old (terms_of c.args.terms.now) (repeated (length c.args.terms.now) c.args.against.now) o in
    let nodes : ℕ = length (terms_nodes (terms_of c.args.terms.now)) in
    let now : State = c.loop-term.state in
    let at : ℕ = c.loop-term.term-index in
    let past : length c.args.terms.now ≤ at = c.loop-term-test.false in
    terms_done known judged old nodes now
    (terms_as known judged old nodes now now (terms_left c.args.terms.now at) terms.none (repeated (length c.args.terms.now - at) c.args.against.now) none refl (terms_left-none c.args.terms.now at past) (repeated_none (length c.args.terms.now) at c.args.against.now past) c.loop-term.invariant)

pub cases::check_cases-loop-case-init : goal.cases::check_cases-loop-case-init
cases::check_cases-loop-case-init g t c =
    let known : Known = g.K.TargetTypes.known c.args.known.now in
    let old : State = c.args.state.now in
    let judged : TermOutcome → Type 0 = λ o. ChecksCasesIn known old (cases_of c.args.cases.now) c.args.matched.now c.args.against.now o in
    let nodes : ℕ = length (cases_nodes (cases_of c.args.cases.now)) in
    cases_as known c.args.matched.now c.args.against.now judged old nodes old old (cases_of c.args.cases.now) (cases_left c.args.cases.now 0) refl (cases_left-all c.args.cases.now) (cases_start known c.args.matched.now c.args.against.now old (cases_of c.args.cases.now) c.requires.asked c.requires.subject c.requires.typed)

pub cases::check_cases-check_case-requires : goal.cases::check_cases-check_case-requires
cases::check_cases-check_case-requires g t c κs lives =
    let known : Known = g.K.TargetTypes.known c.args.known.now in
    let old : State = c.args.state.now in
    let judged : TermOutcome → Type 0 = λ o. ChecksCasesIn known old (cases_of c.args.cases.now) c.args.matched.now c.args.against.now o in
    let nodes : ℕ = length (cases_nodes (cases_of c.args.cases.now)) in
    let now : State = c.loop-case.state in
    let at : ℕ = c.loop-case.case-index in
    let x : Case = c.case-item.result in
    let within : at < length c.args.cases.now = c.loop-case-test.true in
    let h : PendingCases known judged old now nodes (case_with x.pattern x.guard x.body (cases_left c.args.cases.now (at + 1))) c.args.matched.now c.args.against.now =
    cases_as known c.args.matched.now c.args.against.now judged old nodes now now (cases_left c.args.cases.now at) (case_with x.pattern x.guard x.body (cases_left c.args.cases.now (at + 1))) refl (cases_left-more c.args.cases.now at x within c.case-item.is) c.loop-case.invariant in
    let smaller = case_smaller c.args.cases.now at x within c.case-item.is in
    (omega (arith, smaller), (search rules, (this_asked known c.args.matched.now c.args.against.now judged old nodes now x.pattern x.guard x.body (cases_left c.args.cases.now (at + 1)) h, (h.subject, h.typed))))

pub cases::check_cases-returns-in_err-check_case-clause-err : goal.cases::check_cases-returns-in_err-check_case-clause-err
cases::check_cases-returns-in_err-check_case-clause-err g t c =
    let known : Known = g.K.TargetTypes.known c.args.known.now in
    let old : State = c.args.state.now in
    let judged : TermOutcome → Type 0 = λ o. ChecksCasesIn known old (cases_of c.args.cases.now) c.args.matched.now c.args.against.now o in
    let nodes : ℕ = length (cases_nodes (cases_of c.args.cases.now)) in
    let now : State = c.loop-case.state in
    let at : ℕ = c.loop-case.case-index in
    let x : Case = c.case-item.result in
    let within : at < length c.args.cases.now = c.loop-case-test.true in
    let h : PendingCases known judged old now nodes (case_with x.pattern x.guard x.body (cases_left c.args.cases.now (at + 1))) c.args.matched.now c.args.against.now =
    cases_as known c.args.matched.now c.args.against.now judged old nodes now now (cases_left c.args.cases.now at) (case_with x.pattern x.guard x.body (cases_left c.args.cases.now (at + 1))) refl (cases_left-more c.args.cases.now at x within c.case-item.is) c.loop-case.invariant in
    let p = err_from_is_err_and c.from_residual.result c.from_residual.ensures.1 in
    rw (p.1, p.2) (this_stopped known c.args.matched.now c.args.against.now judged old nodes now x.pattern x.guard x.body (cases_left c.args.cases.now (at + 1)) h _ c.in_err-check_case.ensures.err)

pub cases::check_cases-loop-case-preserved : goal.cases::check_cases-loop-case-preserved
cases::check_cases-loop-case-preserved g t c =
    let known : Known = g.K.TargetTypes.known c.args.known.now in
    let old : State = c.args.state.now in
    let judged : TermOutcome → Type 0 = λ o. ChecksCasesIn known old (cases_of c.args.cases.now) c.args.matched.now c.args.against.now o in
    let nodes : ℕ = length (cases_nodes (cases_of c.args.cases.now)) in
    let now : State = c.loop-case.state in
    let at : ℕ = c.loop-case.case-index in
    let x : Case = c.case-item.result in
    let within : at < length c.args.cases.now = c.loop-case-test.true in
    let h : PendingCases known judged old now nodes (case_with x.pattern x.guard x.body (cases_left c.args.cases.now (at + 1))) c.args.matched.now c.args.against.now =
    cases_as known c.args.matched.now c.args.against.now judged old nodes now now (cases_left c.args.cases.now at) (case_with x.pattern x.guard x.body (cases_left c.args.cases.now (at + 1))) refl (cases_left-more c.args.cases.now at x within c.case-item.is) c.loop-case.invariant in
    cases_next known c.args.matched.now c.args.against.now judged old nodes now x.pattern x.guard x.body (cases_left c.args.cases.now (at + 1)) h c.check_case.new.state c.in_ok-check_case.ensures.ok

pub cases::check_cases-returns-clause-ok : goal.cases::check_cases-returns-clause-ok
cases::check_cases-returns-clause-ok g t c =
    let known : Known = g.K.TargetTypes.known c.args.known.now in
    let old : State = c.args.state.now in
    let judged : TermOutcome → Type 0 = λ o. ChecksCasesIn known old (cases_of c.args.cases.now) c.args.matched.now c.args.against.now o in
    let nodes : ℕ = length (cases_nodes (cases_of c.args.cases.now)) in
    let now : State = c.loop-case.state in
    let at : ℕ = c.loop-case.case-index in
    cases_done known c.args.matched.now c.args.against.now judged old nodes now
    (cases_as known c.args.matched.now c.args.against.now judged old nodes now now (cases_left c.args.cases.now at) no_case refl (cases_left-none c.args.cases.now at c.loop-case-test.false) c.loop-case.invariant)

pub cases::check_case-match_pattern-requires : goal.cases::check_case-match_pattern-requires
cases::check_case-match_pattern-requires g t c =
    let known : Known = g.K.TargetTypes.known c.args.known.now in
    let old : State = c.args.state.now in
    let n : ℕ = c.fresh-number.result in
    let fresh : n ≡ fresh_number old.context = c.fresh-number.ensures.number in
    let inside : State = marked n old in
    let before : State = record { context = c.push.new.self; sight = old.sight; spot = old.spot } in
    let at : before ≡ inside = state_as before inside.context old.sight old.spot c.in_ok-push.ensures.ok refl refl in
    record { ready = subst (IsReady known) (sym at) (ready_marked known old n c.requires.asked.ready); pattern = pattern_formed known old n c.args.case.now.pattern c.args.case.now.guard c.args.case.now.body c.args.matched.now c.args.against.now c.requires.asked fresh; typed = subst (λ (x : State). IsTypeIn known.arity x.context 0 c.args.matched.now) (sym at) (marked_typed known old n c.args.matched.now c.requires.subject); nodes = pattern_room known old n c.args.case.now.pattern c.args.case.now.guard c.args.case.now.body c.args.matched.now c.args.against.now c.requires.asked fresh }

pub cases::check_case-returns-in_err-match_pattern-clause-err : goal.cases::check_case-returns-in_err-match_pattern-clause-err
cases::check_case-returns-in_err-match_pattern-clause-err g t c =
    let known : Known = g.K.TargetTypes.known c.args.known.now in
    let old : State = c.args.state.now in
    let n : ℕ = c.fresh-number.result in
    let fresh : n ≡ fresh_number old.context = c.fresh-number.ensures.number in
    let inside : State = marked n old in
    let before : State = record { context = c.push.new.self; sight = old.sight; spot = old.spot } in
    let at : before ≡ inside = state_as before inside.context old.sight old.spot c.in_ok-push.ensures.ok refl refl in
    let p = err_from_is_err_and c.from_residual-in_err-match_pattern.result c.from_residual-in_err-match_pattern.ensures.1 in
    rw (p.1, p.2) (case_unmatched_stopped known old n c.args.case.now.pattern c.args.case.now.guard c.args.case.now.body c.args.matched.now c.args.against.now c.requires.asked fresh _ (subst (λ (x : State). IsStopped x.spot.member (λ stop. Matches known x c.args.case.now.pattern c.args.matched.now (unmatched stop)) c.in_err-match_pattern.field-0.0) at c.in_err-match_pattern.ensures.err))

pub cases::check_case-check_guarded-requires : goal.cases::check_case-check_guarded-requires
cases::check_case-check_guarded-requires g t c κs lives =
    let known : Known = g.K.TargetTypes.known c.args.known.now in
    let old : State = c.args.state.now in
    let n : ℕ = c.fresh-number.result in
    let fresh : n ≡ fresh_number old.context = c.fresh-number.ensures.number in
    let inside : State = marked n old in
    let before : State = record { context = c.push.new.self; sight = old.sight; spot = old.spot } in
    let at : before ≡ inside = state_as before inside.context old.sight old.spot c.in_ok-push.ensures.ok refl refl in
    let mid : State = c.match_pattern.new.state in
    let m : IsMatched known inside mid c.args.case.now.pattern c.args.matched.now = subst (λ (x : State). IsMatched known x mid c.args.case.now.pattern c.args.matched.now) at c.in_ok-match_pattern.ensures.ok in
    (omega arith, (search rules, (bodies_asked known old n c.args.case.now.pattern c.args.case.now.guard c.args.case.now.body c.args.matched.now c.args.against.now c.requires.asked fresh c.requires.subject c.requires.typed mid m, body_typed known old n c.args.case.now.pattern c.args.case.now.guard c.args.case.now.body c.args.matched.now c.args.against.now c.requires.asked fresh c.requires.subject c.requires.typed mid m)))

pub cases::check_case-returns-in_err-check_guarded-clause-err : goal.cases::check_case-returns-in_err-check_guarded-clause-err
cases::check_case-returns-in_err-check_guarded-clause-err g t c =
    let known : Known = g.K.TargetTypes.known c.args.known.now in
    let old : State = c.args.state.now in
    let n : ℕ = c.fresh-number.result in
    let fresh : n ≡ fresh_number old.context = c.fresh-number.ensures.number in
    let inside : State = marked n old in
    let before : State = record { context = c.push.new.self; sight = old.sight; spot = old.spot } in
    let at : before ≡ inside = state_as before inside.context old.sight old.spot c.in_ok-push.ensures.ok refl refl in
    let mid : State = c.match_pattern.new.state in
    let m : IsMatched known inside mid c.args.case.now.pattern c.args.matched.now = subst (λ (x : State). IsMatched known x mid c.args.case.now.pattern c.args.matched.now) at c.in_ok-match_pattern.ensures.ok in
    let p = err_from_is_err_and c.from_residual-in_err-check_guarded.result c.from_residual-in_err-check_guarded.ensures.1 in
    rw (p.1, p.2) (case_stopped known old n c.args.case.now.pattern c.args.case.now.guard c.args.case.now.body c.args.matched.now c.args.against.now c.requires.asked fresh c.requires.subject c.requires.typed mid m _ c.in_err-check_guarded.ensures.err)

pub cases::check_case-leave-requires : goal.cases::check_case-leave-requires
cases::check_case-leave-requires g t c =
    let known : Known = g.K.TargetTypes.known c.args.known.now in
    let old : State = c.args.state.now in
    let n : ℕ = c.fresh-number.result in
    let fresh : n ≡ fresh_number old.context = c.fresh-number.ensures.number in
    let inside : State = marked n old in
    let before : State = record { context = c.push.new.self; sight = old.sight; spot = old.spot } in
    let at : before ≡ inside = state_as before inside.context old.sight old.spot c.in_ok-push.ensures.ok refl refl in
    let mid : State = c.match_pattern.new.state in
    let m : IsMatched known inside mid c.args.case.now.pattern c.args.matched.now = subst (λ (x : State). IsMatched known x mid c.args.case.now.pattern c.args.matched.now) at c.in_ok-match_pattern.ensures.ok in
    let last : State = c.check_guarded.new.state in
    let depth : c.depth-depth.result ≡ length old.sight.variables = c.depth-depth.ensures in
    let within = case_depth known old n c.args.case.now.pattern c.args.case.now.guard c.args.case.now.body c.args.matched.now c.args.against.now c.requires.asked fresh c.requires.subject c.requires.typed mid m last c.in_ok-check_guarded.ensures.ok.sight in
    omega (arith, depth, within)

pub cases::check_case-returns-clause-ok : goal.cases::check_case-returns-clause-ok
cases::check_case-returns-clause-ok g t c =
    let known : Known = g.K.TargetTypes.known c.args.known.now in
    let old : State = c.args.state.now in
    let n : ℕ = c.fresh-number.result in
    let fresh : n ≡ fresh_number old.context = c.fresh-number.ensures.number in
    let inside : State = marked n old in
    let before : State = record { context = c.push.new.self; sight = old.sight; spot = old.spot } in
    let at : before ≡ inside = state_as before inside.context old.sight old.spot c.in_ok-push.ensures.ok refl refl in
    let mid : State = c.match_pattern.new.state in
    let m : IsMatched known inside mid c.args.case.now.pattern c.args.matched.now = subst (λ (x : State). IsMatched known x mid c.args.case.now.pattern c.args.matched.now) at c.in_ok-match_pattern.ensures.ok in
    let last : State = c.check_guarded.new.state in
    let depth : c.depth-depth.result ≡ length old.sight.variables = c.depth-depth.ensures in
    case_done known old n c.args.case.now.pattern c.args.case.now.guard c.args.case.now.body c.args.matched.now c.args.against.now c.requires.asked fresh c.requires.subject c.requires.typed mid m last (record { context = c.drop_from.new.self; sight = c.leave.new.self; spot = last.spot }) c.in_ok-check_guarded.ensures.ok c.drop_from.ensures
    (c.leave.ensures ∙ ap (λ (d : ℕ). with_variables (drop (length last.sight.variables - d) last.sight.variables) last.sight) depth) refl

pub cases::check_guarded-check-requires : goal.cases::check_guarded-check-requires
cases::check_guarded-check-requires g t c κs lives =
    let known : Known = g.K.TargetTypes.known c.args.known.now in
    let old : State = c.args.state.now in
    let judged : TermOutcome → Type 0 = λ o. ChecksAllIn known old (case_terms c.args.guard.now c.args.body.now) (case_types c.args.guard.now c.args.against.now) o in
    let nodes : ℕ = length (terms_nodes (case_terms c.args.guard.now c.args.body.now)) in
    let h : PendingTerms known judged old old nodes (terms.more c.args.body.now terms.none) (more c.args.against.now none) = body_left known old c.args.guard.now c.args.body.now c.args.against.now c.requires.asked c.requires.typed c.in-None.is in
    let size : terms_size (case_terms c.args.guard.now c.args.body.now) ≡ terms_size (case_terms None c.args.body.now) = ap (λ (o : Option Term). terms_size (case_terms o c.args.body.now)) c.in-None.is in
    (omega (arith, size), (search rules, (term_asked known judged old nodes old c.args.body.now terms.none c.args.against.now none h, term_typed known judged old nodes old c.args.body.now terms.none c.args.against.now none h)))

pub cases::check_guarded-returns-in_err-check-in-None-clause-err : goal.cases::check_guarded-returns-in_err-check-in-None-clause-err
cases::check_guarded-returns-in_err-check-in-None-clause-err g t c =
    let known : Known = g.K.TargetTypes.known c.args.known.now in
    let old : State = c.args.state.now in
    let judged : TermOutcome → Type 0 = λ o. ChecksAllIn known old (case_terms c.args.guard.now c.args.body.now) (case_types c.args.guard.now c.args.against.now) o in
    let nodes : ℕ = length (terms_nodes (case_terms c.args.guard.now c.args.body.now)) in
    let h : PendingTerms known judged old old nodes (terms.more c.args.body.now terms.none) (more c.args.against.now none) = body_left known old c.args.guard.now c.args.body.now c.args.against.now c.requires.asked c.requires.typed c.in-None.is in
    let p = err_from_is_err_and c.from_residual.result c.from_residual.ensures.1 in
    rw (p.1, p.2) (term_stopped known judged old nodes old c.args.body.now terms.none c.args.against.now none h _ c.in_err-check-in-None.ensures.err)

pub cases::check_guarded-returns-in_ok-check-in-None-clause-ok : goal.cases::check_guarded-returns-in_ok-check-in-None-clause-ok
cases::check_guarded-returns-in_ok-check-in-None-clause-ok g t c =
    let known : Known = g.K.TargetTypes.known c.args.known.now in
    let old : State = c.args.state.now in
    let judged : TermOutcome → Type 0 = λ o. ChecksAllIn known old (case_terms c.args.guard.now c.args.body.now) (case_types c.args.guard.now c.args.against.now) o in
    let nodes : ℕ = length (terms_nodes (case_terms c.args.guard.now c.args.body.now)) in
    let h : PendingTerms known judged old old nodes (terms.more c.args.body.now terms.none) (more c.args.against.now none) = body_left known old c.args.guard.now c.args.body.now c.args.against.now c.requires.asked c.requires.typed c.in-None.is in
    terms_last known judged old nodes old c.args.body.now terms.none c.args.against.now none h c.check.new.state c.in_ok-check-in-None.ensures.ok refl refl

pub cases::check_guarded-check-requires-in-Some : goal.cases::check_guarded-check-requires-in-Some
cases::check_guarded-check-requires-in-Some g t c κs lives =
    let known : Known = g.K.TargetTypes.known c.args.known.now in
    let old : State = c.args.state.now in
    let judged : TermOutcome → Type 0 = λ o. ChecksAllIn known old (case_terms c.args.guard.now c.args.body.now) (case_types c.args.guard.now c.args.against.now) o in
    let nodes : ℕ = length (terms_nodes (case_terms c.args.guard.now c.args.body.now)) in
    let d : Term = c.in-Some.guard in
    let b : boolean ≡ c.boolean.result = sym c.boolean.ensures in
    let h : PendingTerms known judged old old nodes (terms.more d (terms.more c.args.body.now terms.none)) (more c.boolean.result (more c.args.against.now none)) =
    terms_as known judged old nodes old old (terms.more d (terms.more c.args.body.now terms.none)) (terms.more d (terms.more c.args.body.now terms.none)) (more boolean (more c.args.against.now none)) (more c.boolean.result (more c.args.against.now none)) refl refl (ap (λ (v : Open). more v (more c.args.against.now none)) b)
    (guarded_left known old c.args.guard.now c.args.body.now c.args.against.now c.requires.asked c.requires.typed d c.in-Some.is) in
    let size : terms_size (case_terms c.args.guard.now c.args.body.now) ≡ terms_size (case_terms (Some d) c.args.body.now) = ap (λ (o : Option Term). terms_size (case_terms o c.args.body.now)) c.in-Some.is in
    (omega (arith, size), (search rules, (term_asked known judged old nodes old d (terms.more c.args.body.now terms.none) c.boolean.result (more c.args.against.now none) h, term_typed known judged old nodes old d (terms.more c.args.body.now terms.none) c.boolean.result (more c.args.against.now none) h)))

pub cases::check_guarded-returns-in_err-check-in-Some-clause-err : goal.cases::check_guarded-returns-in_err-check-in-Some-clause-err
cases::check_guarded-returns-in_err-check-in-Some-clause-err g t c =
    let known : Known = g.K.TargetTypes.known c.args.known.now in
    let old : State = c.args.state.now in
    let judged : TermOutcome → Type 0 = λ o. ChecksAllIn known old (case_terms c.args.guard.now c.args.body.now) (case_types c.args.guard.now c.args.against.now) o in
    let nodes : ℕ = length (terms_nodes (case_terms c.args.guard.now c.args.body.now)) in
    let d : Term = c.in-Some.guard in
    let b : boolean ≡ c.boolean.result = sym c.boolean.ensures in
    let h : PendingTerms known judged old old nodes (terms.more d (terms.more c.args.body.now terms.none)) (more c.boolean.result (more c.args.against.now none)) =
    terms_as known judged old nodes old old (terms.more d (terms.more c.args.body.now terms.none)) (terms.more d (terms.more c.args.body.now terms.none)) (more boolean (more c.args.against.now none)) (more c.boolean.result (more c.args.against.now none)) refl refl (ap (λ (v : Open). more v (more c.args.against.now none)) b)
    (guarded_left known old c.args.guard.now c.args.body.now c.args.against.now c.requires.asked c.requires.typed d c.in-Some.is) in
    let p = err_from_is_err_and c.from_residual-in_err-check-in-Some.result c.from_residual-in_err-check-in-Some.ensures.1 in
    rw (p.1, p.2) (term_stopped known judged old nodes old d (terms.more c.args.body.now terms.none) c.boolean.result (more c.args.against.now none) h _ c.in_err-check-in-Some.ensures.err)

pub cases::check_guarded-check-requires-in-Some-2 : goal.cases::check_guarded-check-requires-in-Some-2
cases::check_guarded-check-requires-in-Some-2 g t c κs lives =
    let known : Known = g.K.TargetTypes.known c.args.known.now in
    let old : State = c.args.state.now in
    let judged : TermOutcome → Type 0 = λ o. ChecksAllIn known old (case_terms c.args.guard.now c.args.body.now) (case_types c.args.guard.now c.args.against.now) o in
    let nodes : ℕ = length (terms_nodes (case_terms c.args.guard.now c.args.body.now)) in
    let d : Term = c.in-Some.guard in
    let b : boolean ≡ c.boolean.result = sym c.boolean.ensures in
    let h : PendingTerms known judged old old nodes (terms.more d (terms.more c.args.body.now terms.none)) (more c.boolean.result (more c.args.against.now none)) =
    terms_as known judged old nodes old old (terms.more d (terms.more c.args.body.now terms.none)) (terms.more d (terms.more c.args.body.now terms.none)) (more boolean (more c.args.against.now none)) (more c.boolean.result (more c.args.against.now none)) refl refl (ap (λ (v : Open). more v (more c.args.against.now none)) b)
    (guarded_left known old c.args.guard.now c.args.body.now c.args.against.now c.requires.asked c.requires.typed d c.in-Some.is) in
    let after : State = c.check-in-Some-2.new.state in
    let k : PendingTerms known judged old after nodes (terms.more c.args.body.now terms.none) (more c.args.against.now none) = terms_next known judged old nodes old d (terms.more c.args.body.now terms.none) c.boolean.result (more c.args.against.now none) h after c.in_ok-check-in-Some.ensures.ok in
    let size : terms_size (case_terms c.args.guard.now c.args.body.now) ≡ terms_size (case_terms (Some d) c.args.body.now) = ap (λ (o : Option Term). terms_size (case_terms o c.args.body.now)) c.in-Some.is in
    (omega (arith, size), (search rules, (term_asked known judged old nodes after c.args.body.now terms.none c.args.against.now none k, term_typed known judged old nodes after c.args.body.now terms.none c.args.against.now none k)))

pub cases::check_guarded-returns-in_err-check-in-Some-2-clause-err : goal.cases::check_guarded-returns-in_err-check-in-Some-2-clause-err
cases::check_guarded-returns-in_err-check-in-Some-2-clause-err g t c =
    let known : Known = g.K.TargetTypes.known c.args.known.now in
    let old : State = c.args.state.now in
    let judged : TermOutcome → Type 0 = λ o. ChecksAllIn known old (case_terms c.args.guard.now c.args.body.now) (case_types c.args.guard.now c.args.against.now) o in
    let nodes : ℕ = length (terms_nodes (case_terms c.args.guard.now c.args.body.now)) in
    let d : Term = c.in-Some.guard in
    let b : boolean ≡ c.boolean.result = sym c.boolean.ensures in
    let h : PendingTerms known judged old old nodes (terms.more d (terms.more c.args.body.now terms.none)) (more c.boolean.result (more c.args.against.now none)) =
    terms_as known judged old nodes old old (terms.more d (terms.more c.args.body.now terms.none)) (terms.more d (terms.more c.args.body.now terms.none)) (more boolean (more c.args.against.now none)) (more c.boolean.result (more c.args.against.now none)) refl refl (ap (λ (v : Open). more v (more c.args.against.now none)) b)
    (guarded_left known old c.args.guard.now c.args.body.now c.args.against.now c.requires.asked c.requires.typed d c.in-Some.is) in
    let after : State = c.check-in-Some-2.new.state in
    let k : PendingTerms known judged old after nodes (terms.more c.args.body.now terms.none) (more c.args.against.now none) = terms_next known judged old nodes old d (terms.more c.args.body.now terms.none) c.boolean.result (more c.args.against.now none) h after c.in_ok-check-in-Some.ensures.ok in
    let p = err_from_is_err_and c.from_residual-in_err-check-in-Some-2.result c.from_residual-in_err-check-in-Some-2.ensures.1 in
    rw (p.1, p.2) (term_stopped known judged old nodes after c.args.body.now terms.none c.args.against.now none k _ c.in_err-check-in-Some-2.ensures.err)

pub cases::check_guarded-returns-in_ok-check-in-Some-2-clause-ok : goal.cases::check_guarded-returns-in_ok-check-in-Some-2-clause-ok
cases::check_guarded-returns-in_ok-check-in-Some-2-clause-ok g t c =
    let known : Known = g.K.TargetTypes.known c.args.known.now in
    let old : State = c.args.state.now in
    let judged : TermOutcome → Type 0 = λ o. ChecksAllIn known old (case_terms c.args.guard.now c.args.body.now) (case_types c.args.guard.now c.args.against.now) o in
    let nodes : ℕ = length (terms_nodes (case_terms c.args.guard.now c.args.body.now)) in
    let d : Term = c.in-Some.guard in
    let b : boolean ≡ c.boolean.result = sym c.boolean.ensures in
    let h : PendingTerms known judged old old nodes (terms.more d (terms.more c.args.body.now terms.none)) (more c.boolean.result (more c.args.against.now none)) =
    terms_as known judged old nodes old old (terms.more d (terms.more c.args.body.now terms.none)) (terms.more d (terms.more c.args.body.now terms.none)) (more boolean (more c.args.against.now none)) (more c.boolean.result (more c.args.against.now none)) refl refl (ap (λ (v : Open). more v (more c.args.against.now none)) b)
    (guarded_left known old c.args.guard.now c.args.body.now c.args.against.now c.requires.asked c.requires.typed d c.in-Some.is) in
    let after : State = c.check-in-Some-2.new.state in
    let k : PendingTerms known judged old after nodes (terms.more c.args.body.now terms.none) (more c.args.against.now none) = terms_next known judged old nodes old d (terms.more c.args.body.now terms.none) c.boolean.result (more c.args.against.now none) h after c.in_ok-check-in-Some.ensures.ok in
    terms_last known judged old nodes after c.args.body.now terms.none c.args.against.now none k c.check-in-Some-3.new.state c.in_ok-check-in-Some-2.ensures.ok refl refl

pub finding::synthesize-find-requires : goal.finding::synthesize-find-requires
finding::synthesize-find-requires g t c κs within =
    let known : Known = g.K.TargetTypes.known c.args.known.now in
    let old : State = c.args.state.now in
    let e : Term = c.args.term.now in
    (omega arith, (search rules, c.requires.asked))

pub finding::synthesize-returns-in_err-found-clause-err : goal.finding::synthesize-returns-in_err-found-clause-err
finding::synthesize-returns-in_err-found-clause-err g t c =
    let known : Known = g.K.TargetTypes.known c.args.known.now in
    let old : State = c.args.state.now in
    let e : Term = c.args.term.now in
    let p = err_from_is_err_and c.from_residual.result c.from_residual.ensures.1 in
    rw (p.1, p.2) (stopped_as old.spot.member old.spot.member (λ stop. FindsIn known old e (gives_none stop)) (λ stop. SynthesizesIn known old e (gives_none stop)) _ refl (λ stop d. synthesizes_stop d) c.in_err-found.ensures.err)

pub finding::synthesize-returns-in_err-applied-clause-err : goal.finding::synthesize-returns-in_err-applied-clause-err
finding::synthesize-returns-in_err-applied-clause-err g t c =
    let known : Known = g.K.TargetTypes.known c.args.known.now in
    let old : State = c.args.state.now in
    let e : Term = c.args.term.now in
    let new : State = c.find.new.state in
    let w : IsFound (FindsIn known old e) old new (length (term_nodes e)) c.in_ok-found.found = c.in_ok-found.ensures.ok in
    let p = err_from_is_err_and c.from_residual-in_err-applied.result c.from_residual-in_err-applied.ensures.1 in
    rw (p.1, p.2) (stopped_as old.spot.member old.spot.member (λ stop. (stop ≡ too_large old.spot.node) × (IsSmall (type_under new.context c.in_ok-found.found) → ⊥)) (λ stop. SynthesizesIn known old e (gives_none stop)) _ refl (λ stop s. put_in_large known old e new (length (term_nodes e)) c.in_ok-found.found stop w s.0 s.1) c.in_err-applied.ensures.err)

pub finding::synthesize-returns-clause-ok : goal.finding::synthesize-returns-clause-ok
finding::synthesize-returns-clause-ok g t c =
    let known : Known = g.K.TargetTypes.known c.args.known.now in
    let old : State = c.args.state.now in
    let e : Term = c.args.term.now in
    let new : State = c.find.new.state in
    let w : IsFound (FindsIn known old e) old new (length (term_nodes e)) c.in_ok-found.found = c.in_ok-found.ensures.ok in
    put_in_found known old e new (length (term_nodes e)) c.in_ok-found.found c.in_ok-applied.applied w c.in_ok-applied.ensures.ok.0 c.in_ok-applied.ensures.ok.1

pub finding::find-find_variable-requires-clause-binder : goal.finding::find-find_variable-requires-clause-binder
finding::find-find_variable-requires-clause-binder g t c =
    let known : Known = g.K.TargetTypes.known c.args.known.now in
    let old : State = c.args.state.now in
    let e : Term = c.args.term.now in
    let is : e ≡ terms.variable c.in-Var.variable = sym c.term.view_is ∙ ap term_of c.in-Var.is in
    variable_asked known old e c.in-Var.variable is c.requires.asked

pub finding::find-find_variable-requires-clause-bound : goal.finding::find-find_variable-requires-clause-bound
finding::find-find_variable-requires-clause-bound g t c =
    let known : Known = g.K.TargetTypes.known c.args.known.now in
    let old : State = c.args.state.now in
    c.requires.asked.ready.seen.variables

pub finding::find-find_variable-requires-clause-nodes : goal.finding::find-find_variable-requires-clause-nodes
finding::find-find_variable-requires-clause-nodes g t c =
    let known : Known = g.K.TargetTypes.known c.args.known.now in
    let old : State = c.args.state.now in
    let e : Term = c.args.term.now in
    let is : e ≡ terms.variable c.in-Var.variable = sym c.term.view_is ∙ ap term_of c.in-Var.is in
    node_asked known old e c.requires.asked (ap (λ (f : Term). length (term_nodes f)) is)

pub finding::find-returns-in-Var-clause-ok : goal.finding::find-returns-in-Var-clause-ok
finding::find-returns-in-Var-clause-ok g t c =
    let known : Known = g.K.TargetTypes.known c.args.known.now in
    let old : State = c.args.state.now in
    let e : Term = c.args.term.now in
    let is : e ≡ terms.variable c.in-Var.variable = sym c.term.view_is ∙ ap term_of c.in-Var.is in
    variable_ok known old c.find_variable.result e c.in-Var.variable c.find_variable.new.state is c.find_variable.ensures.ok c.find_variable.ensures.state

pub finding::find-returns-in-Var-clause-err : goal.finding::find-returns-in-Var-clause-err
finding::find-returns-in-Var-clause-err g t c =
    let known : Known = g.K.TargetTypes.known c.args.known.now in
    let old : State = c.args.state.now in
    let e : Term = c.args.term.now in
    memory_err known old c.find_variable.result e c.find_variable.ensures.err

pub finding::find-advance-requires : goal.finding::find-advance-requires
finding::find-advance-requires g t c =
    let known : Known = g.K.TargetTypes.known c.args.known.now in
    let old : State = c.args.state.now in
    let e : Term = c.args.term.now in
    let is : e ≡ terms.literal c.in-Literal.literal = sym c.term.view_is ∙ ap term_of c.in-Literal.is in
    node_asked known old e c.requires.asked (ap (λ (f : Term). length (term_nodes f)) is)

pub finding::find-returns-in-Literal-clause-ok : goal.finding::find-returns-in-Literal-clause-ok
finding::find-returns-in-Literal-clause-ok g t c =
    let known : Known = g.K.TargetTypes.known c.args.known.now in
    let old : State = c.args.state.now in
    let e : Term = c.args.term.now in
    let is : e ≡ terms.literal c.in-Literal.literal = sym c.term.view_is ∙ ap term_of c.in-Literal.is in
    let new : State = record { context = old.context; sight = old.sight; spot = c.advance.new.spot } in
    literal_found known old e c.in-Literal.literal new c.literal_type.result is (ap (λ (s : Spot). let st : State = record { context = old.context; sight = old.sight; spot = s } in st) c.advance.ensures) c.literal_type.ensures

pub finding::find-advance-requires-in-Unit : goal.finding::find-advance-requires-in-Unit
finding::find-advance-requires-in-Unit g t c =
    let known : Known = g.K.TargetTypes.known c.args.known.now in
    let old : State = c.args.state.now in
    let e : Term = c.args.term.now in
    let is : e ≡ terms.unit = sym c.term.view_is ∙ ap term_of c.in-Unit.is in
    node_asked known old e c.requires.asked (ap (λ (f : Term). length (term_nodes f)) is)

pub finding::find-returns-in-Unit-clause-ok : goal.finding::find-returns-in-Unit-clause-ok
finding::find-returns-in-Unit-clause-ok g t c =
    let known : Known = g.K.TargetTypes.known c.args.known.now in
    let old : State = c.args.state.now in
    let e : Term = c.args.term.now in
    let is : e ≡ terms.unit = sym c.term.view_is ∙ ap term_of c.in-Unit.is in
    let new : State = record { context = old.context; sight = old.sight; spot = c.advance-in-Unit.new.spot } in
    unit_found known old e new c.unit.result is (ap (λ (s : Spot). let st : State = record { context = old.context; sight = old.sight; spot = s } in st) c.advance-in-Unit.ensures) c.unit.ensures

pub finding::find-find_link-requires-clause-typed : goal.finding::find-find_link-requires-clause-typed
finding::find-find_link-requires-clause-typed g t c =
    let known : Known = g.K.TargetTypes.known c.args.known.now in
    let old : State = c.args.state.now in
    let e : Term = c.args.term.now in
    let is : e ≡ terms.link c.in-Link.target = sym c.term.view_is ∙ ap term_of c.in-Link.is in
    link_asked known old e c.in-Link.target is c.requires.asked

pub finding::find-find_link-requires-clause-nodes : goal.finding::find-find_link-requires-clause-nodes
finding::find-find_link-requires-clause-nodes g t c =
    let known : Known = g.K.TargetTypes.known c.args.known.now in
    let old : State = c.args.state.now in
    let e : Term = c.args.term.now in
    let is : e ≡ terms.link c.in-Link.target = sym c.term.view_is ∙ ap term_of c.in-Link.is in
    node_asked known old e c.requires.asked (ap (λ (f : Term). length (term_nodes f)) is)

pub finding::find-returns-in-Link-clause-ok : goal.finding::find-returns-in-Link-clause-ok
finding::find-returns-in-Link-clause-ok g t c =
    let known : Known = g.K.TargetTypes.known c.args.known.now in
    let old : State = c.args.state.now in
    let e : Term = c.args.term.now in
    let is : e ≡ terms.link c.in-Link.target = sym c.term.view_is ∙ ap term_of c.in-Link.is in
    link_ok known old c.find_link.result e c.in-Link.target c.find_link.new.state is c.find_link.ensures.ok c.find_link.ensures.state

pub finding::find-returns-in-Link-clause-err : goal.finding::find-returns-in-Link-clause-err
finding::find-returns-in-Link-clause-err g t c =
    let known : Known = g.K.TargetTypes.known c.args.known.now in
    let old : State = c.args.state.now in
    let e : Term = c.args.term.now in
    memory_err known old c.find_link.result e c.find_link.ensures.err

pub finding::find-find_lambda-requires : goal.finding::find-find_lambda-requires
finding::find-find_lambda-requires g t c κs within =
    let known : Known = g.K.TargetTypes.known c.args.known.now in
    let old : State = c.args.state.now in
    let e : Term = c.args.term.now in
    let read : c.deref.result.now ≡ c.in-Lambda.body.value = search rules in
    let is : e ≡ terms.lambda c.deref.result.now = sym c.term.view_is ∙ ap term_of c.in-Lambda.is ∙ ap terms.lambda (sym read) in
    let f : Term = terms.lambda c.deref.result.now in
    (omega (arith, ap term_size is), (search rules, asked_as known old e f is c.requires.asked))

pub finding::find-returns-in-Lambda-clause-ok : goal.finding::find-returns-in-Lambda-clause-ok
finding::find-returns-in-Lambda-clause-ok g t c =
    let known : Known = g.K.TargetTypes.known c.args.known.now in
    let old : State = c.args.state.now in
    let e : Term = c.args.term.now in
    let read : c.deref.result.now ≡ c.in-Lambda.body.value = search rules in
    let is : e ≡ terms.lambda c.deref.result.now = sym c.term.view_is ∙ ap term_of c.in-Lambda.is ∙ ap terms.lambda (sym read) in
    let f : Term = terms.lambda c.deref.result.now in
    form_ok known old c.find_lambda.result e f c.find_lambda.new.state is c.find_lambda.ensures.ok

pub finding::find-returns-in-Lambda-clause-err : goal.finding::find-returns-in-Lambda-clause-err
finding::find-returns-in-Lambda-clause-err g t c =
    let known : Known = g.K.TargetTypes.known c.args.known.now in
    let old : State = c.args.state.now in
    let e : Term = c.args.term.now in
    let read : c.deref.result.now ≡ c.in-Lambda.body.value = search rules in
    let is : e ≡ terms.lambda c.deref.result.now = sym c.term.view_is ∙ ap term_of c.in-Lambda.is ∙ ap terms.lambda (sym read) in
    let f : Term = terms.lambda c.deref.result.now in
    form_err known old c.find_lambda.result e f is c.find_lambda.ensures.err

pub finding::find-find_application-requires : goal.finding::find-find_application-requires
finding::find-find_application-requires g t c κs within =
    let known : Known = g.K.TargetTypes.known c.args.known.now in
    let old : State = c.args.state.now in
    let e : Term = c.args.term.now in
    let read : c.deref-in-Apply.result.now ≡ c.in-Apply.function.value = search rules in
    let also : c.deref-in-Apply-2.result.now ≡ c.in-Apply.argument.value = search rules in
    let is : e ≡ terms.apply c.deref-in-Apply.result.now c.deref-in-Apply-2.result.now = sym c.term.view_is ∙ ap term_of c.in-Apply.is ∙ ap (λ (f : Term). terms.apply f c.in-Apply.argument.value) (sym read) ∙ ap (terms.apply c.deref-in-Apply.result.now) (sym also) in
    let f : Term = terms.apply c.deref-in-Apply.result.now c.deref-in-Apply-2.result.now in
    (omega (arith, ap term_size is), (search rules, asked_as known old e f is c.requires.asked))

pub finding::find-returns-in-Apply-clause-ok : goal.finding::find-returns-in-Apply-clause-ok
finding::find-returns-in-Apply-clause-ok g t c =
    let known : Known = g.K.TargetTypes.known c.args.known.now in
    let old : State = c.args.state.now in
    let e : Term = c.args.term.now in
    let read : c.deref-in-Apply.result.now ≡ c.in-Apply.function.value = search rules in
    let also : c.deref-in-Apply-2.result.now ≡ c.in-Apply.argument.value = search rules in
    let is : e ≡ terms.apply c.deref-in-Apply.result.now c.deref-in-Apply-2.result.now = sym c.term.view_is ∙ ap term_of c.in-Apply.is ∙ ap (λ (f : Term). terms.apply f c.in-Apply.argument.value) (sym read) ∙ ap (terms.apply c.deref-in-Apply.result.now) (sym also) in
    let f : Term = terms.apply c.deref-in-Apply.result.now c.deref-in-Apply-2.result.now in
    form_ok known old c.find_application.result e f c.find_application.new.state is c.find_application.ensures.ok

pub finding::find-returns-in-Apply-clause-err : goal.finding::find-returns-in-Apply-clause-err
finding::find-returns-in-Apply-clause-err g t c =
    let known : Known = g.K.TargetTypes.known c.args.known.now in
    let old : State = c.args.state.now in
    let e : Term = c.args.term.now in
    let read : c.deref-in-Apply.result.now ≡ c.in-Apply.function.value = search rules in
    let also : c.deref-in-Apply-2.result.now ≡ c.in-Apply.argument.value = search rules in
    let is : e ≡ terms.apply c.deref-in-Apply.result.now c.deref-in-Apply-2.result.now = sym c.term.view_is ∙ ap term_of c.in-Apply.is ∙ ap (λ (f : Term). terms.apply f c.in-Apply.argument.value) (sym read) ∙ ap (terms.apply c.deref-in-Apply.result.now) (sym also) in
    let f : Term = terms.apply c.deref-in-Apply.result.now c.deref-in-Apply-2.result.now in
    form_err known old c.find_application.result e f is c.find_application.ensures.err

pub finding::find-find_annotated-requires : goal.finding::find-find_annotated-requires
finding::find-find_annotated-requires g t c κs within =
    let known : Known = g.K.TargetTypes.known c.args.known.now in
    let old : State = c.args.state.now in
    let e : Term = c.args.term.now in
    let read : c.deref-in-Annotated.result.now ≡ c.in-Annotated.inside.value = search rules in
    let is : e ≡ terms.annotated c.deref-in-Annotated.result.now c.in-Annotated.ty = sym c.term.view_is ∙ ap term_of c.in-Annotated.is ∙ ap (λ (f : Term). terms.annotated f c.in-Annotated.ty) (sym read) in
    let f : Term = terms.annotated c.deref-in-Annotated.result.now c.in-Annotated.ty in
    (omega (arith, ap term_size is), (search rules, asked_as known old e f is c.requires.asked))

pub finding::find-returns-in-Annotated-clause-ok : goal.finding::find-returns-in-Annotated-clause-ok
finding::find-returns-in-Annotated-clause-ok g t c =
    let known : Known = g.K.TargetTypes.known c.args.known.now in
    let old : State = c.args.state.now in
    let e : Term = c.args.term.now in
    let read : c.deref-in-Annotated.result.now ≡ c.in-Annotated.inside.value = search rules in
    let is : e ≡ terms.annotated c.deref-in-Annotated.result.now c.in-Annotated.ty = sym c.term.view_is ∙ ap term_of c.in-Annotated.is ∙ ap (λ (f : Term). terms.annotated f c.in-Annotated.ty) (sym read) in
    let f : Term = terms.annotated c.deref-in-Annotated.result.now c.in-Annotated.ty in
    form_ok known old c.find_annotated.result e f c.find_annotated.new.state is c.find_annotated.ensures.ok

pub finding::find-returns-in-Annotated-clause-err : goal.finding::find-returns-in-Annotated-clause-err
finding::find-returns-in-Annotated-clause-err g t c =
    let known : Known = g.K.TargetTypes.known c.args.known.now in
    let old : State = c.args.state.now in
    let e : Term = c.args.term.now in
    let read : c.deref-in-Annotated.result.now ≡ c.in-Annotated.inside.value = search rules in
    let is : e ≡ terms.annotated c.deref-in-Annotated.result.now c.in-Annotated.ty = sym c.term.view_is ∙ ap term_of c.in-Annotated.is ∙ ap (λ (f : Term). terms.annotated f c.in-Annotated.ty) (sym read) in
    let f : Term = terms.annotated c.deref-in-Annotated.result.now c.in-Annotated.ty in
    form_err known old c.find_annotated.result e f is c.find_annotated.ensures.err

pub finding::find-find_tuple-requires : goal.finding::find-find_tuple-requires
finding::find-find_tuple-requires g t c κs within =
    let known : Known = g.K.TargetTypes.known c.args.known.now in
    let old : State = c.args.state.now in
    let e : Term = c.args.term.now in
    let read : c.deref-in-Tuple.result.now ≡ c.in-Tuple.parts.items = search rules in
    let is : e ≡ terms.tuple (terms_of c.deref-in-Tuple.result.now) = sym c.term.view_is ∙ ap term_of c.in-Tuple.is ∙ ap (λ (fs : List Term). terms.tuple (terms_of fs)) (sym read) in
    let f : Term = terms.tuple (terms_of c.deref-in-Tuple.result.now) in
    (omega (arith, ap term_size is), (search rules, asked_as known old e f is c.requires.asked))

pub finding::find-returns-in-Tuple-clause-ok : goal.finding::find-returns-in-Tuple-clause-ok
finding::find-returns-in-Tuple-clause-ok g t c =
    let known : Known = g.K.TargetTypes.known c.args.known.now in
    let old : State = c.args.state.now in
    let e : Term = c.args.term.now in
    let read : c.deref-in-Tuple.result.now ≡ c.in-Tuple.parts.items = search rules in
    let is : e ≡ terms.tuple (terms_of c.deref-in-Tuple.result.now) = sym c.term.view_is ∙ ap term_of c.in-Tuple.is ∙ ap (λ (fs : List Term). terms.tuple (terms_of fs)) (sym read) in
    let f : Term = terms.tuple (terms_of c.deref-in-Tuple.result.now) in
    form_ok known old c.find_tuple.result e f c.find_tuple.new.state is c.find_tuple.ensures.ok

pub finding::find-returns-in-Tuple-clause-err : goal.finding::find-returns-in-Tuple-clause-err
finding::find-returns-in-Tuple-clause-err g t c =
    let known : Known = g.K.TargetTypes.known c.args.known.now in
    let old : State = c.args.state.now in
    let e : Term = c.args.term.now in
    let read : c.deref-in-Tuple.result.now ≡ c.in-Tuple.parts.items = search rules in
    let is : e ≡ terms.tuple (terms_of c.deref-in-Tuple.result.now) = sym c.term.view_is ∙ ap term_of c.in-Tuple.is ∙ ap (λ (fs : List Term). terms.tuple (terms_of fs)) (sym read) in
    let f : Term = terms.tuple (terms_of c.deref-in-Tuple.result.now) in
    form_err known old c.find_tuple.result e f is c.find_tuple.ensures.err

pub finding::find-find_list-requires : goal.finding::find-find_list-requires
finding::find-find_list-requires g t c κs within =
    let known : Known = g.K.TargetTypes.known c.args.known.now in
    let old : State = c.args.state.now in
    let e : Term = c.args.term.now in
    let read : c.deref-in-List.result.now ≡ c.in-List.elements.items = search rules in
    let is : e ≡ terms.list (terms_of c.deref-in-List.result.now) = sym c.term.view_is ∙ ap term_of c.in-List.is ∙ ap (λ (fs : List Term). terms.list (terms_of fs)) (sym read) in
    let f : Term = terms.list (terms_of c.deref-in-List.result.now) in
    (omega (arith, ap term_size is), (search rules, asked_as known old e f is c.requires.asked))

pub finding::find-returns-in-List-clause-ok : goal.finding::find-returns-in-List-clause-ok
finding::find-returns-in-List-clause-ok g t c =
    let known : Known = g.K.TargetTypes.known c.args.known.now in
    let old : State = c.args.state.now in
    let e : Term = c.args.term.now in
    let read : c.deref-in-List.result.now ≡ c.in-List.elements.items = search rules in
    let is : e ≡ terms.list (terms_of c.deref-in-List.result.now) = sym c.term.view_is ∙ ap term_of c.in-List.is ∙ ap (λ (fs : List Term). terms.list (terms_of fs)) (sym read) in
    let f : Term = terms.list (terms_of c.deref-in-List.result.now) in
    form_ok known old c.find_list.result e f c.find_list.new.state is c.find_list.ensures.ok

pub finding::find-returns-in-List-clause-err : goal.finding::find-returns-in-List-clause-err
finding::find-returns-in-List-clause-err g t c =
    let known : Known = g.K.TargetTypes.known c.args.known.now in
    let old : State = c.args.state.now in
    let e : Term = c.args.term.now in
    let read : c.deref-in-List.result.now ≡ c.in-List.elements.items = search rules in
    let is : e ≡ terms.list (terms_of c.deref-in-List.result.now) = sym c.term.view_is ∙ ap term_of c.in-List.is ∙ ap (λ (fs : List Term). terms.list (terms_of fs)) (sym read) in
    let f : Term = terms.list (terms_of c.deref-in-List.result.now) in
    form_err known old c.find_list.result e f is c.find_list.ensures.err

pub finding::find-find_conditional-requires : goal.finding::find-find_conditional-requires
finding::find-find_conditional-requires g t c κs within =
    let known : Known = g.K.TargetTypes.known c.args.known.now in
    let old : State = c.args.state.now in
    let e : Term = c.args.term.now in
    let read : c.deref-in-If.result.now ≡ c.in-If.condition.value = search rules in
    let also : c.deref-in-If-2.result.now ≡ c.in-If.consequent.value = search rules in
    let last : c.deref-in-If-3.result.now ≡ c.in-If.alternative.value = search rules in
    let is : e ≡ terms.conditional c.deref-in-If.result.now c.deref-in-If-2.result.now c.deref-in-If-3.result.now = sym c.term.view_is ∙ ap term_of c.in-If.is ∙ ap (λ (f : Term). terms.conditional f c.in-If.consequent.value c.in-If.alternative.value) (sym read) ∙ ap (λ (f : Term). terms.conditional c.deref-in-If.result.now f c.in-If.alternative.value) (sym also) ∙ ap (terms.conditional c.deref-in-If.result.now c.deref-in-If-2.result.now) (sym last) in
    let f : Term = terms.conditional c.deref-in-If.result.now c.deref-in-If-2.result.now c.deref-in-If-3.result.now in
    (omega (arith, ap term_size is), (search rules, asked_as known old e f is c.requires.asked))

pub finding::find-returns-in-If-clause-ok : goal.finding::find-returns-in-If-clause-ok
finding::find-returns-in-If-clause-ok g t c =
    let known : Known = g.K.TargetTypes.known c.args.known.now in
    let old : State = c.args.state.now in
    let e : Term = c.args.term.now in
    let read : c.deref-in-If.result.now ≡ c.in-If.condition.value = search rules in
    let also : c.deref-in-If-2.result.now ≡ c.in-If.consequent.value = search rules in
    let last : c.deref-in-If-3.result.now ≡ c.in-If.alternative.value = search rules in
    let is : e ≡ terms.conditional c.deref-in-If.result.now c.deref-in-If-2.result.now c.deref-in-If-3.result.now = sym c.term.view_is ∙ ap term_of c.in-If.is ∙ ap (λ (f : Term). terms.conditional f c.in-If.consequent.value c.in-If.alternative.value) (sym read) ∙ ap (λ (f : Term). terms.conditional c.deref-in-If.result.now f c.in-If.alternative.value) (sym also) ∙ ap (terms.conditional c.deref-in-If.result.now c.deref-in-If-2.result.now) (sym last) in
    let f : Term = terms.conditional c.deref-in-If.result.now c.deref-in-If-2.result.now c.deref-in-If-3.result.now in
    form_ok known old c.find_conditional.result e f c.find_conditional.new.state is c.find_conditional.ensures.ok

pub finding::find-returns-in-If-clause-err : goal.finding::find-returns-in-If-clause-err
finding::find-returns-in-If-clause-err g t c =
    let known : Known = g.K.TargetTypes.known c.args.known.now in
    let old : State = c.args.state.now in
    let e : Term = c.args.term.now in
    let read : c.deref-in-If.result.now ≡ c.in-If.condition.value = search rules in
    let also : c.deref-in-If-2.result.now ≡ c.in-If.consequent.value = search rules in
    let last : c.deref-in-If-3.result.now ≡ c.in-If.alternative.value = search rules in
    let is : e ≡ terms.conditional c.deref-in-If.result.now c.deref-in-If-2.result.now c.deref-in-If-3.result.now = sym c.term.view_is ∙ ap term_of c.in-If.is ∙ ap (λ (f : Term). terms.conditional f c.in-If.consequent.value c.in-If.alternative.value) (sym read) ∙ ap (λ (f : Term). terms.conditional c.deref-in-If.result.now f c.in-If.alternative.value) (sym also) ∙ ap (terms.conditional c.deref-in-If.result.now c.deref-in-If-2.result.now) (sym last) in
    let f : Term = terms.conditional c.deref-in-If.result.now c.deref-in-If-2.result.now c.deref-in-If-3.result.now in
    form_err known old c.find_conditional.result e f is c.find_conditional.ensures.err

pub finding::find-find_both-requires : goal.finding::find-find_both-requires
finding::find-find_both-requires g t c κs within =
    let known : Known = g.K.TargetTypes.known c.args.known.now in
    let old : State = c.args.state.now in
    let e : Term = c.args.term.now in
    let read : c.deref-in-And.result.now ≡ c.in-And.first.value = search rules in
    let also : c.deref-in-And-2.result.now ≡ c.in-And.second.value = search rules in
    let a : Term = c.deref-in-And.result.now in
    let b : Term = c.deref-in-And-2.result.now in
    let is : e ≡ terms.and a b = sym c.term.view_is ∙ ap term_of c.in-And.is ∙ ap (λ (f : Term). terms.and f c.in-And.second.value) (sym read) ∙ ap (terms.and a) (sym also) in
    let h : IsAsked known old 0 (terms.and a b) = asked_as known old e (terms.and a b) is c.requires.asked in
    (omega (arith, ap term_size is), (search rules, (and_asked known old a b h, omega (arith, h.nodes))))

pub finding::find-returns-in-And-clause-ok : goal.finding::find-returns-in-And-clause-ok
finding::find-returns-in-And-clause-ok g t c =
    let known : Known = g.K.TargetTypes.known c.args.known.now in
    let old : State = c.args.state.now in
    let e : Term = c.args.term.now in
    let read : c.deref-in-And.result.now ≡ c.in-And.first.value = search rules in
    let also : c.deref-in-And-2.result.now ≡ c.in-And.second.value = search rules in
    let a : Term = c.deref-in-And.result.now in
    let b : Term = c.deref-in-And-2.result.now in
    let is : e ≡ terms.and a b = sym c.term.view_is ∙ ap term_of c.in-And.is ∙ ap (λ (f : Term). terms.and f c.in-And.second.value) (sym read) ∙ ap (terms.and a) (sym also) in
    and_ok known old a b c.find_both.result e c.find_both.new.state is c.find_both.ensures.ok

pub finding::find-returns-in-And-clause-err : goal.finding::find-returns-in-And-clause-err
finding::find-returns-in-And-clause-err g t c =
    let known : Known = g.K.TargetTypes.known c.args.known.now in
    let old : State = c.args.state.now in
    let e : Term = c.args.term.now in
    let read : c.deref-in-And.result.now ≡ c.in-And.first.value = search rules in
    let also : c.deref-in-And-2.result.now ≡ c.in-And.second.value = search rules in
    let a : Term = c.deref-in-And.result.now in
    let b : Term = c.deref-in-And-2.result.now in
    let is : e ≡ terms.and a b = sym c.term.view_is ∙ ap term_of c.in-And.is ∙ ap (λ (f : Term). terms.and f c.in-And.second.value) (sym read) ∙ ap (terms.and a) (sym also) in
    and_err known old a b c.find_both.result e is c.find_both.ensures.err

pub finding::find-find_both-requires-in-Or : goal.finding::find-find_both-requires-in-Or
finding::find-find_both-requires-in-Or g t c κs within =
    let known : Known = g.K.TargetTypes.known c.args.known.now in
    let old : State = c.args.state.now in
    let e : Term = c.args.term.now in
    let read : c.deref-in-Or.result.now ≡ c.in-Or.first.value = search rules in
    let also : c.deref-in-Or-2.result.now ≡ c.in-Or.second.value = search rules in
    let a : Term = c.deref-in-Or.result.now in
    let b : Term = c.deref-in-Or-2.result.now in
    let is : e ≡ terms.or a b = sym c.term.view_is ∙ ap term_of c.in-Or.is ∙ ap (λ (f : Term). terms.or f c.in-Or.second.value) (sym read) ∙ ap (terms.or a) (sym also) in
    let h : IsAsked known old 0 (terms.or a b) = asked_as known old e (terms.or a b) is c.requires.asked in
    (omega (arith, ap term_size is), (search rules, (or_asked known old a b h, omega (arith, h.nodes))))

pub finding::find-returns-in-Or-clause-ok : goal.finding::find-returns-in-Or-clause-ok
finding::find-returns-in-Or-clause-ok g t c =
    let known : Known = g.K.TargetTypes.known c.args.known.now in
    let old : State = c.args.state.now in
    let e : Term = c.args.term.now in
    let read : c.deref-in-Or.result.now ≡ c.in-Or.first.value = search rules in
    let also : c.deref-in-Or-2.result.now ≡ c.in-Or.second.value = search rules in
    let a : Term = c.deref-in-Or.result.now in
    let b : Term = c.deref-in-Or-2.result.now in
    let is : e ≡ terms.or a b = sym c.term.view_is ∙ ap term_of c.in-Or.is ∙ ap (λ (f : Term). terms.or f c.in-Or.second.value) (sym read) ∙ ap (terms.or a) (sym also) in
    or_ok known old a b c.find_both-in-Or.result e c.find_both-in-Or.new.state is c.find_both-in-Or.ensures.ok

pub finding::find-returns-in-Or-clause-err : goal.finding::find-returns-in-Or-clause-err
finding::find-returns-in-Or-clause-err g t c =
    let known : Known = g.K.TargetTypes.known c.args.known.now in
    let old : State = c.args.state.now in
    let e : Term = c.args.term.now in
    let read : c.deref-in-Or.result.now ≡ c.in-Or.first.value = search rules in
    let also : c.deref-in-Or-2.result.now ≡ c.in-Or.second.value = search rules in
    let a : Term = c.deref-in-Or.result.now in
    let b : Term = c.deref-in-Or-2.result.now in
    let is : e ≡ terms.or a b = sym c.term.view_is ∙ ap term_of c.in-Or.is ∙ ap (λ (f : Term). terms.or f c.in-Or.second.value) (sym read) ∙ ap (terms.or a) (sym also) in
    or_err known old a b c.find_both-in-Or.result e is c.find_both-in-Or.ensures.err

pub finding::find-find_by_form-requires : goal.finding::find-find_by_form-requires
finding::find-find_by_form-requires g t c κs within =
    let known : Known = g.K.TargetTypes.known c.args.known.now in
    let old : State = c.args.state.now in
    let e : Term = c.args.term.now in
    let form : is_block e ≡ true = elim c.in-Let.is [ inl p ↦ ap is_block (sym c.term.view_is ∙ ap term_of p.3) | inr p ↦ ap is_block (sym c.term.view_is ∙ ap term_of p.2) ] in
    (omega arith, (search rules, (c.requires.asked, form)))

pub finding::find_lambda-advance-requires : goal.finding::find_lambda-advance-requires
finding::find_lambda-advance-requires g t c =
    let known : Known = g.K.TargetTypes.known c.args.known.now in
    let old : State = c.args.state.now in
    let e : Term = c.args.body.now in
    let h : IsAsked known old 0 (terms.lambda e) = c.requires.asked in
    node_more known old (terms.lambda e) c.enter.new.state.spot c.in_ok-number.ensures.spot h (omega arith)

pub finding::find_lambda-check-requires : goal.finding::find_lambda-check-requires
finding::find_lambda-check-requires g t c κs within =
    let known : Known = g.K.TargetTypes.known c.args.known.now in
    let old : State = c.args.state.now in
    let e : Term = c.args.body.now in
    let h : IsAsked known old 0 (terms.lambda e) = c.requires.asked in
    let a : ℕ = c.in_ok-argument.argument in
    let r : ℕ = c.in_ok-result.result in
    let n : ℕ = c.in_ok-number.number in
    let first : c.declare.new.context ≡ old.context ++ Exists a ∷ [] = c.in_ok-argument.ensures.ok in
    let second : c.declare-2.new.context ≡ (old.context ++ Exists a ∷ []) ++ Exists r ∷ [] = c.in_ok-result.ensures.ok ∙ ap (λ (cs : ContextEntries). cs ++ Exists r ∷ []) first in
    let are : a ∷ r ∷ n ∷ [] ≡ fresh_numbers 3 old.context = three_fresh old.context a r n c.in_ok-argument.ensures.number (c.in_ok-result.ensures.number ∙ ap fresh_number first) (c.in_ok-number.ensures.number ∙ ap fresh_number second) in
    let start : State = record { context = c.enter.new.state.context; sight = c.enter.new.state.sight; spot = c.advance.new.spot } in
    let at : start ≡ lambda_state known old e h a r n are = lambda_as known old e h a r n are start (c.in_ok-number.ensures.context ∙ ap (λ (cs : ContextEntries). cs ++ Binder n c.existential-parameter.result ∷ []) second) c.existential-parameter.ensures c.in_ok-number.ensures.sight (c.advance.ensures ∙ ap (λ (s : Spot). passed s 1) c.in_ok-number.ensures.spot) in
    (omega arith, (search rules, (subst (λ (s : State). IsAsked known s 0 e) (sym at) (asked_body known old e h a r n are), subst (λ (s : State). IsTypeIn known.arity s.context 0 c.existential-result_type.result) (sym at) (subst (IsTypeIn known.arity (lambda_state known old e h a r n are).context 0) (sym c.existential-result_type.ensures) (inner_typed known old e h a r n are)))))

pub finding::find_lambda-returns-in_err-check-clause-err : goal.finding::find_lambda-returns-in_err-check-clause-err
finding::find_lambda-returns-in_err-check-clause-err g t c =
    let known : Known = g.K.TargetTypes.known c.args.known.now in
    let old : State = c.args.state.now in
    let e : Term = c.args.body.now in
    let h : IsAsked known old 0 (terms.lambda e) = c.requires.asked in
    let a : ℕ = c.in_ok-argument.argument in
    let r : ℕ = c.in_ok-result.result in
    let n : ℕ = c.in_ok-number.number in
    let first : c.declare.new.context ≡ old.context ++ Exists a ∷ [] = c.in_ok-argument.ensures.ok in
    let second : c.declare-2.new.context ≡ (old.context ++ Exists a ∷ []) ++ Exists r ∷ [] = c.in_ok-result.ensures.ok ∙ ap (λ (cs : ContextEntries). cs ++ Exists r ∷ []) first in
    let are : a ∷ r ∷ n ∷ [] ≡ fresh_numbers 3 old.context = three_fresh old.context a r n c.in_ok-argument.ensures.number (c.in_ok-result.ensures.number ∙ ap fresh_number first) (c.in_ok-number.ensures.number ∙ ap fresh_number second) in
    let start : State = record { context = c.enter.new.state.context; sight = c.enter.new.state.sight; spot = c.advance.new.spot } in
    let at : start ≡ lambda_state known old e h a r n are = lambda_as known old e h a r n are start (c.in_ok-number.ensures.context ∙ ap (λ (cs : ContextEntries). cs ++ Binder n c.existential-parameter.result ∷ []) second) c.existential-parameter.ensures c.in_ok-number.ensures.sight (c.advance.ensures ∙ ap (λ (s : Spot). passed s 1) c.in_ok-number.ensures.spot) in
    let w : (o : TermOutcome) → ChecksIn known start e c.existential-result_type.result o → ChecksIn known (lambda_state known old e h a r n are) e (existential r) o = λ o d. subst (λ (u : Open). ChecksIn known (lambda_state known old e h a r n are) e u o) c.existential-result_type.ensures (subst (λ (s : State). ChecksIn known s e c.existential-result_type.result o) at d) in
    let p = err_from_is_err_and c.from_residual-in_err-check.result c.from_residual-in_err-check.ensures.1 in
    rw (p.1, p.2) (stopped_as start.spot.member old.spot.member (λ stop. ChecksIn known start e c.existential-result_type.result (stops stop)) (λ stop. FindsIn known old (terms.lambda e) (gives_none stop)) _ (ap (λ (s : State). s.spot.member) at) (λ stop d. lambda_stops known old e a r n are stop (w (stops stop) d)) c.in_err-check.ensures.err)

pub finding::find_lambda-leave-requires : goal.finding::find_lambda-leave-requires
finding::find_lambda-leave-requires g t c =
    let known : Known = g.K.TargetTypes.known c.args.known.now in
    let old : State = c.args.state.now in
    let e : Term = c.args.body.now in
    let h : IsAsked known old 0 (terms.lambda e) = c.requires.asked in
    let a : ℕ = c.in_ok-argument.argument in
    let r : ℕ = c.in_ok-result.result in
    let n : ℕ = c.in_ok-number.number in
    let first : c.declare.new.context ≡ old.context ++ Exists a ∷ [] = c.in_ok-argument.ensures.ok in
    let second : c.declare-2.new.context ≡ (old.context ++ Exists a ∷ []) ++ Exists r ∷ [] = c.in_ok-result.ensures.ok ∙ ap (λ (cs : ContextEntries). cs ++ Exists r ∷ []) first in
    let are : a ∷ r ∷ n ∷ [] ≡ fresh_numbers 3 old.context = three_fresh old.context a r n c.in_ok-argument.ensures.number (c.in_ok-result.ensures.number ∙ ap fresh_number first) (c.in_ok-number.ensures.number ∙ ap fresh_number second) in
    let start : State = record { context = c.enter.new.state.context; sight = c.enter.new.state.sight; spot = c.advance.new.spot } in
    let at : start ≡ lambda_state known old e h a r n are = lambda_as known old e h a r n are start (c.in_ok-number.ensures.context ∙ ap (λ (cs : ContextEntries). cs ++ Binder n c.existential-parameter.result ∷ []) second) c.existential-parameter.ensures c.in_ok-number.ensures.sight (c.advance.ensures ∙ ap (λ (s : Spot). passed s 1) c.in_ok-number.ensures.spot) in
    let v : IsChecked (ChecksIn known (lambda_state known old e h a r n are) e (existential r)) (lambda_state known old e h a r n are) c.check.new.state (length (term_nodes e)) = checked_as known start (lambda_state known old e h a r n are) at e c.existential-result_type.result (existential r) c.existential-result_type.ensures c.check.new.state (length (term_nodes e)) c.in_ok-check.ensures.ok in
    under_some c.check.new.state.sight old.sight n v.sight

pub finding::find_lambda-returns-clause-ok : goal.finding::find_lambda-returns-clause-ok
finding::find_lambda-returns-clause-ok g t c =
    let known : Known = g.K.TargetTypes.known c.args.known.now in
    let old : State = c.args.state.now in
    let e : Term = c.args.body.now in
    let h : IsAsked known old 0 (terms.lambda e) = c.requires.asked in
    let a : ℕ = c.in_ok-argument.argument in
    let r : ℕ = c.in_ok-result.result in
    let n : ℕ = c.in_ok-number.number in
    let first : c.declare.new.context ≡ old.context ++ Exists a ∷ [] = c.in_ok-argument.ensures.ok in
    let second : c.declare-2.new.context ≡ (old.context ++ Exists a ∷ []) ++ Exists r ∷ [] = c.in_ok-result.ensures.ok ∙ ap (λ (cs : ContextEntries). cs ++ Exists r ∷ []) first in
    let are : a ∷ r ∷ n ∷ [] ≡ fresh_numbers 3 old.context = three_fresh old.context a r n c.in_ok-argument.ensures.number (c.in_ok-result.ensures.number ∙ ap fresh_number first) (c.in_ok-number.ensures.number ∙ ap fresh_number second) in
    let start : State = record { context = c.enter.new.state.context; sight = c.enter.new.state.sight; spot = c.advance.new.spot } in
    let at : start ≡ lambda_state known old e h a r n are = lambda_as known old e h a r n are start (c.in_ok-number.ensures.context ∙ ap (λ (cs : ContextEntries). cs ++ Binder n c.existential-parameter.result ∷ []) second) c.existential-parameter.ensures c.in_ok-number.ensures.sight (c.advance.ensures ∙ ap (λ (s : Spot). passed s 1) c.in_ok-number.ensures.spot) in
    let v : IsChecked (ChecksIn known (lambda_state known old e h a r n are) e (existential r)) (lambda_state known old e h a r n are) c.check.new.state (length (term_nodes e)) = checked_as known start (lambda_state known old e h a r n are) at e c.existential-result_type.result (existential r) c.existential-result_type.ensures c.check.new.state (length (term_nodes e)) c.in_ok-check.ensures.ok in
    lambda_found known old e a r n are c.check.new.state c.leave.new.state c.in_ok-found.found v (c.in_ok-leave.ensures.context ∙ ap (λ (u : Open). dropped_from (Binder n u) c.check.new.state.context) c.existential-parameter.ensures) c.in_ok-leave.ensures.sight c.in_ok-leave.ensures.spot (c.in_ok-found.ensures ∙ ap (λ (u : Open). arrow u c.existential-result_type.result) c.existential-parameter.ensures ∙ ap (arrow (existential a)) c.existential-result_type.ensures)

pub finding::find_annotated-written-requires : goal.finding::find_annotated-written-requires
finding::find_annotated-written-requires g t c =
    let known : Known = g.K.TargetTypes.known c.args.known.now in
    let old : State = c.args.state.now in
    let e : Term = c.args.inside.now in
    let ty : Ty = c.args.ty.now in
    let h : IsAsked known old 0 (terms.annotated e ty) = c.requires.asked in
    omega (arith, h.nodes, length-append (term_nodes e) (ty_nodes ty))

pub finding::find_annotated-advance-requires : goal.finding::find_annotated-advance-requires
finding::find_annotated-advance-requires g t c =
    let known : Known = g.K.TargetTypes.known c.args.known.now in
    let old : State = c.args.state.now in
    let e : Term = c.args.inside.now in
    let ty : Ty = c.args.ty.now in
    let h : IsAsked known old 0 (terms.annotated e ty) = c.requires.asked in
    omega (arith, h.nodes)

pub finding::find_annotated-check-requires : goal.finding::find_annotated-check-requires
finding::find_annotated-check-requires g t c κs within =
    let known : Known = g.K.TargetTypes.known c.args.known.now in
    let old : State = c.args.state.now in
    let e : Term = c.args.inside.now in
    let ty : Ty = c.args.ty.now in
    let h : IsAsked known old 0 (terms.annotated e ty) = c.requires.asked in
    let of : Open = c.in_ok-of.of in
    let is : of ≡ written old.sight.seen ty = c.in_ok-of.ensures in
    let start : State = record { context = old.context; sight = old.sight; spot = c.advance.new.spot } in
    let at : start ≡ ahead 1 old = (ap (λ (s : Spot). let st : State = record { context = old.context; sight = old.sight; spot = s } in st) c.advance.ensures) in
    (omega arith, (search rules, (subst (λ (s : State). IsAsked known s 0 e) (sym at) (asked_inside known old e ty h), subst (IsTypeIn known.arity old.context 0) (sym is) (annotation_typed known old e ty h))))

pub finding::find_annotated-returns-in_err-check-clause-err : goal.finding::find_annotated-returns-in_err-check-clause-err
finding::find_annotated-returns-in_err-check-clause-err g t c =
    let known : Known = g.K.TargetTypes.known c.args.known.now in
    let old : State = c.args.state.now in
    let e : Term = c.args.inside.now in
    let ty : Ty = c.args.ty.now in
    let h : IsAsked known old 0 (terms.annotated e ty) = c.requires.asked in
    let of : Open = c.in_ok-of.of in
    let is : of ≡ written old.sight.seen ty = c.in_ok-of.ensures in
    let start : State = record { context = old.context; sight = old.sight; spot = c.advance.new.spot } in
    let at : start ≡ ahead 1 old = (ap (λ (s : Spot). let st : State = record { context = old.context; sight = old.sight; spot = s } in st) c.advance.ensures) in
    let p = err_from_is_err_and c.from_residual-in_err-check.result c.from_residual-in_err-check.ensures.1 in
    rw (p.1, p.2) (stopped_as start.spot.member old.spot.member (λ stop. ChecksIn known start e of (stops stop)) (λ stop. FindsIn known old (terms.annotated e ty) (gives_none stop)) _ (ap (λ (s : State). s.spot.member) at) (λ stop d. annotated_stops known old e ty of is stop (subst (λ (s : State). ChecksIn known s e of (stops stop)) at d)) c.in_err-check.ensures.err)

pub finding::find_annotated-pass_type-requires : goal.finding::find_annotated-pass_type-requires
finding::find_annotated-pass_type-requires g t c =
    let known : Known = g.K.TargetTypes.known c.args.known.now in
    let old : State = c.args.state.now in
    let e : Term = c.args.inside.now in
    let ty : Ty = c.args.ty.now in
    let h : IsAsked known old 0 (terms.annotated e ty) = c.requires.asked in
    let of : Open = c.in_ok-of.of in
    let is : of ≡ written old.sight.seen ty = c.in_ok-of.ensures in
    let start : State = record { context = old.context; sight = old.sight; spot = c.advance.new.spot } in
    let at : start ≡ ahead 1 old = (ap (λ (s : Spot). let st : State = record { context = old.context; sight = old.sight; spot = s } in st) c.advance.ensures) in
    let v : IsChecked (ChecksIn known (ahead 1 old) e of) (ahead 1 old) c.check.new.state (length (term_nodes e)) = checked_as known start (ahead 1 old) at e of of refl c.check.new.state (length (term_nodes e)) c.in_ok-check.ensures.ok in
    behind_room old.spot c.check.new.state.spot (length (term_nodes e)) (length (ty_nodes ty)) (length (term_nodes (terms.annotated e ty))) v.spot (omega (arith, length-append (term_nodes e) (ty_nodes ty))) h.nodes

pub finding::find_annotated-returns-clause-ok : goal.finding::find_annotated-returns-clause-ok
finding::find_annotated-returns-clause-ok g t c =
    let known : Known = g.K.TargetTypes.known c.args.known.now in
    let old : State = c.args.state.now in
    let e : Term = c.args.inside.now in
    let ty : Ty = c.args.ty.now in
    let h : IsAsked known old 0 (terms.annotated e ty) = c.requires.asked in
    let of : Open = c.in_ok-of.of in
    let is : of ≡ written old.sight.seen ty = c.in_ok-of.ensures in
    let start : State = record { context = old.context; sight = old.sight; spot = c.advance.new.spot } in
    let at : start ≡ ahead 1 old = (ap (λ (s : Spot). let st : State = record { context = old.context; sight = old.sight; spot = s } in st) c.advance.ensures) in
    let v : IsChecked (ChecksIn known (ahead 1 old) e of) (ahead 1 old) c.check.new.state (length (term_nodes e)) = checked_as known start (ahead 1 old) at e of of refl c.check.new.state (length (term_nodes e)) c.in_ok-check.ensures.ok in
    annotated_found known old e ty of is c.check.new.state c.pass_type.new.spot v c.pass_type.ensures

pub finding::find_tuple-advance-requires : goal.finding::find_tuple-advance-requires
finding::find_tuple-advance-requires g t c =
    let known : Known = g.K.TargetTypes.known c.args.known.now in
    let old : State = c.args.state.now in
    let es : Terms = terms_of c.args.parts.now in
    let h : IsAsked known old 0 (terms.tuple es) = c.requires.asked in
    omega (arith, h.nodes)

pub finding::find_tuple-check_each-requires : goal.finding::find_tuple-check_each-requires
finding::find_tuple-check_each-requires g t c κs within =
    let known : Known = g.K.TargetTypes.known c.args.known.now in
    let old : State = c.args.state.now in
    let es : Terms = terms_of c.args.parts.now in
    let h : IsAsked known old 0 (terms.tuple es) = c.requires.asked in
    let ns : List ℕ = c.in_ok-numbers.numbers.items in
    let many : ns ≡ fresh_numbers (length c.args.parts.now) old.context = search rules in
    let are : ns ≡ fresh_numbers (terms_count es) old.context = many ∙ ap (λ (k : ℕ). fresh_numbers k old.context) (sym (terms_counted c.args.parts.now)) in
    let ts : List Open = c.in_ok-types.types.items in
    let these : ts ≡ existentials ns = search rules in
    let us : List Open = c.deref-2.result.now in
    let read : us ≡ ts = search rules in
    let types : opens_of us ≡ opens_of (existentials ns) = ap opens_of (read ∙ these) in
    let start : State = record { context = c.declare_all.new.context; sight = old.sight; spot = c.advance.new.spot } in
    let at : start ≡ with_new old ns 1 = new_as old ns 1 c.declare_all.new.context c.advance.new.spot c.in_ok-numbers.ensures.ok c.advance.ensures in
    (omega arith, (search rules, (subst (λ (s : State). AreAsked known s es) (sym at) (asked_parts known old es ns (all_new_of old.context (terms_count es) ns are) h), (subst (λ (s : State). AreTypes known.arity s.context (opens_of us)) (sym at) (subst (AreTypes known.arity (with_new old ns 1).context) (sym types) (new_types known.arity old.context ns)), tuple_many c.args.parts.now us ns old.context many (read ∙ these)))))

pub finding::find_tuple-returns-in_err-check_each-clause-err : goal.finding::find_tuple-returns-in_err-check_each-clause-err
finding::find_tuple-returns-in_err-check_each-clause-err g t c =
    let known : Known = g.K.TargetTypes.known c.args.known.now in
    let old : State = c.args.state.now in
    let es : Terms = terms_of c.args.parts.now in
    let h : IsAsked known old 0 (terms.tuple es) = c.requires.asked in
    let ns : List ℕ = c.in_ok-numbers.numbers.items in
    let many : ns ≡ fresh_numbers (length c.args.parts.now) old.context = search rules in
    let are : ns ≡ fresh_numbers (terms_count es) old.context = many ∙ ap (λ (k : ℕ). fresh_numbers k old.context) (sym (terms_counted c.args.parts.now)) in
    let ts : List Open = c.in_ok-types.types.items in
    let these : ts ≡ existentials ns = search rules in
    let us : List Open = c.deref-2.result.now in
    let read : us ≡ ts = search rules in
    let types : opens_of us ≡ opens_of (existentials ns) = ap opens_of (read ∙ these) in
    let start : State = record { context = c.declare_all.new.context; sight = old.sight; spot = c.advance.new.spot } in
    let at : start ≡ with_new old ns 1 = new_as old ns 1 c.declare_all.new.context c.advance.new.spot c.in_ok-numbers.ensures.ok c.advance.ensures in
    let w : (o : TermOutcome) → ChecksAllIn known start es (opens_of us) o → ChecksAllIn known (with_new old ns 1) es (opens_of us) o = λ o d. subst (λ (s : State). ChecksAllIn known s es (opens_of us) o) at d in
    let p = err_from_is_err_and c.from_residual-in_err-check_each.result c.from_residual-in_err-check_each.ensures.1 in
    rw (p.1, p.2) (stopped_as start.spot.member old.spot.member (λ stop. ChecksAllIn known start es (opens_of us) (stops stop)) (λ stop. FindsIn known old (terms.tuple es) (gives_none stop)) _ (ap (λ (s : State). s.spot.member) at) (λ stop d. tuple_stops known old es ns are (opens_of us) types stop (w (stops stop) d)) c.in_err-check_each.ensures.err)

pub finding::find_tuple-returns-clause-ok : goal.finding::find_tuple-returns-clause-ok
finding::find_tuple-returns-clause-ok g t c =
    let known : Known = g.K.TargetTypes.known c.args.known.now in
    let old : State = c.args.state.now in
    let es : Terms = terms_of c.args.parts.now in
    let h : IsAsked known old 0 (terms.tuple es) = c.requires.asked in
    let ns : List ℕ = c.in_ok-numbers.numbers.items in
    let many : ns ≡ fresh_numbers (length c.args.parts.now) old.context = search rules in
    let are : ns ≡ fresh_numbers (terms_count es) old.context = many ∙ ap (λ (k : ℕ). fresh_numbers k old.context) (sym (terms_counted c.args.parts.now)) in
    let ts : List Open = c.in_ok-types.types.items in
    let these : ts ≡ existentials ns = search rules in
    let us : List Open = c.deref-2.result.now in
    let read : us ≡ ts = search rules in
    let types : opens_of us ≡ opens_of (existentials ns) = ap opens_of (read ∙ these) in
    let start : State = record { context = c.declare_all.new.context; sight = old.sight; spot = c.advance.new.spot } in
    let at : start ≡ with_new old ns 1 = new_as old ns 1 c.declare_all.new.context c.advance.new.spot c.in_ok-numbers.ensures.ok c.advance.ensures in
    let v : IsChecked (ChecksAllIn known (with_new old ns 1) es (opens_of us)) (with_new old ns 1) c.check_each.new.state (length (terms_nodes es)) = all_checked_as known start (with_new old ns 1) at es (opens_of us) c.check_each.new.state (length (terms_nodes es)) c.in_ok-check_each.ensures.ok in
    tuple_found known old es ns are (opens_of us) types c.check_each.new.state c.tuple.result v (c.tuple.ensures ∙ ap (λ (vs : List Open). tuple (opens_of vs)) (sym read))

pub finding::find_list-advance-requires : goal.finding::find_list-advance-requires
finding::find_list-advance-requires g t c =
    let known : Known = g.K.TargetTypes.known c.args.known.now in
    let old : State = c.args.state.now in
    let es : Terms = terms_of c.args.elements.now in
    let h : IsAsked known old 0 (terms.list es) = c.requires.asked in
    omega (arith, h.nodes)

pub finding::find_list-check_all_against-requires : goal.finding::find_list-check_all_against-requires
finding::find_list-check_all_against-requires g t c κs within =
    let known : Known = g.K.TargetTypes.known c.args.known.now in
    let old : State = c.args.state.now in
    let es : Terms = terms_of c.args.elements.now in
    let h : IsAsked known old 0 (terms.list es) = c.requires.asked in
    let n : ℕ = c.in_ok-number.number in
    let k : ℕ = length c.args.elements.now in
    let x : Open = c.existential-element.result in
    let start : State = record { context = c.declare.new.context; sight = old.sight; spot = c.advance.new.spot } in
    let at : start ≡ with_new old (n ∷ []) 1 = new_as old (n ∷ []) 1 c.declare.new.context c.advance.new.spot c.in_ok-number.ensures.ok c.advance.ensures in
    (omega arith, (search rules, (subst (λ (s : State). AreAsked known s es) (sym at) (asked_elements known old es (n ∷ []) (one_new old.context n c.in_ok-number.ensures.number) h), subst (λ (s : State). IsTypeIn known.arity s.context 0 x) (sym at) (subst (IsTypeIn known.arity (with_new old (n ∷ []) 1).context 0) (sym c.existential-element.ensures) (new_typed known.arity old.context n)))))

pub finding::find_list-returns-in_err-check_all_against-clause-err : goal.finding::find_list-returns-in_err-check_all_against-clause-err
finding::find_list-returns-in_err-check_all_against-clause-err g t c =
    let known : Known = g.K.TargetTypes.known c.args.known.now in
    let old : State = c.args.state.now in
    let es : Terms = terms_of c.args.elements.now in
    let h : IsAsked known old 0 (terms.list es) = c.requires.asked in
    let n : ℕ = c.in_ok-number.number in
    let k : ℕ = length c.args.elements.now in
    let x : Open = c.existential-element.result in
    let start : State = record { context = c.declare.new.context; sight = old.sight; spot = c.advance.new.spot } in
    let at : start ≡ with_new old (n ∷ []) 1 = new_as old (n ∷ []) 1 c.declare.new.context c.advance.new.spot c.in_ok-number.ensures.ok c.advance.ensures in
    let w : (o : TermOutcome) → ChecksAllIn known start es (repeated k x) o → ChecksAllIn known (with_new old (n ∷ []) 1) es (repeated k (existential n)) o = λ o d. subst (λ (u : Open). ChecksAllIn known (with_new old (n ∷ []) 1) es (repeated k u) o) c.existential-element.ensures (subst (λ (s : State). ChecksAllIn known s es (repeated k x) o) at d) in
    let p = err_from_is_err_and c.from_residual-in_err-check_all_against.result c.from_residual-in_err-check_all_against.ensures.1 in
    rw (p.1, p.2) (stopped_as start.spot.member old.spot.member (λ stop. ChecksAllIn known start es (repeated k x) (stops stop)) (λ stop. FindsIn known old (terms.list es) (gives_none stop)) _ (ap (λ (s : State). s.spot.member) at) (λ stop d. list_stops known old es n k c.in_ok-number.ensures.number (sym (terms_counted c.args.elements.now)) stop (w (stops stop) d)) c.in_err-check_all_against.ensures.err)

pub finding::find_list-returns-clause-ok : goal.finding::find_list-returns-clause-ok
finding::find_list-returns-clause-ok g t c =
    let known : Known = g.K.TargetTypes.known c.args.known.now in
    let old : State = c.args.state.now in
    let es : Terms = terms_of c.args.elements.now in
    let h : IsAsked known old 0 (terms.list es) = c.requires.asked in
    let n : ℕ = c.in_ok-number.number in
    let k : ℕ = length c.args.elements.now in
    let x : Open = c.existential-element.result in
    let start : State = record { context = c.declare.new.context; sight = old.sight; spot = c.advance.new.spot } in
    let at : start ≡ with_new old (n ∷ []) 1 = new_as old (n ∷ []) 1 c.declare.new.context c.advance.new.spot c.in_ok-number.ensures.ok c.advance.ensures in
    let v : IsChecked (ChecksAllIn known (with_new old (n ∷ []) 1) es (repeated k x)) (with_new old (n ∷ []) 1) c.check_all_against.new.state (length (terms_nodes es)) = all_checked_as known start (with_new old (n ∷ []) 1) at es (repeated k x) c.check_all_against.new.state (length (terms_nodes es)) c.in_ok-check_all_against.ensures.ok in
    let u : IsChecked (ChecksAllIn known (with_new old (n ∷ []) 1) es (repeated k (existential n))) (with_new old (n ∷ []) 1) c.check_all_against.new.state (length (terms_nodes es)) = subst (λ (y : Open). IsChecked (ChecksAllIn known (with_new old (n ∷ []) 1) es (repeated k y)) (with_new old (n ∷ []) 1) c.check_all_against.new.state (length (terms_nodes es))) c.existential-element.ensures v in
    list_found known old es n k c.in_ok-number.ensures.number (sym (terms_counted c.args.elements.now)) c.check_all_against.new.state c.in_ok-found.found u (c.in_ok-found.ensures ∙ ap list_of c.existential-element.ensures)

pub finding::find_both-check-requires : goal.finding::find_both-check-requires
finding::find_both-check-requires g t c κs within =
    let known : Known = g.K.TargetTypes.known c.args.known.now in
    let old : State = c.args.state.now in
    let a : Term = c.args.first.now in
    let b : Term = c.args.second.now in
    let h : AreAsked known (ahead 1 old) (terms.more a (terms.more b terms.none)) = c.requires.asked in
    let start : State = record { context = old.context; sight = old.sight; spot = c.advance.new.spot } in
    let at : start ≡ ahead 1 old = (ap (λ (s : Spot). let st : State = record { context = old.context; sight = old.sight; spot = s } in st) c.advance.ensures) in
    (omega arith, (search rules, (subst (λ (s : State). IsAsked known s 0 a) (sym at) (asked_first known (ahead 1 old) a b h), (subst (IsTypeIn known.arity old.context 0) (sym c.boolean-truth.ensures) (boolean_typed known h.ready.known.formed old.context)))))

pub finding::find_both-returns-in_err-check-clause-err : goal.finding::find_both-returns-in_err-check-clause-err
finding::find_both-returns-in_err-check-clause-err g t c =
    let known : Known = g.K.TargetTypes.known c.args.known.now in
    let old : State = c.args.state.now in
    let a : Term = c.args.first.now in
    let b : Term = c.args.second.now in
    let h : AreAsked known (ahead 1 old) (terms.more a (terms.more b terms.none)) = c.requires.asked in
    let start : State = record { context = old.context; sight = old.sight; spot = c.advance.new.spot } in
    let at : start ≡ ahead 1 old = (ap (λ (s : Spot). let st : State = record { context = old.context; sight = old.sight; spot = s } in st) c.advance.ensures) in
    let p = err_from_is_err_and c.from_residual.result c.from_residual.ensures.1 in
    rw (p.1, p.2) (stopped_as start.spot.member old.spot.member (λ stop. ChecksIn known start a c.boolean-truth.result (stops stop)) (λ stop. ChecksAllIn known (ahead 1 old) (terms.more a (terms.more b terms.none)) (more boolean (more boolean none)) (stops stop)) _ (ap (λ (s : State). s.spot.member) at) (λ stop d. joined_stops_first known old a b stop (subst (λ (u : Open). ChecksIn known (ahead 1 old) a u (stops stop)) c.boolean-truth.ensures (subst (λ (s : State). ChecksIn known s a c.boolean-truth.result (stops stop)) at d))) c.in_err-check.ensures.err)

pub finding::find_both-check-requires-2 : goal.finding::find_both-check-requires-2
finding::find_both-check-requires-2 g t c κs within =
    let known : Known = g.K.TargetTypes.known c.args.known.now in
    let old : State = c.args.state.now in
    let a : Term = c.args.first.now in
    let b : Term = c.args.second.now in
    let h : AreAsked known (ahead 1 old) (terms.more a (terms.more b terms.none)) = c.requires.asked in
    let start : State = record { context = old.context; sight = old.sight; spot = c.advance.new.spot } in
    let at : start ≡ ahead 1 old = (ap (λ (s : Spot). let st : State = record { context = old.context; sight = old.sight; spot = s } in st) c.advance.ensures) in
    let mid : State = c.check.new.state in
    let v : IsChecked (ChecksIn known (ahead 1 old) a boolean) (ahead 1 old) mid (length (term_nodes a)) = checked_as known start (ahead 1 old) at a c.boolean-truth.result boolean c.boolean-truth.ensures mid (length (term_nodes a)) c.in_ok-check.ensures.ok in
    let on : GoesOn known (ahead 1 old) mid (length (term_nodes a)) = checked_on known (ahead 1 old) mid h.ready (length (term_nodes a)) a boolean h.formed.0 (boolean_typed known h.ready.known.formed old.context) v in
    (omega arith, (search rules, (asked_second known (ahead 1 old) a b h mid on, (subst (IsTypeIn known.arity mid.context 0) (sym c.boolean-truth.ensures) (boolean_typed known h.ready.known.formed mid.context)))))

pub finding::find_both-returns-in_err-check-2-clause-err : goal.finding::find_both-returns-in_err-check-2-clause-err
finding::find_both-returns-in_err-check-2-clause-err g t c =
    let known : Known = g.K.TargetTypes.known c.args.known.now in
    let old : State = c.args.state.now in
    let a : Term = c.args.first.now in
    let b : Term = c.args.second.now in
    let h : AreAsked known (ahead 1 old) (terms.more a (terms.more b terms.none)) = c.requires.asked in
    let start : State = record { context = old.context; sight = old.sight; spot = c.advance.new.spot } in
    let at : start ≡ ahead 1 old = (ap (λ (s : Spot). let st : State = record { context = old.context; sight = old.sight; spot = s } in st) c.advance.ensures) in
    let mid : State = c.check.new.state in
    let v : IsChecked (ChecksIn known (ahead 1 old) a boolean) (ahead 1 old) mid (length (term_nodes a)) = checked_as known start (ahead 1 old) at a c.boolean-truth.result boolean c.boolean-truth.ensures mid (length (term_nodes a)) c.in_ok-check.ensures.ok in
    let on : GoesOn known (ahead 1 old) mid (length (term_nodes a)) = checked_on known (ahead 1 old) mid h.ready (length (term_nodes a)) a boolean h.formed.0 (boolean_typed known h.ready.known.formed old.context) v in
    let p = err_from_is_err_and c.from_residual-in_err-check-2.result c.from_residual-in_err-check-2.ensures.1 in
    rw (p.1, p.2) (stopped_as mid.spot.member old.spot.member (λ stop. ChecksIn known mid b c.boolean-truth.result (stops stop)) (λ stop. ChecksAllIn known (ahead 1 old) (terms.more a (terms.more b terms.none)) (more boolean (more boolean none)) (stops stop)) _ (ap (λ (s : Spot). s.member) v.spot) (λ stop d. joined_stops_second known old a b mid stop v (subst (λ (u : Open). ChecksIn known mid b u (stops stop)) c.boolean-truth.ensures d)) c.in_err-check-2.ensures.err)

pub finding::find_both-returns-clause-ok : goal.finding::find_both-returns-clause-ok
finding::find_both-returns-clause-ok g t c =
    let known : Known = g.K.TargetTypes.known c.args.known.now in
    let old : State = c.args.state.now in
    let a : Term = c.args.first.now in
    let b : Term = c.args.second.now in
    let h : AreAsked known (ahead 1 old) (terms.more a (terms.more b terms.none)) = c.requires.asked in
    let start : State = record { context = old.context; sight = old.sight; spot = c.advance.new.spot } in
    let at : start ≡ ahead 1 old = (ap (λ (s : Spot). let st : State = record { context = old.context; sight = old.sight; spot = s } in st) c.advance.ensures) in
    let mid : State = c.check.new.state in
    let v : IsChecked (ChecksIn known (ahead 1 old) a boolean) (ahead 1 old) mid (length (term_nodes a)) = checked_as known start (ahead 1 old) at a c.boolean-truth.result boolean c.boolean-truth.ensures mid (length (term_nodes a)) c.in_ok-check.ensures.ok in
    let on : GoesOn known (ahead 1 old) mid (length (term_nodes a)) = checked_on known (ahead 1 old) mid h.ready (length (term_nodes a)) a boolean h.formed.0 (boolean_typed known h.ready.known.formed old.context) v in
    let u : IsChecked (ChecksIn known mid b boolean) mid c.check-2.new.state (length (term_nodes b)) = checked_as known mid mid refl b c.boolean-truth.result boolean c.boolean-truth.ensures c.check-2.new.state (length (term_nodes b)) c.in_ok-check-2.ensures.ok in
    joined_found known old a b mid c.check-2.new.state c.boolean-truth.result v u c.boolean-truth.ensures

pub finding::find_conditional-advance-requires : goal.finding::find_conditional-advance-requires
finding::find_conditional-advance-requires g t c =
    let known : Known = g.K.TargetTypes.known c.args.known.now in
    let old : State = c.args.state.now in
    let a : Term = c.args.condition.now in
    let b : Term = c.args.consequent.now in
    let d : Term = c.args.alternative.now in
    let h : IsAsked known old 0 (terms.conditional a b d) = c.requires.asked in
    omega (arith, h.nodes)

pub finding::find_conditional-check-requires : goal.finding::find_conditional-check-requires
finding::find_conditional-check-requires g t c κs within =
    let known : Known = g.K.TargetTypes.known c.args.known.now in
    let old : State = c.args.state.now in
    let a : Term = c.args.condition.now in
    let b : Term = c.args.consequent.now in
    let d : Term = c.args.alternative.now in
    let h : IsAsked known old 0 (terms.conditional a b d) = c.requires.asked in
    let formed = asked_formed known old (terms.conditional a b d) h in
    let start : State = record { context = old.context; sight = old.sight; spot = c.advance.new.spot } in
    let at : start ≡ ahead 1 old = (ap (λ (s : Spot). let st : State = record { context = old.context; sight = old.sight; spot = s } in st) c.advance.ensures) in
    (omega arith, (search rules, (subst (λ (s : State). IsAsked known s 0 a) (sym at) (asked_condition known old a b d h), (subst (IsTypeIn known.arity old.context 0) (sym c.boolean-truth.ensures) (boolean_typed known h.ready.known.formed old.context)))))

pub finding::find_conditional-returns-in_err-check-clause-err : goal.finding::find_conditional-returns-in_err-check-clause-err
finding::find_conditional-returns-in_err-check-clause-err g t c =
    let known : Known = g.K.TargetTypes.known c.args.known.now in
    let old : State = c.args.state.now in
    let a : Term = c.args.condition.now in
    let b : Term = c.args.consequent.now in
    let d : Term = c.args.alternative.now in
    let h : IsAsked known old 0 (terms.conditional a b d) = c.requires.asked in
    let formed = asked_formed known old (terms.conditional a b d) h in
    let start : State = record { context = old.context; sight = old.sight; spot = c.advance.new.spot } in
    let at : start ≡ ahead 1 old = (ap (λ (s : Spot). let st : State = record { context = old.context; sight = old.sight; spot = s } in st) c.advance.ensures) in
    let p = err_from_is_err_and c.from_residual.result c.from_residual.ensures.1 in
    rw (p.1, p.2) (stopped_as start.spot.member old.spot.member (λ stop. ChecksIn known start a c.boolean-truth.result (stops stop)) (λ stop. FindsIn known old (terms.conditional a b d) (gives_none stop)) _ (ap (λ (s : State). s.spot.member) at) (λ stop k. condition_stops known old a b d stop (subst (λ (u : Open). ChecksIn known (ahead 1 old) a u (stops stop)) c.boolean-truth.ensures (subst (λ (s : State). ChecksIn known s a c.boolean-truth.result (stops stop)) at k))) c.in_err-check.ensures.err)

pub finding::find_conditional-check-requires-2 : goal.finding::find_conditional-check-requires-2
finding::find_conditional-check-requires-2 g t c κs within =
    let known : Known = g.K.TargetTypes.known c.args.known.now in
    let old : State = c.args.state.now in
    let a : Term = c.args.condition.now in
    let b : Term = c.args.consequent.now in
    let d : Term = c.args.alternative.now in
    let h : IsAsked known old 0 (terms.conditional a b d) = c.requires.asked in
    let formed = asked_formed known old (terms.conditional a b d) h in
    let start : State = record { context = old.context; sight = old.sight; spot = c.advance.new.spot } in
    let at : start ≡ ahead 1 old = (ap (λ (s : Spot). let st : State = record { context = old.context; sight = old.sight; spot = s } in st) c.advance.ensures) in
    let mid : State = c.check.new.state in
    let v : IsChecked (ChecksIn known (ahead 1 old) a boolean) (ahead 1 old) mid (length (term_nodes a)) = checked_as known start (ahead 1 old) at a c.boolean-truth.result boolean c.boolean-truth.ensures mid (length (term_nodes a)) c.in_ok-check.ensures.ok in
    let on : GoesOn known (ahead 1 old) mid (length (term_nodes a)) = checked_on known (ahead 1 old) mid (on_ahead known old 1 h.ready) (length (term_nodes a)) a boolean formed.0 (boolean_typed known h.ready.known.formed old.context) v in
    let n : ℕ = c.in_ok-number.number in
    let fresh : n ≡ fresh_number mid.context = c.in_ok-number.ensures.number in
    let next : State = record { context = c.declare.new.context; sight = mid.sight; spot = mid.spot } in
    let there : next ≡ declared mid (n ∷ []) = ap (λ (cs : ContextEntries). let st : State = record { context = cs; sight = mid.sight; spot = mid.spot } in st) c.in_ok-number.ensures.ok in
    let far_on : GoesOn known (ahead 1 old) (declared mid (n ∷ [])) (length (term_nodes a)) = no_more known (ahead 1 old) mid (declared mid (n ∷ [])) (length (term_nodes a)) on (declared_on known mid n fresh on.ready) in
    (omega arith, (search rules, (subst (λ (s : State). IsAsked known s 0 b) (sym there) (asked_consequent known old a b d h (declared mid (n ∷ [])) far_on), (subst (λ (s : State). IsTypeIn known.arity s.context 0 c.existential-found.result) (sym there) (subst (IsTypeIn known.arity (declared mid (n ∷ [])).context 0) (sym c.existential-found.ensures) (new_typed known.arity mid.context n))))))

pub finding::find_conditional-returns-in_err-check-2-clause-err : goal.finding::find_conditional-returns-in_err-check-2-clause-err
finding::find_conditional-returns-in_err-check-2-clause-err g t c =
    let known : Known = g.K.TargetTypes.known c.args.known.now in
    let old : State = c.args.state.now in
    let a : Term = c.args.condition.now in
    let b : Term = c.args.consequent.now in
    let d : Term = c.args.alternative.now in
    let h : IsAsked known old 0 (terms.conditional a b d) = c.requires.asked in
    let formed = asked_formed known old (terms.conditional a b d) h in
    let start : State = record { context = old.context; sight = old.sight; spot = c.advance.new.spot } in
    let at : start ≡ ahead 1 old = (ap (λ (s : Spot). let st : State = record { context = old.context; sight = old.sight; spot = s } in st) c.advance.ensures) in
    let mid : State = c.check.new.state in
    let v : IsChecked (ChecksIn known (ahead 1 old) a boolean) (ahead 1 old) mid (length (term_nodes a)) = checked_as known start (ahead 1 old) at a c.boolean-truth.result boolean c.boolean-truth.ensures mid (length (term_nodes a)) c.in_ok-check.ensures.ok in
    let on : GoesOn known (ahead 1 old) mid (length (term_nodes a)) = checked_on known (ahead 1 old) mid (on_ahead known old 1 h.ready) (length (term_nodes a)) a boolean formed.0 (boolean_typed known h.ready.known.formed old.context) v in
    let n : ℕ = c.in_ok-number.number in
    let fresh : n ≡ fresh_number mid.context = c.in_ok-number.ensures.number in
    let next : State = record { context = c.declare.new.context; sight = mid.sight; spot = mid.spot } in
    let there : next ≡ declared mid (n ∷ []) = ap (λ (cs : ContextEntries). let st : State = record { context = cs; sight = mid.sight; spot = mid.spot } in st) c.in_ok-number.ensures.ok in
    let far_on : GoesOn known (ahead 1 old) (declared mid (n ∷ [])) (length (term_nodes a)) = no_more known (ahead 1 old) mid (declared mid (n ∷ [])) (length (term_nodes a)) on (declared_on known mid n fresh on.ready) in
    let p = err_from_is_err_and c.from_residual-in_err-check-2.result c.from_residual-in_err-check-2.ensures.1 in
    rw (p.1, p.2) (stopped_as next.spot.member old.spot.member (λ stop. ChecksIn known next b c.existential-found.result (stops stop)) (λ stop. FindsIn known old (terms.conditional a b d) (gives_none stop)) _ (ap (λ (s : Spot). s.member) v.spot) (λ stop k. consequent_stops known old a b d mid v n fresh stop (subst (λ (u : Open). ChecksIn known (declared mid (n ∷ [])) b u (stops stop)) c.existential-found.ensures (subst (λ (s : State). ChecksIn known s b c.existential-found.result (stops stop)) there k))) c.in_err-check-2.ensures.err)

pub finding::find_conditional-check-requires-3 : goal.finding::find_conditional-check-requires-3
finding::find_conditional-check-requires-3 g t c κs within =
    let known : Known = g.K.TargetTypes.known c.args.known.now in
    let old : State = c.args.state.now in
    let a : Term = c.args.condition.now in
    let b : Term = c.args.consequent.now in
    let d : Term = c.args.alternative.now in
    let h : IsAsked known old 0 (terms.conditional a b d) = c.requires.asked in
    let formed = asked_formed known old (terms.conditional a b d) h in
    let start : State = record { context = old.context; sight = old.sight; spot = c.advance.new.spot } in
    let at : start ≡ ahead 1 old = (ap (λ (s : Spot). let st : State = record { context = old.context; sight = old.sight; spot = s } in st) c.advance.ensures) in
    let mid : State = c.check.new.state in
    let v : IsChecked (ChecksIn known (ahead 1 old) a boolean) (ahead 1 old) mid (length (term_nodes a)) = checked_as known start (ahead 1 old) at a c.boolean-truth.result boolean c.boolean-truth.ensures mid (length (term_nodes a)) c.in_ok-check.ensures.ok in
    let on : GoesOn known (ahead 1 old) mid (length (term_nodes a)) = checked_on known (ahead 1 old) mid (on_ahead known old 1 h.ready) (length (term_nodes a)) a boolean formed.0 (boolean_typed known h.ready.known.formed old.context) v in
    let n : ℕ = c.in_ok-number.number in
    let fresh : n ≡ fresh_number mid.context = c.in_ok-number.ensures.number in
    let next : State = record { context = c.declare.new.context; sight = mid.sight; spot = mid.spot } in
    let there : next ≡ declared mid (n ∷ []) = ap (λ (cs : ContextEntries). let st : State = record { context = cs; sight = mid.sight; spot = mid.spot } in st) c.in_ok-number.ensures.ok in
    let far_on : GoesOn known (ahead 1 old) (declared mid (n ∷ [])) (length (term_nodes a)) = no_more known (ahead 1 old) mid (declared mid (n ∷ [])) (length (term_nodes a)) on (declared_on known mid n fresh on.ready) in
    let far : State = c.check-2.new.state in
    let u : IsChecked (ChecksIn known (declared mid (n ∷ [])) b (existential n)) (declared mid (n ∷ [])) far (length (term_nodes b)) = checked_as known next (declared mid (n ∷ [])) there b c.existential-found.result (existential n) c.existential-found.ensures far (length (term_nodes b)) c.in_ok-check-2.ensures.ok in
    let formed_far : IsFormed known (length (declared mid (n ∷ [])).sight.variables) (length (declared mid (n ∷ [])).sight.seen) b = subst (λ (s : Sight). IsFormed known (length s.variables) (length s.seen) b) (sym on.sight) formed.1 in
    let fresh_typed : IsTypeIn known.arity (declared mid (n ∷ [])).context 0 (existential n) = new_typed known.arity mid.context n in
    let behind : GoesOn known (declared mid (n ∷ [])) far (length (term_nodes b)) = checked_on known (declared mid (n ∷ [])) far far_on.ready (length (term_nodes b)) b (existential n) formed_far fresh_typed u in
    let whole_on : GoesOn known (ahead 1 old) far (length (term_nodes a) + length (term_nodes b)) = goes_on known (ahead 1 old) (declared mid (n ∷ [])) far (length (term_nodes a)) (length (term_nodes b)) far_on behind in
    (omega arith, (search rules, (asked_alternative known old a b d h far whole_on, subst (IsTypeIn known.arity far.context 0) (sym c.existential-found.ensures) (typed_on known (declared mid (n ∷ [])) far (length (term_nodes b)) (existential n) behind fresh_typed))))

pub finding::find_conditional-returns-in_err-check-3-clause-err : goal.finding::find_conditional-returns-in_err-check-3-clause-err
finding::find_conditional-returns-in_err-check-3-clause-err g t c =
    let known : Known = g.K.TargetTypes.known c.args.known.now in
    let old : State = c.args.state.now in
    let a : Term = c.args.condition.now in
    let b : Term = c.args.consequent.now in
    let d : Term = c.args.alternative.now in
    let h : IsAsked known old 0 (terms.conditional a b d) = c.requires.asked in
    let formed = asked_formed known old (terms.conditional a b d) h in
    let start : State = record { context = old.context; sight = old.sight; spot = c.advance.new.spot } in
    let at : start ≡ ahead 1 old = (ap (λ (s : Spot). let st : State = record { context = old.context; sight = old.sight; spot = s } in st) c.advance.ensures) in
    let mid : State = c.check.new.state in
    let v : IsChecked (ChecksIn known (ahead 1 old) a boolean) (ahead 1 old) mid (length (term_nodes a)) = checked_as known start (ahead 1 old) at a c.boolean-truth.result boolean c.boolean-truth.ensures mid (length (term_nodes a)) c.in_ok-check.ensures.ok in
    let on : GoesOn known (ahead 1 old) mid (length (term_nodes a)) = checked_on known (ahead 1 old) mid (on_ahead known old 1 h.ready) (length (term_nodes a)) a boolean formed.0 (boolean_typed known h.ready.known.formed old.context) v in
    let n : ℕ = c.in_ok-number.number in
    let fresh : n ≡ fresh_number mid.context = c.in_ok-number.ensures.number in
    let next : State = record { context = c.declare.new.context; sight = mid.sight; spot = mid.spot } in
    let there : next ≡ declared mid (n ∷ []) = ap (λ (cs : ContextEntries). let st : State = record { context = cs; sight = mid.sight; spot = mid.spot } in st) c.in_ok-number.ensures.ok in
    let far_on : GoesOn known (ahead 1 old) (declared mid (n ∷ [])) (length (term_nodes a)) = no_more known (ahead 1 old) mid (declared mid (n ∷ [])) (length (term_nodes a)) on (declared_on known mid n fresh on.ready) in
    let far : State = c.check-2.new.state in
    let u : IsChecked (ChecksIn known (declared mid (n ∷ [])) b (existential n)) (declared mid (n ∷ [])) far (length (term_nodes b)) = checked_as known next (declared mid (n ∷ [])) there b c.existential-found.result (existential n) c.existential-found.ensures far (length (term_nodes b)) c.in_ok-check-2.ensures.ok in
    let formed_far : IsFormed known (length (declared mid (n ∷ [])).sight.variables) (length (declared mid (n ∷ [])).sight.seen) b = subst (λ (s : Sight). IsFormed known (length s.variables) (length s.seen) b) (sym on.sight) formed.1 in
    let fresh_typed : IsTypeIn known.arity (declared mid (n ∷ [])).context 0 (existential n) = new_typed known.arity mid.context n in
    let behind : GoesOn known (declared mid (n ∷ [])) far (length (term_nodes b)) = checked_on known (declared mid (n ∷ [])) far far_on.ready (length (term_nodes b)) b (existential n) formed_far fresh_typed u in
    let whole_on : GoesOn known (ahead 1 old) far (length (term_nodes a) + length (term_nodes b)) = goes_on known (ahead 1 old) (declared mid (n ∷ [])) far (length (term_nodes a)) (length (term_nodes b)) far_on behind in
    let p = err_from_is_err_and c.from_residual-in_err-check-3.result c.from_residual-in_err-check-3.ensures.1 in
    rw (p.1, p.2) (stopped_as far.spot.member old.spot.member (λ stop. ChecksIn known far d c.existential-found.result (stops stop)) (λ stop. FindsIn known old (terms.conditional a b d) (gives_none stop)) _ (member_behind known (ahead 1 old) far (length (term_nodes a) + length (term_nodes b)) whole_on) (λ stop k. alternative_stops known old a b d mid v n fresh far u stop (subst (λ (x : Open). ChecksIn known far d x (stops stop)) c.existential-found.ensures k)) c.in_err-check-3.ensures.err)

pub finding::find_conditional-returns-clause-ok : goal.finding::find_conditional-returns-clause-ok
finding::find_conditional-returns-clause-ok g t c =
    let known : Known = g.K.TargetTypes.known c.args.known.now in
    let old : State = c.args.state.now in
    let a : Term = c.args.condition.now in
    let b : Term = c.args.consequent.now in
    let d : Term = c.args.alternative.now in
    let h : IsAsked known old 0 (terms.conditional a b d) = c.requires.asked in
    let formed = asked_formed known old (terms.conditional a b d) h in
    let start : State = record { context = old.context; sight = old.sight; spot = c.advance.new.spot } in
    let at : start ≡ ahead 1 old = (ap (λ (s : Spot). let st : State = record { context = old.context; sight = old.sight; spot = s } in st) c.advance.ensures) in
    let mid : State = c.check.new.state in
    let v : IsChecked (ChecksIn known (ahead 1 old) a boolean) (ahead 1 old) mid (length (term_nodes a)) = checked_as known start (ahead 1 old) at a c.boolean-truth.result boolean c.boolean-truth.ensures mid (length (term_nodes a)) c.in_ok-check.ensures.ok in
    let on : GoesOn known (ahead 1 old) mid (length (term_nodes a)) = checked_on known (ahead 1 old) mid (on_ahead known old 1 h.ready) (length (term_nodes a)) a boolean formed.0 (boolean_typed known h.ready.known.formed old.context) v in
    let n : ℕ = c.in_ok-number.number in
    let fresh : n ≡ fresh_number mid.context = c.in_ok-number.ensures.number in
    let next : State = record { context = c.declare.new.context; sight = mid.sight; spot = mid.spot } in
    let there : next ≡ declared mid (n ∷ []) = ap (λ (cs : ContextEntries). let st : State = record { context = cs; sight = mid.sight; spot = mid.spot } in st) c.in_ok-number.ensures.ok in
    let far_on : GoesOn known (ahead 1 old) (declared mid (n ∷ [])) (length (term_nodes a)) = no_more known (ahead 1 old) mid (declared mid (n ∷ [])) (length (term_nodes a)) on (declared_on known mid n fresh on.ready) in
    let far : State = c.check-2.new.state in
    let u : IsChecked (ChecksIn known (declared mid (n ∷ [])) b (existential n)) (declared mid (n ∷ [])) far (length (term_nodes b)) = checked_as known next (declared mid (n ∷ [])) there b c.existential-found.result (existential n) c.existential-found.ensures far (length (term_nodes b)) c.in_ok-check-2.ensures.ok in
    let formed_far : IsFormed known (length (declared mid (n ∷ [])).sight.variables) (length (declared mid (n ∷ [])).sight.seen) b = subst (λ (s : Sight). IsFormed known (length s.variables) (length s.seen) b) (sym on.sight) formed.1 in
    let fresh_typed : IsTypeIn known.arity (declared mid (n ∷ [])).context 0 (existential n) = new_typed known.arity mid.context n in
    let behind : GoesOn known (declared mid (n ∷ [])) far (length (term_nodes b)) = checked_on known (declared mid (n ∷ [])) far far_on.ready (length (term_nodes b)) b (existential n) formed_far fresh_typed u in
    let whole_on : GoesOn known (ahead 1 old) far (length (term_nodes a) + length (term_nodes b)) = goes_on known (ahead 1 old) (declared mid (n ∷ [])) far (length (term_nodes a)) (length (term_nodes b)) far_on behind in
    let z : IsChecked (ChecksIn known far d (existential n)) far c.check-3.new.state (length (term_nodes d)) = checked_as known far far refl d c.existential-found.result (existential n) c.existential-found.ensures c.check-3.new.state (length (term_nodes d)) c.in_ok-check-3.ensures.ok in
    conditional_found known old a b d mid v n fresh far u c.check-3.new.state c.existential-found.result z c.existential-found.ensures

pub finding::find_by_form-check_by_form-requires : goal.finding::find_by_form-check_by_form-requires
finding::find_by_form-check_by_form-requires g t c κs within =
    let known : Known = g.K.TargetTypes.known c.args.known.now in
    let old : State = c.args.state.now in
    let e : Term = c.args.term.now in
    let h : IsAsked known old 0 e = c.requires.asked in
    let n : ℕ = c.in_ok-number.number in
    let fresh : n ≡ fresh_number old.context = c.in_ok-number.ensures.number in
    let start : State = record { context = c.declare.new.context; sight = old.sight; spot = old.spot } in
    let at : start ≡ declared old (n ∷ []) = ap (λ (cs : ContextEntries). let st : State = record { context = cs; sight = old.sight; spot = old.spot } in st) c.in_ok-number.ensures.ok in
    (omega arith, (search rules, (subst (λ (s : State). IsAsked known s 0 e) (sym at) (asked_behind known old (declared old (n ∷ [])) 0 (declared_on known old n fresh h.ready) e (asked_formed known old e h) h.bound (omega (arith, h.nodes))), (subst (λ (s : State). IsTypeIn known.arity s.context 0 c.existential-found.result) (sym at) (subst (IsTypeIn known.arity (declared old (n ∷ [])).context 0) (sym c.existential-found.ensures) (new_typed known.arity old.context n)), block_rule e c.existential-found.result c.requires.form))))

pub finding::find_by_form-returns-in_err-check_by_form-clause-err : goal.finding::find_by_form-returns-in_err-check_by_form-clause-err
finding::find_by_form-returns-in_err-check_by_form-clause-err g t c =
    let known : Known = g.K.TargetTypes.known c.args.known.now in
    let old : State = c.args.state.now in
    let e : Term = c.args.term.now in
    let h : IsAsked known old 0 e = c.requires.asked in
    let n : ℕ = c.in_ok-number.number in
    let fresh : n ≡ fresh_number old.context = c.in_ok-number.ensures.number in
    let start : State = record { context = c.declare.new.context; sight = old.sight; spot = old.spot } in
    let at : start ≡ declared old (n ∷ []) = ap (λ (cs : ContextEntries). let st : State = record { context = cs; sight = old.sight; spot = old.spot } in st) c.in_ok-number.ensures.ok in
    let w : (o : TermOutcome) → ChecksByFormIn known start e c.existential-found.result o → ChecksByFormIn known (declared old (n ∷ [])) e (existential n) o = λ o d. subst (λ (u : Open). ChecksByFormIn known (declared old (n ∷ [])) e u o) c.existential-found.ensures (subst (λ (s : State). ChecksByFormIn known s e c.existential-found.result o) at d) in
    let p = err_from_is_err_and c.from_residual-in_err-check_by_form.result c.from_residual-in_err-check_by_form.ensures.1 in
    rw (p.1, p.2) (stopped_as start.spot.member old.spot.member (λ stop. ChecksByFormIn known start e c.existential-found.result (stops stop)) (λ stop. FindsIn known old e (gives_none stop)) _ refl (λ stop d. block_stops known old n fresh e stop c.requires.form (w (stops stop) d)) c.in_err-check_by_form.ensures.err)

pub finding::find_by_form-returns-clause-ok : goal.finding::find_by_form-returns-clause-ok
finding::find_by_form-returns-clause-ok g t c =
    let known : Known = g.K.TargetTypes.known c.args.known.now in
    let old : State = c.args.state.now in
    let e : Term = c.args.term.now in
    let h : IsAsked known old 0 e = c.requires.asked in
    let n : ℕ = c.in_ok-number.number in
    let fresh : n ≡ fresh_number old.context = c.in_ok-number.ensures.number in
    let start : State = record { context = c.declare.new.context; sight = old.sight; spot = old.spot } in
    let at : start ≡ declared old (n ∷ []) = ap (λ (cs : ContextEntries). let st : State = record { context = cs; sight = old.sight; spot = old.spot } in st) c.in_ok-number.ensures.ok in
    let v : IsChecked (ChecksByFormIn known (declared old (n ∷ [])) e (existential n)) (declared old (n ∷ [])) c.check_by_form.new.state (length (term_nodes e)) = by_form_as known start (declared old (n ∷ [])) at e c.existential-found.result (existential n) c.existential-found.ensures c.check_by_form.new.state (length (term_nodes e)) c.in_ok-check_by_form.ensures.ok in
    block_found known old n fresh e c.check_by_form.new.state c.existential-found.result c.requires.form v c.existential-found.ensures

pub applying::find_application-advance-requires : goal.applying::find_application-advance-requires
applying::find_application-advance-requires g t c =
    let known : Known = g.K.TargetTypes.known c.args.known.now in
    let old : State = c.args.state.now in
    let f : Term = c.args.function.now in
    let e : Term = c.args.argument.now in
    let h : IsAsked known old 0 (terms.apply f e) = c.requires.asked in
    omega (arith, h.nodes)

pub applying::find_application-synthesize-requires : goal.applying::find_application-synthesize-requires
applying::find_application-synthesize-requires g t c κs within =
    let known : Known = g.K.TargetTypes.known c.args.known.now in
    let old : State = c.args.state.now in
    let f : Term = c.args.function.now in
    let e : Term = c.args.argument.now in
    let h : IsAsked known old 0 (terms.apply f e) = c.requires.asked in
    let start : State = record { context = old.context; sight = old.sight; spot = c.advance.new.spot } in
    let at : start ≡ ahead 1 old = (ap (λ (s : Spot). let st : State = record { context = old.context; sight = old.sight; spot = s } in st) c.advance.ensures) in
    (omega arith, (search rules, subst (λ (s : State). IsAsked known s 0 f) (sym at) (asked_function known old f e h)))

pub applying::find_application-returns-in_err-of-clause-err : goal.applying::find_application-returns-in_err-of-clause-err
applying::find_application-returns-in_err-of-clause-err g t c =
    let known : Known = g.K.TargetTypes.known c.args.known.now in
    let old : State = c.args.state.now in
    let f : Term = c.args.function.now in
    let e : Term = c.args.argument.now in
    let h : IsAsked known old 0 (terms.apply f e) = c.requires.asked in
    let start : State = record { context = old.context; sight = old.sight; spot = c.advance.new.spot } in
    let at : start ≡ ahead 1 old = (ap (λ (s : Spot). let st : State = record { context = old.context; sight = old.sight; spot = s } in st) c.advance.ensures) in
    let p = err_from_is_err_and c.from_residual.result c.from_residual.ensures.1 in
    rw (p.1, p.2) (stopped_as start.spot.member old.spot.member (λ stop. SynthesizesIn known start f (gives_none stop)) (λ stop. FindsIn known old (terms.apply f e) (gives_none stop)) _ (ap (λ (s : State). s.spot.member) at) (λ stop d. function_stops known old f e stop (subst (λ (s : State). SynthesizesIn known s f (gives_none stop)) at d)) c.in_err-of.ensures.err)

pub applying::find_application-apply_function-requires : goal.applying::find_application-apply_function-requires
applying::find_application-apply_function-requires g t c κs within =
    let known : Known = g.K.TargetTypes.known c.args.known.now in
    let old : State = c.args.state.now in
    let f : Term = c.args.function.now in
    let e : Term = c.args.argument.now in
    let h : IsAsked known old 0 (terms.apply f e) = c.requires.asked in
    let start : State = record { context = old.context; sight = old.sight; spot = c.advance.new.spot } in
    let at : start ≡ ahead 1 old = (ap (λ (s : Spot). let st : State = record { context = old.context; sight = old.sight; spot = s } in st) c.advance.ensures) in
    let mid : State = c.synthesize.new.state in
    let of : Open = c.in_ok-of.of in
    let v : IsFound (SynthesizesIn known (ahead 1 old) f) (ahead 1 old) mid (length (term_nodes f)) of = found_as_start known start (ahead 1 old) at f mid (length (term_nodes f)) of c.in_ok-of.ensures.ok in
    let formed = asked_formed known old (terms.apply f e) h in
    let on : GoesOn known (ahead 1 old) mid (length (term_nodes f)) = found_on known (ahead 1 old) mid (on_ahead known old 1 h.ready) (length (term_nodes f)) f of formed.0 v in
    (omega (arith, front_small of c.in_ok-of.ensures.small), (search rules, (asked_argument known old f e h mid on, (found_typed known (ahead 1 old) mid (on_ahead known old 1 h.ready) (length (term_nodes f)) f of formed.0 v, (c.in_ok-of.ensures.small, sym (ap (λ (s : Spot). s.member) v.spot))))))

pub applying::find_application-returns-in_err-found-clause-err : goal.applying::find_application-returns-in_err-found-clause-err
applying::find_application-returns-in_err-found-clause-err g t c =
    let known : Known = g.K.TargetTypes.known c.args.known.now in
    let old : State = c.args.state.now in
    let f : Term = c.args.function.now in
    let e : Term = c.args.argument.now in
    let h : IsAsked known old 0 (terms.apply f e) = c.requires.asked in
    let start : State = record { context = old.context; sight = old.sight; spot = c.advance.new.spot } in
    let at : start ≡ ahead 1 old = (ap (λ (s : Spot). let st : State = record { context = old.context; sight = old.sight; spot = s } in st) c.advance.ensures) in
    let mid : State = c.synthesize.new.state in
    let of : Open = c.in_ok-of.of in
    let v : IsFound (SynthesizesIn known (ahead 1 old) f) (ahead 1 old) mid (length (term_nodes f)) of = found_as_start known start (ahead 1 old) at f mid (length (term_nodes f)) of c.in_ok-of.ensures.ok in
    let formed = asked_formed known old (terms.apply f e) h in
    let on : GoesOn known (ahead 1 old) mid (length (term_nodes f)) = found_on known (ahead 1 old) mid (on_ahead known old 1 h.ready) (length (term_nodes f)) f of formed.0 v in
    let p = err_from_is_err_and c.from_residual-in_err-found.result c.from_residual-in_err-found.ensures.1 in
    rw (p.1, p.2) (stopped_as mid.spot.member old.spot.member (λ stop. AppliesIn known mid old.spot.node of e (gives_none stop)) (λ stop. FindsIn known old (terms.apply f e) (gives_none stop)) _ (ap (λ (s : Spot). s.member) v.spot) (λ stop d. application_stops known old f e mid of stop v d) c.in_err-found.ensures.err)

pub applying::find_application-returns-clause-ok : goal.applying::find_application-returns-clause-ok
applying::find_application-returns-clause-ok g t c =
    let known : Known = g.K.TargetTypes.known c.args.known.now in
    let old : State = c.args.state.now in
    let f : Term = c.args.function.now in
    let e : Term = c.args.argument.now in
    let h : IsAsked known old 0 (terms.apply f e) = c.requires.asked in
    let start : State = record { context = old.context; sight = old.sight; spot = c.advance.new.spot } in
    let at : start ≡ ahead 1 old = (ap (λ (s : Spot). let st : State = record { context = old.context; sight = old.sight; spot = s } in st) c.advance.ensures) in
    let mid : State = c.synthesize.new.state in
    let of : Open = c.in_ok-of.of in
    let v : IsFound (SynthesizesIn known (ahead 1 old) f) (ahead 1 old) mid (length (term_nodes f)) of = found_as_start known start (ahead 1 old) at f mid (length (term_nodes f)) of c.in_ok-of.ensures.ok in
    let formed = asked_formed known old (terms.apply f e) h in
    let on : GoesOn known (ahead 1 old) mid (length (term_nodes f)) = found_on known (ahead 1 old) mid (on_ahead known old 1 h.ready) (length (term_nodes f)) f of formed.0 v in
    application_found known old f e mid c.apply_function.new.state of c.in_ok-found.found v c.in_ok-found.ensures.ok

pub applying::apply_function-apply_quantified-requires : goal.applying::apply_function-apply_quantified-requires
applying::apply_function-apply_quantified-requires g t c κs within =
    let known : Known = g.K.TargetTypes.known c.args.known.now in
    let old : State = c.args.state.now in
    let e : Term = c.args.argument.now in
    let here : Spot = c.args.here in
    let s : Open = c.args.function.now in
    let read : c.deref.result.now ≡ c.in-Forall.body.value = search rules in
    let is : s ≡ quantified c.deref.result.now = sym c.function.view_is ∙ ap open_of c.in-Forall.is ∙ ap quantified (sym read) in
    (omega (arith, ap front_count is), (search rules, (c.requires.asked, (subst (IsTypeIn known.arity old.context 0) is c.requires.typed, (subst IsSmall is c.requires.small, c.requires.member)))))

pub applying::apply_function-returns-in-Forall-clause-ok : goal.applying::apply_function-returns-in-Forall-clause-ok
applying::apply_function-returns-in-Forall-clause-ok g t c =
    let known : Known = g.K.TargetTypes.known c.args.known.now in
    let old : State = c.args.state.now in
    let e : Term = c.args.argument.now in
    let here : Spot = c.args.here in
    let s : Open = c.args.function.now in
    let read : c.deref.result.now ≡ c.in-Forall.body.value = search rules in
    let is : s ≡ quantified c.deref.result.now = sym c.function.view_is ∙ ap open_of c.in-Forall.is ∙ ap quantified (sym read) in
    subst (λ (u : Open). IfOk c.apply_quantified.result (IsFound (AppliesIn known old here.node u e) old c.apply_quantified.new.state (length (term_nodes e)))) (sym is) c.apply_quantified.ensures.ok

pub applying::apply_function-returns-in-Forall-clause-err : goal.applying::apply_function-returns-in-Forall-clause-err
applying::apply_function-returns-in-Forall-clause-err g t c =
    let known : Known = g.K.TargetTypes.known c.args.known.now in
    let old : State = c.args.state.now in
    let e : Term = c.args.argument.now in
    let here : Spot = c.args.here in
    let s : Open = c.args.function.now in
    let read : c.deref.result.now ≡ c.in-Forall.body.value = search rules in
    let is : s ≡ quantified c.deref.result.now = sym c.function.view_is ∙ ap open_of c.in-Forall.is ∙ ap quantified (sym read) in
    subst (λ (u : Open). IfErr c.apply_quantified.result (IsStopped old.spot.member (λ stop. AppliesIn known old here.node u e (gives_none stop)))) (sym is) c.apply_quantified.ensures.err

pub applying::apply_function-check-requires : goal.applying::apply_function-check-requires
applying::apply_function-check-requires g t c κs within =
    let known : Known = g.K.TargetTypes.known c.args.known.now in
    let old : State = c.args.state.now in
    let e : Term = c.args.argument.now in
    let here : Spot = c.args.here in
    let s : Open = c.args.function.now in
    let read : c.deref-in-Arrow.result.now ≡ c.in-Arrow.from.value = search rules in
    let also : c.in-Arrow.to.value ≡ c.in-Arrow.to.value = refl in
    let a : Open = c.deref-in-Arrow.result.now in
    let b : Open = c.in-Arrow.to.value in
    let is : s ≡ arrow a b = sym c.function.view_is ∙ ap open_of c.in-Arrow.is ∙ ap (λ (u : Open). arrow u c.in-Arrow.to.value) (sym read) ∙ ap (arrow a) (sym also) in
    let typed : IsTypeIn known.arity old.context 0 (arrow a b) = subst (IsTypeIn known.arity old.context 0) is c.requires.typed in
    (omega arith, (search rules, (c.requires.asked, typed.0)))

pub applying::apply_function-returns-in_err-check-in-Arrow-clause-err : goal.applying::apply_function-returns-in_err-check-in-Arrow-clause-err
applying::apply_function-returns-in_err-check-in-Arrow-clause-err g t c =
    let known : Known = g.K.TargetTypes.known c.args.known.now in
    let old : State = c.args.state.now in
    let e : Term = c.args.argument.now in
    let here : Spot = c.args.here in
    let s : Open = c.args.function.now in
    let read : c.deref-in-Arrow.result.now ≡ c.in-Arrow.from.value = search rules in
    let also : c.in-Arrow.to.value ≡ c.in-Arrow.to.value = refl in
    let a : Open = c.deref-in-Arrow.result.now in
    let b : Open = c.in-Arrow.to.value in
    let is : s ≡ arrow a b = sym c.function.view_is ∙ ap open_of c.in-Arrow.is ∙ ap (λ (u : Open). arrow u c.in-Arrow.to.value) (sym read) ∙ ap (arrow a) (sym also) in
    let typed : IsTypeIn known.arity old.context 0 (arrow a b) = subst (IsTypeIn known.arity old.context 0) is c.requires.typed in
    let p = err_from_is_err_and c.from_residual.result c.from_residual.ensures.1 in
    rw (p.1, p.2) (stops_as known old here c.requires.member e (arrow a b) s _ (sym is) (stopped_as old.spot.member old.spot.member (λ stop. ChecksIn known old e a (stops stop)) (λ stop. AppliesIn known old here.node (arrow a b) e (gives_none stop)) _ refl (λ stop d. arrow_stops known old here c.requires.member e a b stop d) c.in_err-check-in-Arrow.ensures.err))

pub applying::apply_function-returns-in_ok-found-in-Arrow-clause-ok : goal.applying::apply_function-returns-in_ok-found-in-Arrow-clause-ok
applying::apply_function-returns-in_ok-found-in-Arrow-clause-ok g t c =
    let known : Known = g.K.TargetTypes.known c.args.known.now in
    let old : State = c.args.state.now in
    let e : Term = c.args.argument.now in
    let here : Spot = c.args.here in
    let s : Open = c.args.function.now in
    let read : c.deref-in-Arrow.result.now ≡ c.in-Arrow.from.value = search rules in
    let also : c.deref-in-Arrow-2.result.now ≡ c.in-Arrow.to.value = search rules in
    let a : Open = c.deref-in-Arrow.result.now in
    let b : Open = c.deref-in-Arrow-2.result.now in
    let is : s ≡ arrow a b = sym c.function.view_is ∙ ap open_of c.in-Arrow.is ∙ ap (λ (u : Open). arrow u c.in-Arrow.to.value) (sym read) ∙ ap (arrow a) (sym also) in
    let typed : IsTypeIn known.arity old.context 0 (arrow a b) = subst (IsTypeIn known.arity old.context 0) is c.requires.typed in
    applied_as known old here c.requires.member e (arrow a b) s b c.in_ok-found-in-Arrow.found c.check.new.state (length (term_nodes e)) (sym is) (sym c.in_ok-found-in-Arrow.ensures) (arrow_applied known old here c.requires.member e a b c.check.new.state c.in_ok-check-in-Arrow.ensures.ok)

pub applying::apply_function-apply_existential-requires : goal.applying::apply_function-apply_existential-requires
applying::apply_function-apply_existential-requires g t c κs within =
    let known : Known = g.K.TargetTypes.known c.args.known.now in
    let old : State = c.args.state.now in
    let e : Term = c.args.argument.now in
    let here : Spot = c.args.here in
    let s : Open = c.args.function.now in
    let is : s ≡ existential c.in-Exists.which = sym c.function.view_is ∙ ap open_of c.in-Exists.is in
    (omega arith, (search rules, (c.requires.asked, c.requires.member)))

pub applying::apply_function-returns-in-Exists-clause-ok : goal.applying::apply_function-returns-in-Exists-clause-ok
applying::apply_function-returns-in-Exists-clause-ok g t c =
    let known : Known = g.K.TargetTypes.known c.args.known.now in
    let old : State = c.args.state.now in
    let e : Term = c.args.argument.now in
    let here : Spot = c.args.here in
    let s : Open = c.args.function.now in
    let is : s ≡ existential c.in-Exists.which = sym c.function.view_is ∙ ap open_of c.in-Exists.is in
    subst (λ (u : Open). IfOk c.apply_existential.result (IsFound (AppliesIn known old here.node u e) old c.apply_existential.new.state (length (term_nodes e)))) (sym is) c.apply_existential.ensures.ok

pub applying::apply_function-returns-in-Exists-clause-err : goal.applying::apply_function-returns-in-Exists-clause-err
applying::apply_function-returns-in-Exists-clause-err g t c =
    let known : Known = g.K.TargetTypes.known c.args.known.now in
    let old : State = c.args.state.now in
    let e : Term = c.args.argument.now in
    let here : Spot = c.args.here in
    let s : Open = c.args.function.now in
    let is : s ≡ existential c.in-Exists.which = sym c.function.view_is ∙ ap open_of c.in-Exists.is in
    subst (λ (u : Open). IfErr c.apply_existential.result (IsStopped old.spot.member (λ stop. AppliesIn known old here.node u e (gives_none stop)))) (sym is) c.apply_existential.ensures.err

pub applying::apply_function-returns-in_default-clause-err : goal.applying::apply_function-returns-in_default-clause-err
applying::apply_function-returns-in_default-clause-err g t c =
    let known : Known = g.K.TargetTypes.known c.args.known.now in
    let old : State = c.args.state.now in
    let e : Term = c.args.argument.now in
    let here : Spot = c.args.here in
    let s : Open = c.args.function.now in
    unfit_stops known old here c.requires.member e s (unfit old.context c.function.inside.node s c.function.view_is (node_unfit old.context c.function.inside.node c.in_default.not-Forall c.in_default.not-Arrow c.in_default.not-Exists))

pub applying::apply_quantified-opened-requires : goal.applying::apply_quantified-opened-requires
applying::apply_quantified-opened-requires g t c =
    let known : Known = g.K.TargetTypes.known c.args.known.now in
    let old : State = c.args.state.now in
    let e : Term = c.args.argument.now in
    let here : Spot = c.args.here in
    let s : Open = c.args.body.now in
    body_levels known old here c.requires.member e s c.requires.small

pub applying::apply_quantified-apply_function-requires : goal.applying::apply_quantified-apply_function-requires
applying::apply_quantified-apply_function-requires g t c κs within =
    let known : Known = g.K.TargetTypes.known c.args.known.now in
    let old : State = c.args.state.now in
    let e : Term = c.args.argument.now in
    let here : Spot = c.args.here in
    let s : Open = c.args.body.now in
    let h : IsAsked known old 0 e = c.requires.asked in
    let n : ℕ = c.in_ok-number.number in
    let fresh : n ≡ fresh_number old.context = c.in_ok-number.ensures.number in
    let u : Open = c.in_ok-opened.opened in
    let is : u ≡ opened_at 0 (existential n) s = c.in_ok-opened.ensures ∙ ap (λ (v : Open). opened_at 0 v s) c.existential.ensures in
    let start : State = record { context = c.declare.new.context; sight = old.sight; spot = old.spot } in
    let at : start ≡ declared old (n ∷ []) = ap (λ (cs : ContextEntries). let st : State = record { context = cs; sight = old.sight; spot = old.spot } in st) c.in_ok-number.ensures.ok in
    (omega (arith, applied_front known old here c.requires.member e n fresh s u is), (search rules, (subst (λ (st : State). IsAsked known st 0 e) (sym at) (opened_asked known old here c.requires.member e n fresh s u is h), (subst (λ (st : State). IsTypeIn known.arity st.context 0 u) (sym at) (opened_typed known old here c.requires.member e n fresh s u is c.requires.typed), (opened_small known old here c.requires.member e n fresh s u is c.requires.small, c.requires.member)))))

pub applying::apply_quantified-returns-in_err-found-clause-err : goal.applying::apply_quantified-returns-in_err-found-clause-err
applying::apply_quantified-returns-in_err-found-clause-err g t c =
    let known : Known = g.K.TargetTypes.known c.args.known.now in
    let old : State = c.args.state.now in
    let e : Term = c.args.argument.now in
    let here : Spot = c.args.here in
    let s : Open = c.args.body.now in
    let h : IsAsked known old 0 e = c.requires.asked in
    let n : ℕ = c.in_ok-number.number in
    let fresh : n ≡ fresh_number old.context = c.in_ok-number.ensures.number in
    let u : Open = c.in_ok-opened.opened in
    let is : u ≡ opened_at 0 (existential n) s = c.in_ok-opened.ensures ∙ ap (λ (v : Open). opened_at 0 v s) c.existential.ensures in
    let start : State = record { context = c.declare.new.context; sight = old.sight; spot = old.spot } in
    let at : start ≡ declared old (n ∷ []) = ap (λ (cs : ContextEntries). let st : State = record { context = cs; sight = old.sight; spot = old.spot } in st) c.in_ok-number.ensures.ok in
    let p = err_from_is_err_and c.from_residual-in_err-found.result c.from_residual-in_err-found.ensures.1 in
    rw (p.1, p.2) (stopped_as old.spot.member old.spot.member (λ stop. AppliesIn known start here.node u e (gives_none stop)) (λ stop. AppliesIn known old here.node (quantified s) e (gives_none stop)) _ refl (λ stop d. opened_stops known old here c.requires.member e n fresh s u is stop (subst (λ (st : State). AppliesIn known st here.node u e (gives_none stop)) at d)) c.in_err-found.ensures.err)

pub applying::apply_quantified-returns-clause-ok : goal.applying::apply_quantified-returns-clause-ok
applying::apply_quantified-returns-clause-ok g t c =
    let known : Known = g.K.TargetTypes.known c.args.known.now in
    let old : State = c.args.state.now in
    let e : Term = c.args.argument.now in
    let here : Spot = c.args.here in
    let s : Open = c.args.body.now in
    let h : IsAsked known old 0 e = c.requires.asked in
    let n : ℕ = c.in_ok-number.number in
    let fresh : n ≡ fresh_number old.context = c.in_ok-number.ensures.number in
    let u : Open = c.in_ok-opened.opened in
    let is : u ≡ opened_at 0 (existential n) s = c.in_ok-opened.ensures ∙ ap (λ (v : Open). opened_at 0 v s) c.existential.ensures in
    let start : State = record { context = c.declare.new.context; sight = old.sight; spot = old.spot } in
    let at : start ≡ declared old (n ∷ []) = ap (λ (cs : ContextEntries). let st : State = record { context = cs; sight = old.sight; spot = old.spot } in st) c.in_ok-number.ensures.ok in
    let v : IsFound (AppliesIn known (declared old (n ∷ [])) here.node u e) (declared old (n ∷ [])) c.apply_function.new.state (length (term_nodes e)) c.in_ok-found.found = subst (λ (st : State). IsFound (AppliesIn known st here.node u e) st c.apply_function.new.state (length (term_nodes e)) c.in_ok-found.found) at c.in_ok-found.ensures.ok in
    opened_applied known old here c.requires.member e n fresh s u is c.apply_function.new.state (length (term_nodes e)) c.in_ok-found.found v

pub applying::apply_existential-returns-then-not-is_unsolved-clause-err : goal.applying::apply_existential-returns-then-not-is_unsolved-clause-err
applying::apply_existential-returns-then-not-is_unsolved-clause-err g t c =
    let known : Known = g.K.TargetTypes.known c.args.known.now in
    let old : State = c.args.state.now in
    let e : Term = c.args.argument.now in
    let here : Spot = c.args.here in
    let x : ℕ = c.args.which in
    unfit_stops known old here c.requires.member e (existential x) (sym c.is_unsolved.ensures ∙ c.if-not-is_unsolved.true)

pub applying::apply_existential-check-requires : goal.applying::apply_existential-check-requires
applying::apply_existential-check-requires g t c κs within =
    let known : Known = g.K.TargetTypes.known c.args.known.now in
    let old : State = c.args.state.now in
    let e : Term = c.args.argument.now in
    let here : Spot = c.args.here in
    let x : ℕ = c.args.which in
    let unsolved : list_any (is_unsolved x) old.context ≡ true = sym c.is_unsolved.ensures ∙ c.if-not-is_unsolved.false in
    let a : ℕ = c.in_ok-from.from in
    let r : ℕ = c.in_ok-from.to in
    let are : a ∷ r ∷ [] ≡ fresh_numbers 2 old.context = c.in_ok-from.ensures.numbers in
    let start : State = record { context = c.solve_with_arrow.new.self; sight = old.sight; spot = old.spot } in
    let at : start ≡ solved_state known old here c.requires.member e x unsolved a r are = ap (λ (cs : ContextEntries). let st : State = record { context = cs; sight = old.sight; spot = old.spot } in st) c.in_ok-from.ensures.ok in
    (omega arith, (search rules, (subst (λ (st : State). IsAsked known st 0 e) (sym at) (solved_asked known old here c.requires.member e x unsolved a r are c.requires.asked), subst (λ (st : State). IsTypeIn known.arity st.context 0 c.existential-parameter.result) (sym at) (subst (IsTypeIn known.arity (solved_state known old here c.requires.member e x unsolved a r are).context 0) (sym c.existential-parameter.ensures) (argument_typed known old here c.requires.member e x unsolved a r are c.requires.asked)))))

pub applying::apply_existential-returns-in_err-check-clause-err : goal.applying::apply_existential-returns-in_err-check-clause-err
applying::apply_existential-returns-in_err-check-clause-err g t c =
    let known : Known = g.K.TargetTypes.known c.args.known.now in
    let old : State = c.args.state.now in
    let e : Term = c.args.argument.now in
    let here : Spot = c.args.here in
    let x : ℕ = c.args.which in
    let unsolved : list_any (is_unsolved x) old.context ≡ true = sym c.is_unsolved.ensures ∙ c.if-not-is_unsolved.false in
    let a : ℕ = c.in_ok-from.from in
    let r : ℕ = c.in_ok-from.to in
    let are : a ∷ r ∷ [] ≡ fresh_numbers 2 old.context = c.in_ok-from.ensures.numbers in
    let start : State = record { context = c.solve_with_arrow.new.self; sight = old.sight; spot = old.spot } in
    let at : start ≡ solved_state known old here c.requires.member e x unsolved a r are = ap (λ (cs : ContextEntries). let st : State = record { context = cs; sight = old.sight; spot = old.spot } in st) c.in_ok-from.ensures.ok in
    let p = err_from_is_err_and c.from_residual-in_err-check.result c.from_residual-in_err-check.ensures.1 in
    rw (p.1, p.2) (stopped_as old.spot.member old.spot.member (λ stop. ChecksIn known start e c.existential-parameter.result (stops stop)) (λ stop. AppliesIn known old here.node (existential x) e (gives_none stop)) _ refl (λ stop d. existential_stops known old here c.requires.member e x unsolved a r are stop (subst (λ (v : Open). ChecksIn known (solved_state known old here c.requires.member e x unsolved a r are) e v (stops stop)) c.existential-parameter.ensures (subst (λ (st : State). ChecksIn known st e c.existential-parameter.result (stops stop)) at d))) c.in_err-check.ensures.err)

pub applying::apply_existential-returns-clause-ok : goal.applying::apply_existential-returns-clause-ok
applying::apply_existential-returns-clause-ok g t c =
    let known : Known = g.K.TargetTypes.known c.args.known.now in
    let old : State = c.args.state.now in
    let e : Term = c.args.argument.now in
    let here : Spot = c.args.here in
    let x : ℕ = c.args.which in
    let unsolved : list_any (is_unsolved x) old.context ≡ true = sym c.is_unsolved.ensures ∙ c.if-not-is_unsolved.false in
    let a : ℕ = c.in_ok-from.from in
    let r : ℕ = c.in_ok-from.to in
    let are : a ∷ r ∷ [] ≡ fresh_numbers 2 old.context = c.in_ok-from.ensures.numbers in
    let start : State = record { context = c.solve_with_arrow.new.self; sight = old.sight; spot = old.spot } in
    let at : start ≡ solved_state known old here c.requires.member e x unsolved a r are = ap (λ (cs : ContextEntries). let st : State = record { context = cs; sight = old.sight; spot = old.spot } in st) c.in_ok-from.ensures.ok in
    let v : IsChecked (ChecksIn known (solved_state known old here c.requires.member e x unsolved a r are) e (existential a)) (solved_state known old here c.requires.member e x unsolved a r are) c.check.new.state (length (term_nodes e)) = checked_as known start (solved_state known old here c.requires.member e x unsolved a r are) at e c.existential-parameter.result (existential a) c.existential-parameter.ensures c.check.new.state (length (term_nodes e)) c.in_ok-check.ensures.ok in
    existential_applied known old here c.requires.member e x unsolved a r are c.check.new.state c.existential.result c.existential.ensures v
