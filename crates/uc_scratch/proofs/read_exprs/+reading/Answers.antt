use Rattle.std.proofs.Common.{◌∙◌, ◌≤◌, ◌∷◌, refl, sym, ap, arith, rules}
use Rattle.std.proofs.lemmas.Result.{err_from_is_err_and}
use Rattle.uc_scratch.specs.declared.terminal.Terminal.TheVariants.{Right, Closes}
use Rattle.uc_scratch.specs.declared.walk.Stage.{Stage}
use Rattle.uc_scratch.specs.declared.walk.Stage.TheVariants.{Operand, Atoms}
use Rattle.uc_scratch.specs.declared.heads.ItemFront.TheVariants as front
use Rattle.uc_scratch.specs.declared.read_exprs.Move.TheVariants as move
use Rattle.uc_scratch.specs.Exprs.{done}
use Rattle.uc_scratch.specs.ExprViews.{entry_before, expr_of}
use Rattle.uc_scratch.specs.ExprGrammar.{ReadsExpr, list_atom}
use Rattle.uc_scratch.specs.Follows.{reach}
use Rattle.uc_scratch.specs.Marks.{round, square}
use Rattle.uc_scratch.specs.Fronts.{IsLambda, NoLambda, IsSigned, IsPrefix, IsInfix, NoFront, IsItemFront}
use Rattle.uc_scratch.specs.Moves.{IsMove, IsEntry}
use Rattle.uc_scratch.specs.Walks.{TakesAtom, takes_first, takes_next, Leads, LeadsInto, lambda_ends, ends_with_lambda}
use Rattle.uc_scratch.proofs.Stops.{err_again}
use Rattle.uc_scratch.proofs.Fits.{fits_at, fits_pattern, fits_block}
use Rattle.uc_scratch.proofs.WalkReadings.{walked_expr, walked_or, expr_is_walked, or_is_walked}
use Rattle.uc_scratch.proofs.ExprSteps.{if_leads, match_leads, cases_lead, no_cases_stay, block_leads, no_block_stays, atom_leads, no_atom_stays, no_part_stays, connective_behind_atoms, connective_behind_form, move_of_operand, start_stays, lambda_leads, lambda_stays, fits_lambda, if_out, no_then, no_consequent, no_else, no_alternative, match_out, no_with, no_with_cases}
use Rattle.uc_scratch.proofs.ExprParts.{path_found, literal_found, reference_found, no_atom, block_found, unit_found, operator_found, round_none, group_found, annotated_found, tuple_found, inside_not_closed, inside_colon, type_not_closed, inside_comma, fits_behind, empty_found, cases_found, no_cases_found, plain_found, guarded_found, no_plain_case, no_guarded_case, neither_case, body_no_end, tested_found, tested_no_or, tested_no_arrow, tested_no_body, fits_tested, guarded_of_tested, guarded_tested_only, guarded_no_block, guarded_one_arrow, guarded_two_arrows, lambda_guard_found, lambda_tested, guarded_only_tested, guarded_only_one, guarded_only_two, guarded_stops, fits_case, single_at, use_entry, signature_entry, signature_none, prefix_entry, fits_prefix, prefix_not_single, prefix_none, infix_entry, fits_infix_front, infix_not_single, infix_none, other_none, not_closed}
use Rattle.uc_scratch.proofs.ExprLoops.{steps_take, steps_open, steps_close, steps_no_end, steps_end, exprs_comma, exprs_end, exprs_no_end, exprs_none, expr_smaller, fits_next, cases_more, case_smaller, cases_none, cases_done, cases_stuck, block_entry, block_result, block_stuck}
use Rattle.uc_scratch.proofs.read_exprs.+reading.Goals as goal

pub read_atom-returns-in_default : goal.read_atom-returns-in_default
read_atom-returns-in_default t c =
    record { found = tt; none = λ _. no_atom _ _ _ c.in-Some.ensures c.in-None-path_of.ensures c.in_default.not-Literal c.in_default.not-Reference c.in_default.not-Left c.in_default.not-LeftSquare }

pub read_atom-returns-in_ok-copy-in-Literal-clause-found : goal.read_atom-returns-in_ok-copy-in-Literal-clause-found
read_atom-returns-in_ok-copy-in-Literal-clause-found t c = literal_found _ _ _ _ _ c.in-Some.ensures c.in-Literal.is c.in_ok-copy-in-Literal.ensures

pub read_atom-returns-in_ok-copy-in-Reference-clause-found : goal.read_atom-returns-in_ok-copy-in-Reference-clause-found
read_atom-returns-in_ok-copy-in-Reference-clause-found t c =
    reference_found _ _ _ _ _ c.in-Some.ensures c.in-Reference.is c.in_ok-copy-in-Reference.ensures

pub read_atom-returns-in_ok-copy-in-Some-path_of-clause-found : goal.read_atom-returns-in_ok-copy-in-Some-path_of-clause-found
read_atom-returns-in_ok-copy-in-Some-path_of-clause-found t c =
    path_found _ _ _ _ _ c.in-Some.ensures c.in-Some-path_of.ensures c.in_ok-copy-in-Some-path_of.ensures

pub read_block-returns-in_ok-block-in-Some-clause-found : goal.read_block-returns-in_ok-block-in-Some-clause-found
read_block-returns-in_ok-block-in-Some-clause-found t c = block_found _ _ _ _ c.in-Some.ensures c.in_ok-block-in-Some.ensures.found

pub read_block_items-entries-preserved : goal.read_block_items-entries-preserved
read_block_items-entries-preserved t c =
    let i : IsEntry c.in-Some.item.now (entry_before c.in-Entry.entry) c.in-Entry.after.now = rw c.in-Entry.is at c.in_ok-line-in-Some.ensures.found in
    record {
      so_far = block_entry _ _ _ _ _ _ _ _ c.in-Some.ensures i c.in_ok-push-in-Entry.ensures.items c.entries.invariant.so_far;
      fitting = i.fitting _ (fits_at _ _ _ c.in-Some.ensures c.entries.invariant.fitting);
    }

pub read_block_items-returns-in-None-clause-none : goal.read_block_items-returns-in-None-clause-none
read_block_items-returns-in-None-clause-none t c = λ _. block_stuck _ _ _ c.in-None.ensures c.entries.invariant.so_far

pub read_block_items-returns-in-Result-clause-found : goal.read_block_items-returns-in-Result-clause-found
read_block_items-returns-in-Result-clause-found t c =
    let h : ReadsExpr c.in-Some.item.now c.in-Result.result_expr (Closes ∷ c.in-Result.last.now) done = rw c.in-Result.is at c.in_ok-line-in-Some.ensures.found in
    block_result _ _ _ _ _ _ _ c.in-Some.ensures h c.entries.invariant.so_far

pub read_case-read_block-requires : goal.read_case-read_block-requires
read_case-read_block-requires t c = (search rules, fits_at _ _ _ c.in-Some.ensures (fits_pattern _ c.in_ok-pattern.ensures.found c.requires))

pub read_case-read_guarded-requires : goal.read_case-read_guarded-requires
read_case-read_guarded-requires t c = (search rules, fits_at _ _ _ c.in-Some-behind.ensures (fits_pattern _ c.in_ok-pattern.ensures.found c.requires))

pub read_case-returns-else-not-ends_case-2-clause-found : goal.read_case-returns-else-not-ends_case-2-clause-found
read_case-returns-else-not-ends_case-2-clause-found t c =
    guarded_found _ _ _ _ _ _ _ _ c.in_ok-pattern.ensures.found c.in-Some-behind.ensures c.in_ok-guard-in-Some-behind.ensures.found refl

pub read_case-returns-else-not-ends_case-clause-found : goal.read_case-returns-else-not-ends_case-clause-found
read_case-returns-else-not-ends_case-clause-found t c =
    plain_found _ _ _ _ _ _ _ c.in_ok-pattern.ensures.found c.in-Some.ensures c.in_ok-body-in-Some.ensures.found refl

pub read_case-returns-in-None-behind-clause-none : goal.read_case-returns-in-None-behind-clause-none
read_case-returns-in-None-behind-clause-none t c =
    λ _. neither_case _ _ _ c.in_ok-pattern.ensures.found c.in_ok-pattern.ensures.ends c.in-None.ensures c.in-None-behind.ensures

pub read_case-returns-in_err-body-in-Some-clause-none : goal.read_case-returns-in_err-body-in-Some-clause-none
read_case-returns-in_err-body-in-Some-clause-none t c =
    let p = err_from_is_err_and c.from_residual-in_err-body-in-Some.result c.from_residual-in_err-body-in-Some.ensures.1 in
    rw (p.1, p.2) (λ h. no_plain_case _ _ _ _ c.in_ok-pattern.ensures.found c.in-Some.ensures (λ b xs k q. c.in_err-body-in-Some.ensures.none (err_again _ h) b xs k))

pub read_case-returns-in_err-guard-in-Some-behind-clause-none : goal.read_case-returns-in_err-guard-in-Some-behind-clause-none
read_case-returns-in_err-guard-in-Some-behind-clause-none t c =
    let p = err_from_is_err_and c.from_residual-in_err-guard-in-Some-behind.result c.from_residual-in_err-guard-in-Some-behind.ensures.1 in
    rw (p.1, p.2) (λ h. no_guarded_case _ _ _ _ c.in_ok-pattern.ensures.found c.in-Some-behind.ensures (c.in_err-guard-in-Some-behind.ensures.none (err_again _ h)))

pub read_case-returns-then-not-ends_case-2-clause-none : goal.read_case-returns-then-not-ends_case-2-clause-none
read_case-returns-then-not-ends_case-2-clause-none t c =
    λ _. no_guarded_case _ _ _ _ c.in_ok-pattern.ensures.found c.in-Some-behind.ensures (guarded_stops _ _ c.in_ok-guard-in-Some-behind.ensures.only (sym c.if-not-ends_case-2.ensures))

pub read_case-returns-then-not-ends_case-clause-none : goal.read_case-returns-then-not-ends_case-clause-none
read_case-returns-then-not-ends_case-clause-none t c =
    λ _. no_plain_case _ _ _ _ c.in_ok-pattern.ensures.found c.in-Some.ensures (body_no_end _ _ _ c.in_ok-body-in-Some.ensures.found (sym c.if-not-ends_case.ensures))

pub read_case_items-cases-preserved : goal.read_case_items-cases-preserved
read_case_items-cases-preserved t c =
    record {
      so_far = cases_more _ _ _ _ _ _ _ _ c.in-Some.ensures c.in_ok-case-in-Some.ensures.found c.in_ok-case-in-Some.ensures.ends c.in_ok-push-in-Some.ensures.items c.cases.invariant.so_far;
      fitting = fits_case _ c.in_ok-case-in-Some.ensures.found (fits_at _ _ _ c.in-Some.ensures c.cases.invariant.fitting);
    }

pub read_case_items-cases-smaller : goal.read_case_items-cases-smaller
read_case_items-cases-smaller t c = case_smaller _ _ _ _ c.in-Some.ensures c.in_ok-case-in-Some.ensures.found

pub read_case_items-returns-in-None-behind-clause-none : goal.read_case_items-returns-in-None-behind-clause-none
read_case_items-returns-in-None-behind-clause-none t c = λ _. cases_stuck _ _ _ c.in-None.ensures c.in-None-behind.ensures c.cases.invariant.so_far

pub read_case_items-returns-in-Some-behind-clause-found : goal.read_case_items-returns-in-Some-behind-clause-found
read_case_items-returns-in-Some-behind-clause-found t c = cases_done _ _ _ _ c.in-Some-behind.ensures c.cases.invariant.so_far

pub read_case_items-returns-in_err-case-in-Some-clause-none : goal.read_case_items-returns-in_err-case-in-Some-clause-none
read_case_items-returns-in_err-case-in-Some-clause-none t c =
    let p = err_from_is_err_and c.from_residual.result c.from_residual.ensures.1 in
    rw (p.1, p.2) (λ h. cases_none _ _ _ _ _ c.in-Some.ensures (c.in_err-case-in-Some.ensures.none (err_again _ h)) c.cases.invariant.so_far)

pub read_cases-returns-else-is_empty-clause-found : goal.read_cases-returns-else-is_empty-clause-found
read_cases-returns-else-is_empty-clause-found t c = cases_found _ _ _ _ c.in-Some.ensures c.in_ok-cases-in-Some.ensures.found (search rules)

pub read_cases-returns-then-is_empty-clause-none : goal.read_cases-returns-then-is_empty-clause-none
read_cases-returns-then-is_empty-clause-none t c = λ _. no_cases_found _ _ _ _ c.in-Some.ensures c.in_ok-cases-in-Some.ensures.found (search rules)

pub read_end-read_block-requires-in-Some-behind : goal.read_end-read_block-requires-in-Some-behind
read_end-read_block-requires-in-Some-behind t c =
    (search rules, fits_at _ _ _ c.in-Some-behind.ensures (fits_block _ c.in_ok-consequent-in-Some.ensures.found (fits_at _ _ _ c.in-Some.ensures c.requires.levels)))

pub read_end-returns-in-None-behind-2-clause-none : goal.read_end-returns-in-None-behind-2-clause-none
read_end-returns-in-None-behind-2-clause-none t c = rw c.in-Match.is (λ _. no_with _ _ c.requires.at c.in-None-behind-2.ensures)

pub read_end-returns-in-None-behind-clause-none : goal.read_end-returns-in-None-behind-clause-none
read_end-returns-in-None-behind-clause-none t c =
    rw c.in-If.is (λ _. no_else _ _ _ _ _ c.requires.at c.in-Some.ensures c.in_ok-consequent-in-Some.ensures.found c.in-None-behind.ensures)

pub read_end-returns-in-None-clause-none : goal.read_end-returns-in-None-clause-none
read_end-returns-in-None-clause-none t c = rw c.in-If.is (λ _. no_then _ _ c.requires.at c.in-None.ensures)

pub read_end-returns-in_err-alternative-in-Some-behind-clause-none : goal.read_end-returns-in_err-alternative-in-Some-behind-clause-none
read_end-returns-in_err-alternative-in-Some-behind-clause-none t c =
    let p = err_from_is_err_and c.from_residual-in_err-alternative-in-Some-behind.result c.from_residual-in_err-alternative-in-Some-behind.ensures.1 in
    rw (p.1, p.2, c.in-If.is) (λ h. no_alternative _ _ _ _ _ _ c.requires.at c.in-Some.ensures c.in_ok-consequent-in-Some.ensures.found c.in-Some-behind.ensures (c.in_err-alternative-in-Some-behind.ensures.none (err_again _ h)))

pub read_end-returns-in_err-cases-in-Some-behind-2-clause-none : goal.read_end-returns-in_err-cases-in-Some-behind-2-clause-none
read_end-returns-in_err-cases-in-Some-behind-2-clause-none t c =
    let p = err_from_is_err_and c.from_residual-in_err-cases-in-Some-behind-2.result c.from_residual-in_err-cases-in-Some-behind-2.ensures.1 in
    rw (p.1, p.2, c.in-Match.is) (λ h. no_with_cases _ _ _ c.requires.at c.in-Some-behind-2.ensures (c.in_err-cases-in-Some-behind-2.ensures.none (err_again _ h)))

pub read_end-returns-in_err-consequent-in-Some-clause-none : goal.read_end-returns-in_err-consequent-in-Some-clause-none
read_end-returns-in_err-consequent-in-Some-clause-none t c =
    let p = err_from_is_err_and c.from_residual.result c.from_residual.ensures.1 in
    rw (p.1, p.2, c.in-If.is) (λ h. no_consequent _ _ _ c.requires.at c.in-Some.ensures (c.in_err-consequent-in-Some.ensures.none (err_again _ h)))

pub read_end-returns-in_ok-alternative-in-Some-behind-clause-found : goal.read_end-returns-in_ok-alternative-in-Some-behind-clause-found
read_end-returns-in_ok-alternative-in-Some-behind-clause-found t c =
    rw c.in-If.is (if_out _ _ _ _ _ _ _ _ _ c.requires.at c.requires.ends c.in-Some.ensures c.in_ok-consequent-in-Some.ensures.found c.in-Some-behind.ensures c.in_ok-alternative-in-Some-behind.ensures.found (λ e. refl))

pub read_end-returns-in_ok-cases-in-Some-behind-2-clause-found : goal.read_end-returns-in_ok-cases-in-Some-behind-2-clause-found
read_end-returns-in_ok-cases-in-Some-behind-2-clause-found t c =
    rw c.in-Match.is (match_out _ _ _ _ _ _ c.requires.at c.requires.ends c.in-Some-behind-2.ensures c.in_ok-cases-in-Some-behind-2.ensures.found (λ e. refl))

pub read_expr-returns-clause-found : goal.read_expr-returns-clause-found
read_expr-returns-clause-found t c = walked_expr c.in_ok-expr.ensures.found

pub read_expr-returns-in_err-expr-clause-none : goal.read_expr-returns-in_err-expr-clause-none
read_expr-returns-in_err-expr-clause-none t c =
    let p = err_from_is_err_and c.from_residual.result c.from_residual.ensures.1 in
    rw (p.1, p.2) (λ h. λ e us k q. c.in_err-expr.ensures.none (err_again _ h) e us (expr_is_walked _ _ _ _ q k))

pub read_exprs-exprs-preserved : goal.read_exprs-exprs-preserved
read_exprs-exprs-preserved t c =
    record {
      so_far = exprs_comma _ _ _ _ _ _ _ _ c.requires.close c.in_ok-expr.ensures.found c.in-Some.ensures c.in_ok-push.ensures.items c.exprs.invariant.so_far;
      fitting = fits_next _ _ _ _ _ _ c.in_ok-expr.ensures.found c.in-Some.ensures (λ ts f. f) c.exprs.invariant.fitting;
    }

pub read_exprs-exprs-smaller : goal.read_exprs-exprs-smaller
read_exprs-exprs-smaller t c = expr_smaller _ _ _ _ _ c.in_ok-expr.ensures.found c.in-Some.ensures

pub read_exprs-returns-in-None-behind-clause-none : goal.read_exprs-returns-in-None-behind-clause-none
read_exprs-returns-in-None-behind-clause-none t c =
    λ _. exprs_no_end _ _ _ _ _ _ c.requires.close c.in_ok-expr.ensures.found c.in_ok-expr.ensures.ends c.in-None.ensures c.in-None-behind.ensures c.exprs.invariant.so_far

pub read_exprs-returns-in-Some-behind-clause-found : goal.read_exprs-returns-in-Some-behind-clause-found
read_exprs-returns-in-Some-behind-clause-found t c =
    exprs_end _ _ _ _ _ _ _ _ c.in_ok-expr.ensures.found c.in-Some-behind.ensures c.in_ok-push.ensures.items c.exprs.invariant.so_far

pub read_exprs-returns-in_err-expr-clause-none : goal.read_exprs-returns-in_err-expr-clause-none
read_exprs-returns-in_err-expr-clause-none t c =
    let p = err_from_is_err_and c.from_residual.result c.from_residual.ensures.1 in
    rw (p.1, p.2) (λ h. exprs_none _ _ _ _ c.requires.close (c.in_err-expr.ensures.none (err_again _ h)) c.exprs.invariant.so_far)

pub read_first-returns-in-Ends-clause-none : goal.read_first-returns-in-Ends-clause-none
read_first-returns-in-Ends-clause-none t c =
    let f : 2 ≤ reach c.args.tokens.now = rw c.in-Ends.is at c.in_ok-part.ensures.found in λ _. no_part_stays _ f

pub read_first-returns-in-Opens-clause-found : goal.read_first-returns-in-Opens-clause-found
read_first-returns-in-Opens-clause-found t c =
    let f : (s : Stage) → TakesAtom s → LeadsInto s c.args.tokens.now c.in-Opens.step c.in-Opens.form c.in-Opens.after.now = rw c.in-Opens.is at c.in_ok-part.ensures.found in f Operand takes_first

pub read_first-returns-in-Takes-clause-found : goal.read_first-returns-in-Takes-clause-found
read_first-returns-in-Takes-clause-found t c =
    let f : (s : Stage) → TakesAtom s → Leads s c.args.tokens.now c.in-Takes.step c.in-Takes.stage c.in-Takes.after.now = rw c.in-Takes.is at c.in_ok-part.ensures.found in f Operand takes_first

pub read_form-returns-in-If-clause-found : goal.read_form-returns-in-If-clause-found
read_form-returns-in-If-clause-found t c = if_leads _ _ _ _ c.in-Some.ensures c.in-If.is

pub read_form-returns-in-Match-clause-found : goal.read_form-returns-in-Match-clause-found
read_form-returns-in-Match-clause-found t c = match_leads _ _ _ _ c.in-Some.ensures c.in-Match.is

pub read_form-returns-in_err-block-in-Let-clause-none : goal.read_form-returns-in_err-block-in-Let-clause-none
read_form-returns-in_err-block-in-Let-clause-none t c =
    let p = err_from_is_err_and c.from_residual-in_err-block-in-Let.result c.from_residual-in_err-block-in-Let.ensures.1 in
    rw (p.1, p.2) (λ h. no_block_stays _ _ _ _ c.in-Some.ensures c.in-Let.is (c.in_err-block-in-Let.ensures.none (err_again _ h)))

pub read_form-returns-in_err-cases-in-Cases-clause-none : goal.read_form-returns-in_err-cases-in-Cases-clause-none
read_form-returns-in_err-cases-in-Cases-clause-none t c =
    let p = err_from_is_err_and c.from_residual.result c.from_residual.ensures.1 in
    rw (p.1, p.2) (λ h. no_cases_stay _ _ _ _ c.in-Some.ensures c.in-Cases.is (c.in_err-cases-in-Cases.ensures.none (err_again _ h)))

pub read_form-returns-in_ok-block-in-Let-clause-found : goal.read_form-returns-in_ok-block-in-Let-clause-found
read_form-returns-in_ok-block-in-Let-clause-found t c =
    block_leads _ _ _ _ _ _ _ c.in-Some.ensures c.in-Let.is c.in_ok-block-in-Let.ensures.found (λ e. refl)

pub read_form-returns-in_ok-cases-in-Cases-clause-found : goal.read_form-returns-in_ok-cases-in-Cases-clause-found
read_form-returns-in_ok-cases-in-Cases-clause-found t c =
    cases_lead _ _ _ _ _ _ _ c.in-Some.ensures c.in-Cases.is c.in_ok-cases-in-Cases.ensures.found (λ e. refl)

pub read_guarded-read_block-requires : goal.read_guarded-read_block-requires
read_guarded-read_block-requires t c =
    let l : IsLambda c.args.tokens.now c.in-Some.params.items c.in-Some.start.now = rw c.in-Some.is at c.in_ok-front.ensures in
    (search rules, fits_lambda _ _ _ _ l c.requires)

pub read_guarded-read_block-requires-in-Some-behind : goal.read_guarded-read_block-requires-in-Some-behind
read_guarded-read_block-requires-in-Some-behind t c =
    let l : IsLambda c.args.tokens.now c.in-Some.params.items c.in-Some.start.now = rw c.in-Some.is at c.in_ok-front.ensures in
    (search rules, fits_at _ _ _ c.in-Some-behind.ensures (fits_block _ c.in_ok-block-in-Some.ensures.found (fits_lambda _ _ _ _ l c.requires)))

pub read_guarded-returns-clause-found : goal.read_guarded-returns-clause-found
read_guarded-returns-clause-found t c =
    let l : IsLambda c.args.tokens.now c.in-Some.params.items c.in-Some.start.now = rw c.in-Some.is at c.in_ok-front.ensures in
    lambda_guard_found _ _ _ _ _ _ _ _ _ l c.in_ok-block-in-Some.ensures.found c.in-Some-behind.ensures c.in_ok-body-in-Some-behind.ensures.found (ap expr_of c.in_ok-steps-in-Some-behind.ensures.items)

pub read_guarded-returns-clause-only : goal.read_guarded-returns-clause-only
read_guarded-returns-clause-only t c =
    let l : IsLambda c.args.tokens.now c.in-Some.params.items c.in-Some.start.now = rw c.in-Some.is at c.in_ok-front.ensures in
    guarded_only_two _ _ _ _ _ _ _ _ l c.in_ok-block-in-Some.ensures.found c.in-Some-behind.ensures c.in_ok-body-in-Some-behind.ensures.found

pub read_guarded-returns-in-None-behind-2-clause-none : goal.read_guarded-returns-in-None-behind-2-clause-none
read_guarded-returns-in-None-behind-2-clause-none t c =
    let l : IsLambda c.args.tokens.now c.in-Some.params.items c.in-Some.start.now = rw c.in-Some.is at c.in_ok-front.ensures in
    λ _. guarded_one_arrow _ _ _ _ _ l c.in_ok-block-in-Some.ensures.found c.in-None-behind.ensures (tested_no_arrow _ _ _ c.in_ok-guard-in-None-behind.ensures.found c.in_ok-guard-in-None-behind.ensures.ends c.in-None-behind-2.ensures)

pub read_guarded-returns-in-None-behind-clause-found : goal.read_guarded-returns-in-None-behind-clause-found
read_guarded-returns-in-None-behind-clause-found t c =
    let l : IsLambda c.args.tokens.now c.in-Some.params.items c.in-Some.start.now = rw c.in-Some.is at c.in_ok-front.ensures in
    guarded_of_tested _ _ _ _ (lambda_tested _ _ _ _ _ _ _ _ l c.in_ok-block-in-Some.ensures.found c.in_ok-guard-in-None-behind.ensures.found c.in-Some-behind-2.ensures)

pub read_guarded-returns-in-None-behind-clause-only : goal.read_guarded-returns-in-None-behind-clause-only
read_guarded-returns-in-None-behind-clause-only t c =
    let l : IsLambda c.args.tokens.now c.in-Some.params.items c.in-Some.start.now = rw c.in-Some.is at c.in_ok-front.ensures in
    guarded_only_one _ _ _ _ _ _ _ _ l c.in_ok-block-in-Some.ensures.found c.in-None-behind.ensures (lambda_tested _ _ _ _ _ _ _ _ l c.in_ok-block-in-Some.ensures.found c.in_ok-guard-in-None-behind.ensures.found c.in-Some-behind-2.ensures)

pub read_guarded-returns-in-None-clause-found : goal.read_guarded-returns-in-None-clause-found
read_guarded-returns-in-None-clause-found t c = guarded_of_tested _ _ _ _ c.in_ok-guard-in-None.ensures.found

pub read_guarded-returns-in-None-clause-only : goal.read_guarded-returns-in-None-clause-only
read_guarded-returns-in-None-clause-only t c =
    let n : NoLambda c.args.tokens.now = rw c.in-None.is at c.in_ok-front.ensures in
    guarded_only_tested _ _ _ _ n c.in_ok-guard-in-None.ensures.found

pub read_guarded-returns-in_err-block-in-Some-clause-none : goal.read_guarded-returns-in_err-block-in-Some-clause-none
read_guarded-returns-in_err-block-in-Some-clause-none t c =
    let l : IsLambda c.args.tokens.now c.in-Some.params.items c.in-Some.start.now = rw c.in-Some.is at c.in_ok-front.ensures in
    let p = err_from_is_err_and c.from_residual-in_err-block-in-Some.result c.from_residual-in_err-block-in-Some.ensures.1 in
    rw (p.1, p.2) (λ h. guarded_no_block _ _ _ l (c.in_err-block-in-Some.ensures.none (err_again _ h)))

pub read_guarded-returns-in_err-body-in-Some-behind-clause-none : goal.read_guarded-returns-in_err-body-in-Some-behind-clause-none
read_guarded-returns-in_err-body-in-Some-behind-clause-none t c =
    let l : IsLambda c.args.tokens.now c.in-Some.params.items c.in-Some.start.now = rw c.in-Some.is at c.in_ok-front.ensures in
    let p = err_from_is_err_and c.from_residual-in_err-body-in-Some-behind.result c.from_residual-in_err-body-in-Some-behind.ensures.1 in
    rw (p.1, p.2) (λ h. guarded_two_arrows _ _ _ _ _ _ l c.in_ok-block-in-Some.ensures.found c.in-Some-behind.ensures (c.in_err-body-in-Some-behind.ensures.none (err_again _ h)))

pub read_guarded-returns-in_err-guard-in-None-behind-clause-none : goal.read_guarded-returns-in_err-guard-in-None-behind-clause-none
read_guarded-returns-in_err-guard-in-None-behind-clause-none t c =
    let l : IsLambda c.args.tokens.now c.in-Some.params.items c.in-Some.start.now = rw c.in-Some.is at c.in_ok-front.ensures in
    let p = err_from_is_err_and c.from_residual-in_err-guard-in-None-behind.result c.from_residual-in_err-guard-in-None-behind.ensures.1 in
    rw (p.1, p.2) (λ h. guarded_one_arrow _ _ _ _ _ l c.in_ok-block-in-Some.ensures.found c.in-None-behind.ensures (tested_no_or _ (c.in_err-guard-in-None-behind.ensures.none (err_again _ h))))

pub read_guarded-returns-in_err-guard-in-None-clause-none : goal.read_guarded-returns-in_err-guard-in-None-clause-none
read_guarded-returns-in_err-guard-in-None-clause-none t c =
    let n : NoLambda c.args.tokens.now = rw c.in-None.is at c.in_ok-front.ensures in
    let p = err_from_is_err_and c.from_residual-in_err-guard-in-None.result c.from_residual-in_err-guard-in-None.ensures.1 in
    rw (p.1, p.2) (λ h. guarded_tested_only _ n (c.in_err-guard-in-None.ensures.none (err_again _ h)))

pub read_inside-read_exprs-requires : goal.read_inside-read_exprs-requires
read_inside-read_exprs-requires t c =
    (search rules, (fits_behind _ _ _ _ _ _ c.in_ok-expr.ensures.found c.in-Some-behind-3.ensures (λ xs f. f) c.requires, round))

pub read_inside-read_type-requires : goal.read_inside-read_type-requires
read_inside-read_type-requires t c = fits_behind _ _ _ _ _ _ c.in_ok-expr.ensures.found c.in-Some-behind.ensures (λ xs f. f) c.requires

pub read_inside-returns-in-None-behind-2-clause-none : goal.read_inside-returns-in-None-behind-2-clause-none
read_inside-returns-in-None-behind-2-clause-none t c =
    λ _. inside_colon _ _ _ _ _ c.in_ok-expr.ensures.found c.in-Some-behind.ensures (type_not_closed _ _ _ c.in_ok-of-in-Some-behind.ensures.found c.in_ok-of-in-Some-behind.ensures.ends c.in-None-behind-2.ensures)

pub read_inside-returns-in-None-behind-3-clause-none : goal.read_inside-returns-in-None-behind-3-clause-none
read_inside-returns-in-None-behind-3-clause-none t c =
    λ _. inside_not_closed _ _ _ _ c.in_ok-expr.ensures.found c.in_ok-expr.ensures.ends c.in-None.ensures c.in-None-behind.ensures c.in-None-behind-3.ensures

pub read_inside-returns-in_err-of-in-Some-behind-clause-none : goal.read_inside-returns-in_err-of-in-Some-behind-clause-none
read_inside-returns-in_err-of-in-Some-behind-clause-none t c =
    let p = err_from_is_err_and c.from_residual-in_err-of-in-Some-behind.result c.from_residual-in_err-of-in-Some-behind.ensures.1 in
    rw (p.1, p.2) (λ h. inside_colon _ _ _ _ _ c.in_ok-expr.ensures.found c.in-Some-behind.ensures (λ x xs k. c.in_err-of-in-Some-behind.ensures.none (err_again _ h) x (Right ∷ xs) k refl))

pub read_inside-returns-in_err-parts-in-Some-behind-3-clause-none : goal.read_inside-returns-in_err-parts-in-Some-behind-3-clause-none
read_inside-returns-in_err-parts-in-Some-behind-3-clause-none t c =
    let p = err_from_is_err_and c.from_residual-in_err-parts-in-Some-behind-3.result c.from_residual-in_err-parts-in-Some-behind-3.ensures.1 in
    rw (p.1, p.2) (λ h. inside_comma _ _ _ _ _ c.in_ok-expr.ensures.found c.in-Some-behind-3.ensures (c.in_err-parts-in-Some-behind-3.ensures.none (err_again _ h)))

pub read_inside-returns-in_ok-expr-in-Some-behind-2-clause-found : goal.read_inside-returns-in_ok-expr-in-Some-behind-2-clause-found
read_inside-returns-in_ok-expr-in-Some-behind-2-clause-found t c =
    annotated_found _ _ _ _ _ _ _ _ _ c.in_ok-expr.ensures.found c.in-Some-behind.ensures c.in_ok-of-in-Some-behind.ensures.found c.in-Some-behind-2.ensures c.in_ok-expr-in-Some-behind-2.ensures.ok

pub read_inside-returns-in_ok-expr-in-Some-clause-found : goal.read_inside-returns-in_ok-expr-in-Some-clause-found
read_inside-returns-in_ok-expr-in-Some-clause-found t c =
    group_found _ _ _ _ _ _ c.in_ok-expr.ensures.found c.in-Some.ensures c.in_ok-expr-in-Some.ensures.ok

pub read_inside-returns-in_ok-insert-in-Some-behind-3-clause-found : goal.read_inside-returns-in_ok-insert-in-Some-behind-3-clause-found
read_inside-returns-in_ok-insert-in-Some-behind-3-clause-found t c =
    tuple_found _ _ _ _ _ _ _ _ c.in_ok-expr.ensures.found c.in-Some-behind-3.ensures c.in_ok-parts-in-Some-behind-3.ensures.found c.in_ok-insert-in-Some-behind-3.ensures.items

pub read_line-read_block-requires : goal.read_line-read_block-requires
read_line-read_block-requires t c =
    let i : IsPrefix c.args.tokens.now c.in-Prefix.head c.in-Prefix.params.items c.in-Prefix.start.now = rw c.in-Prefix.is at c.in_ok-front.ensures in
    (search rules, fits_prefix _ _ _ _ _ i c.requires)

pub read_line-read_block-requires-in-Infix : goal.read_line-read_block-requires-in-Infix
read_line-read_block-requires-in-Infix t c =
    let i : IsInfix c.args.tokens.now c.in-Infix.left c.in-Infix.operator c.in-Infix.right c.in-Infix.start.now = rw c.in-Infix.is at c.in_ok-front.ensures in
    (search rules, fits_infix_front _ _ _ _ _ _ i c.requires)

pub read_line-returns-in-None-clause-none : goal.read_line-returns-in-None-clause-none
read_line-returns-in-None-clause-none t c =
    let n : NoFront c.args.tokens.now = rw c.in-Other.is at c.in_ok-front.ensures in
    λ _. other_none _ n (not_closed _ _ _ c.in_ok-expr-in-Other.ensures.found c.in_ok-expr-in-Other.ensures.ends c.in-None.ensures)

pub read_line-returns-in-Used-clause-found : goal.read_line-returns-in-Used-clause-found
read_line-returns-in-Used-clause-found t c =
    let i : IsItemFront c.args.tokens.now (front.Used c.in-Used.place c.in-Used.path c.in-Used.names c.in-Used.rest) = rw c.in-Used.is at c.in_ok-front.ensures in
    use_entry _ _ _ _ _ _ i.0 i.1 (λ b. refl)

pub read_line-returns-in_err-body-in-Infix-clause-none : goal.read_line-returns-in_err-body-in-Infix-clause-none
read_line-returns-in_err-body-in-Infix-clause-none t c =
    let i : IsInfix c.args.tokens.now c.in-Infix.left c.in-Infix.operator c.in-Infix.right c.in-Infix.start.now = rw c.in-Infix.is at c.in_ok-front.ensures in
    let p = err_from_is_err_and c.from_residual-in_err-body-in-Infix.result c.from_residual-in_err-body-in-Infix.ensures.1 in
    rw (p.1, p.2) (λ h. infix_none _ _ _ _ _ i (c.in_err-body-in-Infix.ensures.none (err_again _ h)))

pub read_line-returns-in_err-body-in-Prefix-clause-none : goal.read_line-returns-in_err-body-in-Prefix-clause-none
read_line-returns-in_err-body-in-Prefix-clause-none t c =
    let i : IsPrefix c.args.tokens.now c.in-Prefix.head c.in-Prefix.params.items c.in-Prefix.start.now = rw c.in-Prefix.is at c.in_ok-front.ensures in
    let p = err_from_is_err_and c.from_residual-in_err-body-in-Prefix.result c.from_residual-in_err-body-in-Prefix.ensures.1 in
    rw (p.1, p.2) (λ h. prefix_none _ _ _ _ i (c.in_err-body-in-Prefix.ensures.none (err_again _ h)))

pub read_line-returns-in_err-expr-in-Other-clause-none : goal.read_line-returns-in_err-expr-in-Other-clause-none
read_line-returns-in_err-expr-in-Other-clause-none t c =
    let n : NoFront c.args.tokens.now = rw c.in-Other.is at c.in_ok-front.ensures in
    let p = err_from_is_err_and c.from_residual-in_err-expr-in-Other.result c.from_residual-in_err-expr-in-Other.ensures.1 in
    rw (p.1, p.2) (λ h. other_none _ n (λ e us k. c.in_err-expr-in-Other.ensures.none (err_again _ h) e (Closes ∷ us) k (omega arith)))

pub read_line-returns-in_err-of-in-Signed-clause-none : goal.read_line-returns-in_err-of-in-Signed-clause-none
read_line-returns-in_err-of-in-Signed-clause-none t c =
    let i : IsSigned c.args.tokens.now c.in-Signed.head c.in-Signed.types.now = rw c.in-Signed.is at c.in_ok-front.ensures in
    let p = err_from_is_err_and c.from_residual-in_err-of-in-Signed.result c.from_residual-in_err-of-in-Signed.ensures.1 in
    rw (p.1, p.2) (λ h. signature_none _ _ _ i (c.in_err-of-in-Signed.ensures.none (err_again _ h)))

pub read_line-returns-in_ok-body-in-Infix-clause-found : goal.read_line-returns-in_ok-body-in-Infix-clause-found
read_line-returns-in_ok-body-in-Infix-clause-found t c =
    let i : IsInfix c.args.tokens.now c.in-Infix.left c.in-Infix.operator c.in-Infix.right c.in-Infix.start.now = rw c.in-Infix.is at c.in_ok-front.ensures in
    infix_entry _ _ _ _ _ _ _ _ i (single_at _ _ _ c.as_slice-in-Infix.ensures c.if-not-is_single-2.ensures) c.in_ok-body-in-Infix.ensures.found (λ b. refl)

pub read_line-returns-in_ok-body-in-Prefix-clause-found : goal.read_line-returns-in_ok-body-in-Prefix-clause-found
read_line-returns-in_ok-body-in-Prefix-clause-found t c =
    let i : IsPrefix c.args.tokens.now c.in-Prefix.head c.in-Prefix.params.items c.in-Prefix.start.now = rw c.in-Prefix.is at c.in_ok-front.ensures in
    prefix_entry _ _ _ _ _ _ _ i (single_at _ _ _ (c.as_slice.ensures ∙ ap (λ w. w.text) c.name_of.ensures) c.if-not-is_single.ensures) c.in_ok-body-in-Prefix.ensures.found (λ b. refl)

pub read_line-returns-in_ok-of-in-Signed-clause-found : goal.read_line-returns-in_ok-of-in-Signed-clause-found
read_line-returns-in_ok-of-in-Signed-clause-found t c =
    let i : IsSigned c.args.tokens.now c.in-Signed.head c.in-Signed.types.now = rw c.in-Signed.is at c.in_ok-front.ensures in
    signature_entry _ _ _ _ _ _ i c.in_ok-of-in-Signed.ensures.found c.in_ok-of-in-Signed.ensures.ends (λ b. refl)

pub read_line-returns-then-not-is_single-2-clause-none : goal.read_line-returns-then-not-is_single-2-clause-none
read_line-returns-then-not-is_single-2-clause-none t c =
    let i : IsInfix c.args.tokens.now c.in-Infix.left c.in-Infix.operator c.in-Infix.right c.in-Infix.start.now = rw c.in-Infix.is at c.in_ok-front.ensures in
    λ _. infix_not_single _ _ _ _ _ i (single_at _ _ _ c.as_slice-in-Infix.ensures c.if-not-is_single-2.ensures)

pub read_line-returns-then-not-is_single-clause-none : goal.read_line-returns-then-not-is_single-clause-none
read_line-returns-then-not-is_single-clause-none t c =
    let i : IsPrefix c.args.tokens.now c.in-Prefix.head c.in-Prefix.params.items c.in-Prefix.start.now = rw c.in-Prefix.is at c.in_ok-front.ensures in
    λ _. prefix_not_single _ _ _ _ i (single_at _ _ _ (c.as_slice.ensures ∙ ap (λ w. w.text) c.name_of.ensures) c.if-not-is_single.ensures)

pub read_move-returns-in-Whole-clause-found : goal.read_move-returns-in-Whole-clause-found
read_move-returns-in-Whole-clause-found t c = rw c.in-Whole.is (lambda_ends, ends_with_lambda)

pub read_move-returns-in_ok-next-in-Formed-clause-found : goal.read_move-returns-in_ok-next-in-Formed-clause-found
read_move-returns-in_ok-next-in-Formed-clause-found t c = rw c.in-Formed.is (connective_behind_form _ _ c.in_ok-next-in-Formed.ensures.found)

pub read_next-returns-in-Opens-clause-found : goal.read_next-returns-in-Opens-clause-found
read_next-returns-in-Opens-clause-found t c =
    let f : (s : Stage) → TakesAtom s → LeadsInto s c.args.tokens.now c.in-Opens.step c.in-Opens.form c.in-Opens.after.now = rw c.in-Opens.is at c.in_ok-part.ensures.found in f Atoms takes_next

pub read_next-returns-in-Takes-clause-found : goal.read_next-returns-in-Takes-clause-found
read_next-returns-in-Takes-clause-found t c =
    let f : (s : Stage) → TakesAtom s → Leads s c.args.tokens.now c.in-Takes.step c.in-Takes.stage c.in-Takes.after.now = rw c.in-Takes.is at c.in_ok-part.ensures.found in f Atoms takes_next

pub read_next-returns-in_err-part-clause-none : goal.read_next-returns-in_err-part-clause-none
read_next-returns-in_err-part-clause-none t c =
    let p = err_from_is_err_and c.from_residual.result c.from_residual.ensures.1 in
    rw (p.1, p.2) (λ h. c.in_err-part.ensures.none (err_again _ h) Atoms takes_next)

pub read_next-returns-in_ok-next-in-Ends-clause-found : goal.read_next-returns-in_ok-next-in-Ends-clause-found
read_next-returns-in_ok-next-in-Ends-clause-found t c =
    let f : 2 ≤ reach c.args.tokens.now = rw c.in-Ends.is at c.in_ok-part.ensures.found in connective_behind_atoms _ _ f c.in_ok-next-in-Ends.ensures.found

pub read_or-returns-clause-found : goal.read_or-returns-clause-found
read_or-returns-clause-found t c = walked_or c.in_ok-expr.ensures.found

pub read_or-returns-in_err-expr-clause-none : goal.read_or-returns-in_err-expr-clause-none
read_or-returns-in_err-expr-clause-none t c =
    let p = err_from_is_err_and c.from_residual.result c.from_residual.ensures.1 in
    rw (p.1, p.2) (λ h. λ e us k q. c.in_err-expr.ensures.none (err_again _ h) e us (or_is_walked _ _ _ _ q k))

pub read_part-returns-in_err-atom-in-0-clause-none : goal.read_part-returns-in_err-atom-in-0-clause-none
read_part-returns-in_err-atom-in-0-clause-none t c =
    let p = err_from_is_err_and c.from_residual.result c.from_residual.ensures.1 in
    rw (p.1, p.2) (λ h. no_atom_stays _ (sym c.reach.ensures ∙ c.in-0.is) (c.in_err-atom-in-0.ensures.none (err_again _ h)))

pub read_part-returns-in_ok-atom-in-0-clause-found : goal.read_part-returns-in_ok-atom-in-0-clause-found
read_part-returns-in_ok-atom-in-0-clause-found t c = atom_leads _ _ _ _ c.in_ok-atom-in-0.ensures.found (λ e. refl)

pub read_round-returns-in-Some-clause-found : goal.read_round-returns-in-Some-clause-found
read_round-returns-in-Some-clause-found t c = unit_found _ _ _ c.in-Some.ensures

pub read_round-returns-in_err-atom-in-None-clause-none : goal.read_round-returns-in_err-atom-in-None-clause-none
read_round-returns-in_err-atom-in-None-clause-none t c =
    let p = err_from_is_err_and c.from_residual-in_err-atom-in-None.result c.from_residual-in_err-atom-in-None.ensures.1 in
    rw (p.1, p.2) (λ h. round_none _ _ c.in_default.ensures c.in-None.ensures (c.in_err-atom-in-None.ensures.none (err_again _ h)))

pub read_round-returns-in_ok-copy-in-Some-bracketed_operator-clause-found : goal.read_round-returns-in_ok-copy-in-Some-bracketed_operator-clause-found
read_round-returns-in_ok-copy-in-Some-bracketed_operator-clause-found t c =
    operator_found _ _ _ _ _ c.in-Some-bracketed_operator.ensures c.in_ok-copy-in-Some-bracketed_operator.ensures

pub read_square-read_exprs-requires : goal.read_square-read_exprs-requires
read_square-read_exprs-requires t c = (search rules, (c.requires, square))

pub read_square-returns-in-Some-clause-found : goal.read_square-returns-in-Some-clause-found
read_square-returns-in-Some-clause-found t c = empty_found _ _ _ _ c.in-Some.ensures c.new.ensures.items

pub read_square-returns-in_ok-elements-in-None-clause-found : goal.read_square-returns-in_ok-elements-in-None-clause-found
read_square-returns-in_ok-elements-in-None-clause-found t c = list_atom c.in_ok-elements-in-None.ensures.found

pub read_start-read_block-requires : goal.read_start-read_block-requires
read_start-read_block-requires t c =
    let l : IsLambda c.args.tokens.now c.in-Some.params.items c.in-Some.body.now = rw c.in-Some.is at c.in_ok-front.ensures in
    (search rules, fits_lambda _ _ _ _ l c.requires)

pub read_start-returns-in_err-block-in-Some-clause-none : goal.read_start-returns-in_err-block-in-Some-clause-none
read_start-returns-in_err-block-in-Some-clause-none t c =
    let l : IsLambda c.args.tokens.now c.in-Some.params.items c.in-Some.body.now = rw c.in-Some.is at c.in_ok-front.ensures in
    let p = err_from_is_err_and c.from_residual-in_err-block-in-Some.result c.from_residual-in_err-block-in-Some.ensures.1 in
    rw (p.1, p.2) (λ h. lambda_stays _ _ _ l (c.in_err-block-in-Some.ensures.none (err_again _ h)))

pub read_start-returns-in_err-next-in-None-clause-none : goal.read_start-returns-in_err-next-in-None-clause-none
read_start-returns-in_err-next-in-None-clause-none t c =
    let n : NoLambda c.args.tokens.now = rw c.in-None.is at c.in_ok-front.ensures in
    let p = err_from_is_err_and c.from_residual-in_err-next-in-None.result c.from_residual-in_err-next-in-None.ensures.1 in
    rw (p.1, p.2) (λ h. start_stays _ n (c.in_err-next-in-None.ensures.none (err_again _ h)))

pub read_start-returns-in_ok-block-in-Some-clause-found : goal.read_start-returns-in_ok-block-in-Some-clause-found
read_start-returns-in_ok-block-in-Some-clause-found t c =
    let l : IsLambda c.args.tokens.now c.in-Some.params.items c.in-Some.body.now = rw c.in-Some.is at c.in_ok-front.ensures in
    lambda_leads _ _ _ _ _ _ l c.in_ok-block-in-Some.ensures.found (λ e. refl)

pub read_start-returns-in_ok-next-in-None-clause-found : goal.read_start-returns-in_ok-next-in-None-clause-found
read_start-returns-in_ok-next-in-None-clause-found t c =
    let n : NoLambda c.args.tokens.now = rw c.in-None.is at c.in_ok-front.ensures in
    move_of_operand _ _ n c.in_ok-next-in-None.ensures.found

pub read_steps-returns-in-None-clause-found : goal.read_steps-returns-in-None-clause-found
read_steps-returns-in-None-clause-found t c =
    let m : IsMove c.steps.stage c.steps.rest.now move.Ends = rw c.in-Ends.is at c.in_ok-next.ensures.found in
    steps_end _ _ _ _ _ _ _ (search rules) m.1 (search rules) c.steps.invariant.so_far

pub read_steps-returns-then-reach-end-clause-none : goal.read_steps-returns-then-reach-end-clause-none
read_steps-returns-then-reach-end-clause-none t c =
    let m : IsMove c.steps.stage c.steps.rest.now move.Ends = rw c.in-Ends.is at c.in_ok-next.ensures.found in
    λ _. steps_no_end _ _ _ _ _ _ _ (search rules) m.0 (search rules) c.steps.invariant.so_far

pub read_steps-steps-preserved : goal.read_steps-steps-preserved
read_steps-steps-preserved t c =
    record {
      so_far = steps_close _ _ _ _ _ _ _ _ _ _ _ _ c.in_ok-step-in-Some.ensures.found c.in_ok-push-in-Some.ensures.items (search rules) c.steps.invariant.so_far;
      fitting = c.in_ok-step-in-Some.ensures.found.fitting _ c.steps.invariant.fitting;
    }

pub read_steps-steps-preserved-in-Opens : goal.read_steps-steps-preserved-in-Opens
read_steps-steps-preserved-in-Opens t c =
    let m : IsMove c.steps.stage c.steps.rest.now (move.Opens c.in-Opens.form c.in-Opens.step c.in-Opens.after) = rw c.in-Opens.is at c.in_ok-next.ensures.found in
    record {
      so_far = steps_open _ _ _ _ _ _ _ _ _ _ _ _ c.requires.end m c.in_ok-push-in-Opens.ensures.items (search rules) c.steps.invariant.so_far;
      fitting = m.fitting _ c.steps.invariant.fitting;
    }

pub read_steps-steps-preserved-in-Takes : goal.read_steps-steps-preserved-in-Takes
read_steps-steps-preserved-in-Takes t c =
    let m : IsMove c.steps.stage c.steps.rest.now (move.Takes c.in-Takes.step c.in-Takes.behind_step c.in-Takes.after) = rw c.in-Takes.is at c.in_ok-next.ensures.found in
    record {
      so_far = steps_take _ _ _ _ _ _ _ _ _ _ _ c.requires.end m c.in_ok-push-in-Takes.ensures.items c.steps.invariant.so_far;
      fitting = m.fitting _ c.steps.invariant.fitting;
    }

pub read_tested-read_block-requires : goal.read_tested-read_block-requires
read_tested-read_block-requires t c = (search rules, fits_tested _ _ _ _ _ c.in_ok-guard.ensures.found c.in-Some.ensures c.requires)

pub read_tested-returns-in-None-clause-none : goal.read_tested-returns-in-None-clause-none
read_tested-returns-in-None-clause-none t c = λ _. tested_no_arrow _ _ _ c.in_ok-guard.ensures.found c.in_ok-guard.ensures.ends c.in-None.ensures

pub read_tested-returns-in_err-body-in-Some-clause-none : goal.read_tested-returns-in_err-body-in-Some-clause-none
read_tested-returns-in_err-body-in-Some-clause-none t c =
    let p = err_from_is_err_and c.from_residual-in_err-body-in-Some.result c.from_residual-in_err-body-in-Some.ensures.1 in
    rw (p.1, p.2) (λ h. tested_no_body _ _ _ _ c.in_ok-guard.ensures.found c.in-Some.ensures (c.in_err-body-in-Some.ensures.none (err_again _ h)))

pub read_tested-returns-in_ok-body-in-Some-clause-found : goal.read_tested-returns-in_ok-body-in-Some-clause-found
read_tested-returns-in_ok-body-in-Some-clause-found t c =
    tested_found _ _ _ _ _ _ c.in_ok-guard.ensures.found c.in-Some.ensures c.in_ok-body-in-Some.ensures.found
