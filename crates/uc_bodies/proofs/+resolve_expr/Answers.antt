use Rattle.std.proofs.Common.{◌≡◌, [], inl, inr, ap, ◌∙◌}
use Rattle.std.proofs.lemmas.Result.{err_from_is_err_and}
use Rattle.uc_scratch.specs.ExprViews.{atom_of, cases_of}
use Rattle.uc_meaning.specs.ExprMeanings.{no_parts, atom_meaning, word_meaning, expr_meaning, cases_meaning}
use Rattle.uc_signatures.specs.PlacedViews.{placed_of}
use Rattle.uc_bodies.specs.BodyViews.{parts_of, outer_of, with_outer}
use Rattle.uc_bodies.proofs.Steps.{given_as}
use Rattle.uc_bodies.proofs.Loops.{step_passed, step_failed, expr_passed, exprs_passed, case_passed, case_failed, cases_passed}
use Rattle.uc_bodies.proofs.+resolve_expr.Goals as goal

pub exprs::resolve_atom-returns-in-Path-clause-value : goal.exprs::resolve_atom-returns-in-Path-clause-value
exprs::resolve_atom-returns-in-Path-clause-value g t c =
    let known = g.M.Meanings.known c.args.meanings.now in
    let same : atom_meaning known c.args.locals.now (atom_of c.args.atom.now) ≡ word_meaning known c.args.locals.now c.in-Path.w = elim c.in-Path.is [
      | inl h ↦ ap (λ a. atom_meaning known c.args.locals.now (atom_of a)) h
      | inr h ↦ ap (λ a. atom_meaning known c.args.locals.now (atom_of a)) h.1
    ] in
    given_as placed_of c.resolve_word.result (word_meaning known c.args.locals.now c.in-Path.w) (atom_meaning known c.args.locals.now (atom_of c.args.atom.now)) same c.resolve_word.ensures

pub exprs::resolve_expr-loop-step-preserved : goal.exprs::resolve_expr-loop-step-preserved
exprs::resolve_expr-loop-step-preserved g t c = (
  step_passed (g.M.Meanings.known c.args.meanings.now) c.args.locals.now c.loop-step.locals c.loop-step.invariant.1 c.deref-step-items.result.now c.loop-step.step-index c.step-item.result
      (parts_of c.loop-step.parts) (outer_of c.loop-step.outside) (with_outer c.pass_step.new.outside c.in_ok-parts.parts) _ c.loop-step-test.true c.step-item.is
      c.in_ok-parts.ensures.value c.loop-step.invariant.0,
  c.in_ok-parts.ensures.kept ∙ c.loop-step.invariant.1,
)

pub exprs::resolve_expr-returns-in_err-parts-clause-value : goal.exprs::resolve_expr-returns-in_err-parts-clause-value
exprs::resolve_expr-returns-in_err-parts-clause-value g t c =
    let p = err_from_is_err_and c.from_residual.result c.from_residual.ensures.1 in
    rw (p.1, p.2) (step_failed (g.M.Meanings.known c.args.meanings.now) c.args.locals.now c.loop-step.locals c.loop-step.invariant.1 c.deref-step-items.result.now c.loop-step.step-index
    c.step-item.result (parts_of c.loop-step.parts) (outer_of c.loop-step.outside) (expr_meaning (g.M.Meanings.known c.args.meanings.now) c.args.locals.now c.args.e.now no_parts []) c.in_err-parts.field-0.0 c.loop-step-test.true c.step-item.is
    c.in_err-parts.ensures.value c.loop-step.invariant.0)

pub exprs::resolve_exprs-loop-e-preserved : goal.exprs::resolve_exprs-loop-e-preserved
exprs::resolve_exprs-loop-e-preserved g t c = (
  expr_passed (g.M.Meanings.known c.args.meanings.now) c.args.locals.now c.loop-e.locals c.loop-e.invariant.1 c.args.es.now c.loop-e.e-index c.e-item.result
      c.loop-e.terms.tree.items _ c.loop-e.terms.places _ (placed_of c.in_ok-term.term) _ c.loop-e-test.true c.e-item.is
      c.in_ok-term.ensures.value c.in_ok-push_term.ensures.tree c.in_ok-push_term.ensures.places c.loop-e.invariant.0,
  c.in_ok-term.ensures.kept ∙ c.loop-e.invariant.1,
)

pub exprs::resolve_exprs-returns-clause-value : goal.exprs::resolve_exprs-returns-clause-value
exprs::resolve_exprs-returns-clause-value g t c =
    exprs_passed (g.M.Meanings.known c.args.meanings.now) c.args.locals.now c.args.es.now c.loop-e.e-index c.loop-e.terms.tree.items c.loop-e.terms.places _ c.loop-e-test.false c.loop-e.invariant.0

pub exprs::resolve_cases-loop-case-preserved : goal.exprs::resolve_cases-loop-case-preserved
exprs::resolve_cases-loop-case-preserved g t c = (
  case_passed (g.M.Meanings.known c.args.meanings.now) c.args.locals.now c.loop-case.locals c.loop-case.invariant.1 c.args.cases.now c.loop-case.case-index c.case-item.result
      c.loop-case.found.tree.items _ c.loop-case.found.places _ (placed_of c.in_ok-next.next) _ c.loop-case-test.true c.case-item.is
      c.in_ok-next.ensures.value c.in_ok-push_case.ensures.tree c.in_ok-push_case.ensures.places c.loop-case.invariant.0,
  c.in_ok-next.ensures.kept ∙ c.loop-case.invariant.1,
)

pub exprs::resolve_cases-returns-in_err-next-clause-value : goal.exprs::resolve_cases-returns-in_err-next-clause-value
exprs::resolve_cases-returns-in_err-next-clause-value g t c =
    let p = err_from_is_err_and c.from_residual.result c.from_residual.ensures.1 in
    rw (p.1, p.2) (case_failed (g.M.Meanings.known c.args.meanings.now) c.args.locals.now c.loop-case.locals c.loop-case.invariant.1 c.args.cases.now c.loop-case.case-index
    c.case-item.result c.loop-case.found.tree.items c.loop-case.found.places (cases_meaning (g.M.Meanings.known c.args.meanings.now) c.args.locals.now (cases_of c.args.cases.now)) c.in_err-next.field-0.0 c.loop-case-test.true c.case-item.is
    c.in_err-next.ensures.value c.loop-case.invariant.0)

pub exprs::resolve_cases-returns-clause-value : goal.exprs::resolve_cases-returns-clause-value
exprs::resolve_cases-returns-clause-value g t c =
    cases_passed (g.M.Meanings.known c.args.meanings.now) c.args.locals.now c.args.cases.now c.loop-case.case-index c.loop-case.found.tree.items c.loop-case.found.places _
    c.loop-case-test.false c.loop-case.invariant.0
