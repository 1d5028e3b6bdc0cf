use Rattle.std.proofs.lemmas.Result.{err_from_is_err_and}
use Rattle.uc_canon.specs.ReadingTerms.{term_at, case_at}
use Rattle.uc_canon.proofs.ReadLoops.{goes_on, fails}
use Rattle.uc_canon.proofs.read_terms.+read_term.Goals as goal

pub read_each_term-returns-in_err-term : goal.read_each_term-returns-in_err-term
read_each_term-returns-in_err-term t c =
    let p = err_from_is_err_and c.from_residual.result c.from_residual.ensures.1 in
    rw (p.1, p.2) (fails (term_at c.args.levels c.args.scope) c.in_err-term.field-0.0 _ c.args.count c.loop.counter c.loop.rest.now _ c.loop-test.true c.in_err-term.ensures c.loop.invariant)

pub read_each_term-loop-preserved : goal.read_each_term-loop-preserved
read_each_term-loop-preserved t c =
    rw c.in_ok-push.ensures.items (goes_on (term_at c.args.levels c.args.scope) c.loop.terms.items c.args.count c.loop.counter c.loop.rest.now c.in_ok-term.term c.in_ok-term.after.now _ c.loop-test.true c.in_ok-term.ensures c.loop.invariant)

pub read_each_case-returns-in_err-case : goal.read_each_case-returns-in_err-case
read_each_case-returns-in_err-case t c =
    let p = err_from_is_err_and c.from_residual.result c.from_residual.ensures.1 in
    rw (p.1, p.2) (fails (case_at c.args.levels (term_at c.args.levels) c.args.scope) c.in_err-case.field-0.0 _ c.args.count c.loop.counter c.loop.rest.now _ c.loop-test.true c.in_err-case.ensures c.loop.invariant)

pub read_each_case-loop-preserved : goal.read_each_case-loop-preserved
read_each_case-loop-preserved t c =
    rw c.in_ok-push.ensures.items (goes_on (case_at c.args.levels (term_at c.args.levels) c.args.scope) c.loop.cases.items c.args.count c.loop.counter c.loop.rest.now c.in_ok-case.case c.in_ok-case.after.now _ c.loop-test.true c.in_ok-case.ensures c.loop.invariant)
