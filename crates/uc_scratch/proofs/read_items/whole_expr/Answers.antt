use Rattle.std.proofs.Common.{[], arith, rules}
use Rattle.std.proofs.lemmas.Result.{err_from_is_err_and}
use Rattle.uc_scratch.proofs.Stops.{err_again}
use Rattle.uc_scratch.proofs.ItemSteps.{expr_ends, expr_left}
use Rattle.uc_scratch.proofs.read_items.whole_expr.Goals as goal

pub returns-in_err-expr-clause-none : goal.returns-in_err-expr-clause-none
returns-in_err-expr-clause-none c =
    let p = err_from_is_err_and c.from_residual.result c.from_residual.ensures.1 in
    rw (p.1, p.2) (λ h. λ e k. c.in_err-expr.ensures.none (err_again _ h) e [] k (omega arith))

pub returns-then-not-is_empty-clause-none : goal.returns-then-not-is_empty-clause-none
returns-then-not-is_empty-clause-none c = λ _. expr_left _ _ _ c.in_ok-expr.ensures.found c.in_ok-expr.ensures.ends (search rules)

pub returns-clause-found : goal.returns-clause-found
returns-clause-found c = expr_ends _ _ _ c.in_ok-expr.ensures.found (search rules)
