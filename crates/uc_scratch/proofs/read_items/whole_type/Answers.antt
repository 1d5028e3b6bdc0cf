use Rattle.std.proofs.Common.{[], refl, rules}
use Rattle.std.proofs.lemmas.Result.{err_from_is_err_and}
use Rattle.uc_scratch.proofs.Stops.{err_again}
use Rattle.uc_scratch.proofs.ItemSteps.{type_ends, type_left}
use Rattle.uc_scratch.proofs.read_items.whole_type.Goals as goal

pub returns-in_err-of-clause-none : goal.returns-in_err-of-clause-none
returns-in_err-of-clause-none c =
    let p = err_from_is_err_and c.from_residual.result c.from_residual.ensures.1 in
    rw (p.1, p.2) (λ h. λ t k. c.in_err-of.ensures.none (err_again _ h) t [] k refl)

pub returns-then-not-is_empty-clause-none : goal.returns-then-not-is_empty-clause-none
returns-then-not-is_empty-clause-none c = λ _. type_left _ _ _ c.in_ok-of.ensures.found c.in_ok-of.ensures.ends (search rules)

pub returns-clause-found : goal.returns-clause-found
returns-clause-found c = type_ends _ _ _ c.in_ok-of.ensures.found (search rules)
