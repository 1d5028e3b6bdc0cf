use Rattle.std.proofs.lemmas.Result.{err_from_is_err_and}
use Rattle.uc_scratch.proofs.Stops.{err_again}
use Rattle.uc_scratch.proofs.Fits.{fits_at}
use Rattle.uc_scratch.proofs.ItemSteps.{watch_found, no_watched, declaration_found, no_other}
use Rattle.uc_scratch.proofs.read_items.read_other.Goals as goal

pub whole_expr-requires : goal.whole_expr-requires
whole_expr-requires c = fits_at _ _ _ c.in-Some.ensures c.requires.levels

pub returns-in_err-of-in-Some-clause-none : goal.returns-in_err-of-in-Some-clause-none
returns-in_err-of-in-Some-clause-none c =
    let p = err_from_is_err_and c.from_residual.result c.from_residual.ensures.1 in
    rw (p.1, p.2) (λ h. no_watched _ _ _ c.requires.front c.in-Some.ensures (c.in_err-of-in-Some.ensures.none (err_again _ h)))

pub returns-in_ok-of-in-Some-clause-found : goal.returns-in_ok-of-in-Some-clause-found
returns-in_ok-of-in-Some-clause-found c = watch_found _ _ _ _ c.in-Some.ensures c.in_ok-of-in-Some.ensures.found

pub returns-in_err-declaration-in-None-clause-none : goal.returns-in_err-declaration-in-None-clause-none
returns-in_err-declaration-in-None-clause-none c =
    let p = err_from_is_err_and c.from_residual-in_err-declaration-in-None.result c.from_residual-in_err-declaration-in-None.ensures.1 in
    rw (p.1, p.2) (λ h. no_other _ c.requires.front c.in-None.ensures (c.in_err-declaration-in-None.ensures.none (err_again _ h)))

pub returns-in_ok-declaration-in-None-clause-found : goal.returns-in_ok-declaration-in-None-clause-found
returns-in_ok-declaration-in-None-clause-found c = declaration_found _ _ c.in_ok-declaration-in-None.ensures.found
