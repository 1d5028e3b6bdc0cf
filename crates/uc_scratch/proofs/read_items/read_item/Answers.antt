use Rattle.std.proofs.lemmas.Result.{err_from_is_err_and}
use Rattle.uc_scratch.proofs.Stops.{err_again}
use Rattle.uc_scratch.proofs.ItemSteps.{item_found, no_item_there, no_item_mark, fits_behind_mark}
use Rattle.uc_scratch.proofs.read_items.read_item.Goals as goal

pub read_behind-requires : goal.read_behind-requires
read_behind-requires c = fits_behind_mark _ _ _ _ c.in-Some.ensures c.requires

pub returns-in-None-clause-none : goal.returns-in-None-clause-none
returns-in-None-clause-none c = λ _. no_item_mark _ c.in-None.ensures

pub returns-in_err-item-in-Some-clause-none : goal.returns-in_err-item-in-Some-clause-none
returns-in_err-item-in-Some-clause-none c =
    let p = err_from_is_err_and c.from_residual.result c.from_residual.ensures.1 in
    rw (p.1, p.2) (λ h. no_item_there _ _ _ c.in-Some.ensures (c.in_err-item-in-Some.ensures.none (err_again _ h)))

pub returns-in_ok-item-in-Some-clause-found : goal.returns-in_ok-item-in-Some-clause-found
returns-in_ok-item-in-Some-clause-found c = item_found _ _ _ _ c.in-Some.ensures c.in_ok-item-in-Some.ensures.found
