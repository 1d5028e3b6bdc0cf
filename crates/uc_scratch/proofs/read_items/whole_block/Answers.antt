use Rattle.std.proofs.Common.{[], rules}
use Rattle.std.proofs.lemmas.Result.{err_from_is_err_and}
use Rattle.uc_scratch.proofs.Stops.{err_again}
use Rattle.uc_scratch.proofs.ItemSteps.{block_ends, block_left}
use Rattle.uc_scratch.proofs.read_items.whole_block.Goals as goal

pub returns-in_err-block-clause-none : goal.returns-in_err-block-clause-none
returns-in_err-block-clause-none c =
    let p = err_from_is_err_and c.from_residual.result c.from_residual.ensures.1 in
    rw (p.1, p.2) (λ h. λ b k. c.in_err-block.ensures.none (err_again _ h) b [] k)

pub returns-then-not-is_empty-clause-none : goal.returns-then-not-is_empty-clause-none
returns-then-not-is_empty-clause-none c = λ _. block_left _ _ _ c.in_ok-block.ensures.found (search rules)

pub returns-clause-found : goal.returns-clause-found
returns-clause-found c = block_ends _ _ _ c.in_ok-block.ensures.found c.if-not-is_empty.ensures
