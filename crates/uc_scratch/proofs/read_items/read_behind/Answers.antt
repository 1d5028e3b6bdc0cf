use Rattle.std.proofs.Common.{◌≡◌, true, rules}
use Rattle.std.proofs.lemmas.Result.{err_from_is_err_and}
use Rattle.uc_scratch.specs.Follows.{ends_used}
use Rattle.uc_scratch.specs.Fronts.{IsUse, IsSigned, IsPrefix, IsInfix}
use Rattle.uc_scratch.proofs.Stops.{err_again}
use Rattle.uc_scratch.proofs.ExprParts.{fits_prefix, fits_infix_front}
use Rattle.uc_scratch.proofs.ItemSteps.{use_found, use_left, signature_found, no_signature, fits_signed, prefix_found, no_prefix, infix_found, no_infix}
use Rattle.uc_scratch.proofs.read_items.read_behind.Goals as goal

pub returns-then-not-is_empty-clause-none : goal.returns-then-not-is_empty-clause-none
returns-then-not-is_empty-clause-none c =
    let i : IsUse c.args.tokens.now c.in-Used.place c.in-Used.path c.in-Used.names.items c.in-Used.rest.now × (ends_used c.in-Used.rest.now ≡ true) = rw c.in-Used.is at c.in_ok-front.ensures in
    λ _. use_left _ _ _ _ _ i.0 i.1 (search rules)

pub returns-else-not-is_empty-clause-found : goal.returns-else-not-is_empty-clause-found
returns-else-not-is_empty-clause-found c =
    let i : IsUse c.args.tokens.now c.in-Used.place c.in-Used.path c.in-Used.names.items c.in-Used.rest.now × (ends_used c.in-Used.rest.now ≡ true) = rw c.in-Used.is at c.in_ok-front.ensures in
    use_found _ _ _ _ _ i.0 (search rules)

pub whole_type-requires : goal.whole_type-requires
whole_type-requires c =
    let i : IsSigned c.args.tokens.now c.in-Signed.head c.in-Signed.types.now = rw c.in-Signed.is at c.in_ok-front.ensures in fits_signed _ _ _ _ i c.requires

pub returns-in_err-of-in-Signed-clause-none : goal.returns-in_err-of-in-Signed-clause-none
returns-in_err-of-in-Signed-clause-none c =
    let i : IsSigned c.args.tokens.now c.in-Signed.head c.in-Signed.types.now = rw c.in-Signed.is at c.in_ok-front.ensures in
    let p = err_from_is_err_and c.from_residual-in_err-of-in-Signed.result c.from_residual-in_err-of-in-Signed.ensures.1 in
    rw (p.1, p.2) (λ h. no_signature _ _ _ i (c.in_err-of-in-Signed.ensures.none (err_again _ h)))

pub returns-in_ok-of-in-Signed-clause-found : goal.returns-in_ok-of-in-Signed-clause-found
returns-in_ok-of-in-Signed-clause-found c =
    let i : IsSigned c.args.tokens.now c.in-Signed.head c.in-Signed.types.now = rw c.in-Signed.is at c.in_ok-front.ensures in signature_found _ _ _ _ i c.in_ok-of-in-Signed.ensures.found

pub whole_block-requires : goal.whole_block-requires
whole_block-requires c =
    let i : IsPrefix c.args.tokens.now c.in-Prefix.head c.in-Prefix.params.items c.in-Prefix.start.now = rw c.in-Prefix.is at c.in_ok-front.ensures in fits_prefix _ _ _ _ _ i c.requires

pub returns-in_err-body-in-Prefix-clause-none : goal.returns-in_err-body-in-Prefix-clause-none
returns-in_err-body-in-Prefix-clause-none c =
    let i : IsPrefix c.args.tokens.now c.in-Prefix.head c.in-Prefix.params.items c.in-Prefix.start.now = rw c.in-Prefix.is at c.in_ok-front.ensures in
    let p = err_from_is_err_and c.from_residual-in_err-body-in-Prefix.result c.from_residual-in_err-body-in-Prefix.ensures.1 in
    rw (p.1, p.2) (λ h. no_prefix _ _ _ _ i (c.in_err-body-in-Prefix.ensures.none (err_again _ h)))

pub returns-in_ok-body-in-Prefix-clause-found : goal.returns-in_ok-body-in-Prefix-clause-found
returns-in_ok-body-in-Prefix-clause-found c =
    let i : IsPrefix c.args.tokens.now c.in-Prefix.head c.in-Prefix.params.items c.in-Prefix.start.now = rw c.in-Prefix.is at c.in_ok-front.ensures in prefix_found _ _ _ _ _ i c.in_ok-body-in-Prefix.ensures.found

pub whole_block-requires-in-Infix : goal.whole_block-requires-in-Infix
whole_block-requires-in-Infix c =
    let i : IsInfix c.args.tokens.now c.in-Infix.left c.in-Infix.operator c.in-Infix.right c.in-Infix.start.now = rw c.in-Infix.is at c.in_ok-front.ensures in fits_infix_front _ _ _ _ _ _ i c.requires

pub returns-in_err-body-in-Infix-clause-none : goal.returns-in_err-body-in-Infix-clause-none
returns-in_err-body-in-Infix-clause-none c =
    let i : IsInfix c.args.tokens.now c.in-Infix.left c.in-Infix.operator c.in-Infix.right c.in-Infix.start.now = rw c.in-Infix.is at c.in_ok-front.ensures in
    let p = err_from_is_err_and c.from_residual-in_err-body-in-Infix.result c.from_residual-in_err-body-in-Infix.ensures.1 in
    rw (p.1, p.2) (λ h. no_infix _ _ _ _ _ i (c.in_err-body-in-Infix.ensures.none (err_again _ h)))

pub returns-in_ok-body-in-Infix-clause-found : goal.returns-in_ok-body-in-Infix-clause-found
returns-in_ok-body-in-Infix-clause-found c =
    let i : IsInfix c.args.tokens.now c.in-Infix.left c.in-Infix.operator c.in-Infix.right c.in-Infix.start.now = rw c.in-Infix.is at c.in_ok-front.ensures in infix_found _ _ _ _ _ _ i c.in_ok-body-in-Infix.ensures.found
