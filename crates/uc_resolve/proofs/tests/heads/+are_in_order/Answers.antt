use Rattle.std.proofs.Common.{◌≡◌, subst, arith}
use Rattle.std.specs.List.{AllByRecursion}
use Rattle.std.specs.List.Sorted.{IsStrictlySortedBy}
use Rattle.std.specs.declared.cmp.Ordering.TheVariants.{Less}
use Rattle.std.proofs.lemmas.List.{take_rest}
use Rattle.uc_tree.specs.Lookups.{Pairs, pair_order}
use Rattle.uc_resolve.proofs.Heads.{none_in_order, more_in_order}
use Rattle.uc_resolve.proofs.tests.heads.+are_in_order.Goals as goal

pub returns-in-empty : goal.returns-in-empty
returns-in-empty t c = λ h. none_in_order c.args.pairs.now c.in-empty.len_below

pub returns-then-is_below : goal.returns-then-is_below
returns-then-is_below t c = λ h.
    let pairs = c.args.pairs.now in
    let first = c.first-item.result in
    more_in_order pairs first (omega arith) c.first-item.is
    (subst (λ (rest : Pairs). AllByRecursion (λ q. pair_order first q ≡ Less) rest) (take_rest pairs 1) (c.is_below.ensures c.if-is_below.true))
    (subst (λ (rest : Pairs). IsStrictlySortedBy pair_order rest) (take_rest pairs 1) (c.are_in_order.ensures h))
