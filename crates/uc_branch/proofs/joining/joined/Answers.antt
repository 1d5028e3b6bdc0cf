use Rattle.std.proofs.Common.{◌++◌, subst, ap, ◌∙◌, append-nil}
use Rattle.std.specs.List.Sorted.{IsStrictlySortedBy}
use Rattle.uc_tree.specs.Lookups.{Pairs, pair_order}
use Rattle.uc_branch.proofs.PairEdits.{sorted_put_all}
use Rattle.uc_branch.proofs.joining.joined.Goals as goal

pub from_vec-requires : goal.from_vec-requires
from_vec-requires c =
    let whole = c.loop-pair.invariant.joins ∙ ap (λ (l : Pairs). c.loop-pair.pairs.items ++ l) (c.in_default.ensures.next ∙ c.in_default.ensures.none) in
    subst (IsStrictlySortedBy pair_order) (whole ∙ append-nil c.loop-pair.pairs.items) (sorted_put_all c.from-new.result.items c.from-old.result.items (rw c.from-old.ensures.0 c.into_vec.ensures.in_order))
