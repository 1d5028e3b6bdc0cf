use Rattle.uc_branch.proofs.PairEdits.{sorted_none}
use Rattle.uc_branch.proofs.sorted_pairs.SortedPairs.new.Goals as goal

pub invariant_of-result : goal.invariant_of-result
invariant_of-result c = rw c.new.ensures.items sorted_none
