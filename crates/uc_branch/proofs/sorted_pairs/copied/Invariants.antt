use Rattle.std.proofs.Common.{◌≡◌, take}
use Rattle.uc_branch.proofs.sorted_pairs.copied.Given as goal

abbrev pub invariant-loop-pair : goal.invariant-loop-pair
invariant-loop-pair l = l.copies.items ≡ take l.pair-index l.pairs
