use Rattle.std.proofs.Common.{◌≡◌, take}
use Rattle.uc_branch.specs.Pairs.{without}
use Rattle.uc_branch.specs.Reaches.{reaches}
use Rattle.uc_branch.proofs.sorted_pairs.outside.Given as goal

abbrev pub invariant-loop-pair : goal.invariant-loop-pair
invariant-loop-pair l = l.left.items ≡ without (reaches l.reach) (take l.pair-index l.pairs)
