use Rattle.std.proofs.Common.{◌≡◌, ◌++◌, map, take}
use Rattle.uc_branch.specs.Pairs.{within}
use Rattle.uc_branch.specs.Reaches.{reaches}
use Rattle.uc_branch.proofs.ref_set.add_taken.Given as goal

abbrev pub invariant-loop-pair : goal.invariant-loop-pair
invariant-loop-pair l = l.refs.items ≡ l.initial.refs.items ++ map (λ p. p.1) (within (reaches l.reach) (take l.pair-index l.pairs))
