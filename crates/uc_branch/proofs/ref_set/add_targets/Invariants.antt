use Rattle.std.proofs.Common.{◌≡◌, ◌++◌, map, take}
use Rattle.uc_branch.proofs.ref_set.add_targets.Given as goal

abbrev pub invariant-loop-pair : goal.invariant-loop-pair
invariant-loop-pair l = l.refs.items ≡ l.initial.refs.items ++ map (λ p. p.1) (take l.pair-index l.pairs)
