use Rattle.std.proofs.Common.{◌≡◌, ◌++◌, map, take}
use Rattle.std.specs.List.{filter}
use Rattle.uc_branch.specs.Reaches.{is_among}
use Rattle.uc_branch.proofs.ref_set.add_known.Given as goal

abbrev pub invariant-loop-pair : goal.invariant-loop-pair
invariant-loop-pair l = l.refs.items ≡ l.initial.refs.items ++ filter (λ r. is_among r l.known) (map (λ p. p.1) (take l.pair-index l.pairs))
