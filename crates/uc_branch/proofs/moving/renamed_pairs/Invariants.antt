use Rattle.std.proofs.Common.{◌≡◌, take, false}
use Rattle.uc_branch.specs.Moving.{renamed_pairs, makes_no_name}
use Rattle.uc_branch.proofs.moving.renamed_pairs.Given as goal

abbrev pub invariant-loop-pair : goal.invariant-loop-pair
invariant-loop-pair l = (l.new.items ≡ renamed_pairs l.from l.to (take l.pair-index l.pairs)) × (makes_no_name l.from l.to (take l.pair-index l.pairs) ≡ false)
