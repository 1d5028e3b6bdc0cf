use Rattle.std.proofs.Common.{◌≡◌, drop}
use Rattle.std.specs.List.{find}
use Rattle.uc_branch.specs.Pairs.{has_pair}
use Rattle.uc_branch.proofs.moving.first_taken.Given as goal

abbrev pub invariant-loop-pair : goal.invariant-loop-pair
invariant-loop-pair l = find (λ p. has_pair p.0 l.staying) l.new ≡ find (λ p. has_pair p.0 l.staying) (drop l.pair-index l.new)
