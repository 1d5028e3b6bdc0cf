use Rattle.std.proofs.Common.{◌≡◌, drop}
use Rattle.std.specs.List.{find}
use Rattle.uc_tree.specs.References.{is_same_ref}
use Rattle.uc_branch.proofs.sorted_pairs.first_for.Given as goal

abbrev pub invariant-loop-pair : goal.invariant-loop-pair
invariant-loop-pair l = find (λ p. is_same_ref l.of p.1) l.pairs ≡ find (λ p. is_same_ref l.of p.1) (drop l.pair-index l.pairs)
