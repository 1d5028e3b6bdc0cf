use Rattle.std.proofs.Common.{not}
use Rattle.std.proofs.lemmas.List.Kept.{IsStrictlySortedBy-filter}
use Rattle.uc_tree.specs.Lookups.{pair_order}
use Rattle.uc_branch.specs.Reaches.{reaches}
use Rattle.uc_branch.proofs.sorted_pairs.SortedPairs.outside.Goals as goal

pub invariant_of-result : goal.invariant_of-result
invariant_of-result c = rw (c.in_ok-outside.ensures, c.deref.ensures.value) (IsStrictlySortedBy-filter pair_order (λ p. not (reaches c.args.reach.now p.0)) c.self.inside.pairs.items c.self.invariant)
