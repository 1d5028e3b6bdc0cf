use Rattle.std.proofs.Common.{◌≡◌, drop}
use Rattle.std.specs.Option.{option_copied}
use Rattle.uc_tree.specs.Lookups.{next_pair}
use Rattle.uc_resolve.proofs.tests.heads.SortNames.after.Given as goal

abbrev pub invariant-loop-other : goal.invariant-loop-other
invariant-loop-other l = next_pair (option_copied l.name) (drop l.other-index l.self.pairs.items) ≡ next_pair (option_copied l.name) l.self.pairs.items
