use Rattle.std.proofs.Common.{◌≡◌, drop, nat_eq}
use Rattle.std.specs.Cmp.Lexicographic.{pointwise}
use Rattle.std.specs.Map.{lookup}
use Rattle.uc_resolve.proofs.tests.heads.SortNames.find.Given as goal

abbrev pub invariant-loop-other : goal.invariant-loop-other
invariant-loop-other l = lookup (pointwise nat_eq l.name) (drop l.other-index l.self.pairs.items) ≡ lookup (pointwise nat_eq l.name) l.self.pairs.items
