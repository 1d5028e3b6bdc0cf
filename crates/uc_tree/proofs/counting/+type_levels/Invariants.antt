use Rattle.std.proofs.Common.{◌≡◌, ◌<◌, ◌-◌, ◌^◌, min, max, drop}
use Rattle.uc_tree.specs.Types.{ty_size, tys_size, tys_of}
use Rattle.uc_tree.specs.Counts.{tys_levels}
use Rattle.uc_tree.proofs.counting.+type_levels.Given as goal

abbrev pub decreases-type_levels : goal.decreases-type_levels
decreases-type_levels l = ty_size l.t.now

abbrev pub decreases-types_levels : goal.decreases-types_levels
decreases-types_levels l = tys_size (tys_of l.ts.now)

abbrev pub invariant-types_levels-loop-t : goal.invariant-types_levels-loop-t
invariant-types_levels-loop-t l = (l.levels < 2 ^ 32) × (min (max l.levels (tys_levels (tys_of (drop l.t-index l.ts)))) (2 ^ 32 - 1) ≡ min (tys_levels (tys_of l.ts)) (2 ^ 32 - 1))
