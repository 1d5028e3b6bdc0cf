use Rattle.std.proofs.Common.{◌≡◌, ◌<◌, ◌-◌, ◌^◌, min, max, drop}
use Rattle.uc_context.specs.Opens.{open_size, opens_size, opens_of}
use Rattle.uc_context.specs.Counts.{levels_of_opens}
use Rattle.uc_context.proofs.counting.+open_levels.Given as goal

abbrev pub decreases-open_levels : goal.decreases-open_levels
decreases-open_levels l = open_size l.of.now

abbrev pub decreases-opens_levels : goal.decreases-opens_levels
decreases-opens_levels l = opens_size (opens_of l.ts.now)

abbrev pub invariant-opens_levels-loop-t : goal.invariant-opens_levels-loop-t
invariant-opens_levels-loop-t l = (l.levels < 2 ^ 32) × (min (max l.levels (levels_of_opens (opens_of (drop l.t-index l.ts)))) (2 ^ 32 - 1) ≡ min (levels_of_opens (opens_of l.ts)) (2 ^ 32 - 1))
