use Rattle.std.proofs.Common.{◌≡◌, ◌<◌, ◌-◌, ◌^◌, min, max, drop}
use Rattle.uc_tree.specs.Patterns.{pattern_size, patterns_size, patterns_of}
use Rattle.uc_tree.specs.Counts.{patterns_levels}
use Rattle.uc_tree.proofs.counting.+pattern_levels.Given as goal

abbrev pub decreases-pattern_levels : goal.decreases-pattern_levels
decreases-pattern_levels l = pattern_size l.p.now

abbrev pub decreases-patterns_levels : goal.decreases-patterns_levels
decreases-patterns_levels l = patterns_size (patterns_of l.ps.now)

abbrev pub invariant-patterns_levels-loop-p : goal.invariant-patterns_levels-loop-p
invariant-patterns_levels-loop-p l = (l.levels < 2 ^ 32) × (min (max l.levels (patterns_levels (patterns_of (drop l.p-index l.ps)))) (2 ^ 32 - 1) ≡ min (patterns_levels (patterns_of l.ps)) (2 ^ 32 - 1))
