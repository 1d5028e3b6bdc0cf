use Rattle.std.proofs.Common.{◌≡◌, ◌++◌, drop}
use Rattle.uc_tree.specs.Patterns.{pattern_size, patterns_size, patterns_of}
use Rattle.uc_tree.specs.Targets.{patterns_targets}
use Rattle.uc_tree.proofs.targets.+add_pattern.Given as goal

abbrev pub decreases-add_pattern : goal.decreases-add_pattern
decreases-add_pattern l = pattern_size l.p.now

abbrev pub decreases-add_patterns : goal.decreases-add_patterns
decreases-add_patterns l = patterns_size (patterns_of l.ps.now)

abbrev pub invariant-add_patterns-loop-p : goal.invariant-add_patterns-loop-p
invariant-add_patterns-loop-p l = l.out.items ++ patterns_targets (patterns_of (drop l.p-index l.ps)) ≡ l.initial.out.items ++ patterns_targets (patterns_of l.ps)
