use Rattle.std.proofs.Common.{◌≡◌, take}
use Rattle.uc_tree.specs.Patterns.{pattern_size, patterns_size, patterns_of}
use Rattle.uc_tree.proofs.equality.+same_pattern.Given as goal

abbrev pub decreases-same_pattern : goal.decreases-same_pattern
decreases-same_pattern l = pattern_size l.p.now

abbrev pub decreases-same_patterns : goal.decreases-same_patterns
decreases-same_patterns l = patterns_size (patterns_of l.ps.now)

abbrev pub invariant-same_patterns-loop-i : goal.invariant-same_patterns-loop-i
invariant-same_patterns-loop-i l = take l.i l.ps ≡ take l.i l.qs
