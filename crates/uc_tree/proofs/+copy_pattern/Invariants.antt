use Rattle.std.proofs.Common.{◌≡◌, take}
use Rattle.uc_tree.specs.Patterns.{pattern_size, patterns_size, patterns_of}
use Rattle.uc_tree.proofs.+copy_pattern.Given as goal

abbrev pub decreases-pattern::Pattern::copy : goal.decreases-pattern::Pattern::copy
decreases-pattern::Pattern::copy l = pattern_size l.self.now

abbrev pub decreases-copying::copy_patterns : goal.decreases-copying::copy_patterns
decreases-copying::copy_patterns l = patterns_size (patterns_of l.patterns.now)

abbrev pub invariant-copying::copy_patterns-loop-p : goal.invariant-copying::copy_patterns-loop-p
invariant-copying::copy_patterns-loop-p l = l.copied.items ≡ take l.p-index l.patterns
