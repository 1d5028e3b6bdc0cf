use Rattle.uc_tree.specs.Patterns.{pattern_size, patterns_size, patterns_of}
use Rattle.uc_check.proofs.tests.formed.+asked_patterns.Given as goal

abbrev pub decreases-is_formed_pattern : goal.decreases-is_formed_pattern
decreases-is_formed_pattern g l = pattern_size l.pattern.now

abbrev pub decreases-are_formed_patterns : goal.decreases-are_formed_patterns
decreases-are_formed_patterns g l = patterns_size (patterns_of l.patterns.now)
