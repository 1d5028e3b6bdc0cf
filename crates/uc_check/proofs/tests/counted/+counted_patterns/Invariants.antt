use Rattle.uc_tree.specs.Patterns.{pattern_size, patterns_size, patterns_of}
use Rattle.uc_check.proofs.tests.counted.+counted_patterns.Given as goal

abbrev pub decreases-pattern_nodes : goal.decreases-pattern_nodes
decreases-pattern_nodes l = pattern_size l.pattern.now

abbrev pub decreases-patterns_nodes : goal.decreases-patterns_nodes
decreases-patterns_nodes l = patterns_size (patterns_of l.patterns.now)
