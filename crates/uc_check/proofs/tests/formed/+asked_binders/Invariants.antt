use Rattle.uc_tree.specs.Patterns.{pattern_size, patterns_size, patterns_of}
use Rattle.uc_check.proofs.tests.formed.+asked_binders.Given as goal

abbrev pub decreases-with_binders : goal.decreases-with_binders
decreases-with_binders l = pattern_size l.pattern.now

abbrev pub decreases-with_all_binders : goal.decreases-with_all_binders
decreases-with_all_binders l = patterns_size (patterns_of l.patterns.now)
