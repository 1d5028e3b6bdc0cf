use Rattle.std.proofs.Common.{◌≡◌, ◌+◌, ◌*◌, ◌++◌, drop}
use Rattle.uc_tree.specs.Patterns.{pattern_size, patterns_size, patterns_of}
use Rattle.uc_canon.specs.Spelling.{patterns_text, counted_patterns}
use Rattle.uc_canon.proofs.write_patterns.+write_pattern.Given as goal

abbrev pub decreases-write_pattern : goal.decreases-write_pattern
decreases-write_pattern l = 2 * pattern_size l.pattern.now

abbrev pub decreases-write_pair : goal.decreases-write_pair
decreases-write_pair l = 2 * (pattern_size l.first.now + pattern_size l.second.now) + 1

abbrev pub decreases-write_patterns : goal.decreases-write_patterns
decreases-write_patterns l = 2 * patterns_size (patterns_of l.patterns.now)

abbrev pub invariant-write_patterns-loop-pattern : goal.invariant-write_patterns-loop-pattern
invariant-write_patterns-loop-pattern l = l.out.items ++ patterns_text (patterns_of (drop l.pattern-index l.patterns)) ≡ l.fn.out.items ++ counted_patterns (patterns_of l.patterns)
