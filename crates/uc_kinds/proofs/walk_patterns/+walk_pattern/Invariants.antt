use Rattle.std.proofs.Common.{◌≡◌, ◌+◌, ◌*◌, length, drop}
use Rattle.uc_tree.specs.Patterns.{pattern_size, patterns_size, patterns_of}
use Rattle.uc_tree.specs.Nodes.{patterns_nodes}
use Rattle.uc_kinds.proofs.walk_patterns.+walk_pattern.Given as goal

abbrev pub decreases-walk_pattern : goal.decreases-walk_pattern
decreases-walk_pattern l = pattern_size l.p.now

abbrev pub decreases-walk_patterns : goal.decreases-walk_patterns
decreases-walk_patterns l = patterns_size (patterns_of l.ps.now)

abbrev pub invariant-walk_patterns-loop-p : goal.invariant-walk_patterns-loop-p
invariant-walk_patterns-loop-p l = l.passed + length (patterns_nodes (patterns_of (drop l.p-index l.ps))) ≡ l.fn.before + length (patterns_nodes (patterns_of l.ps))
