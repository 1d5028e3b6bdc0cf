use Rattle.std.proofs.Common.{◌≡◌, drop}
use Rattle.std.specs.Prelude.{option_map}
use Rattle.uc_tree.specs.Patterns.{pattern_size, patterns_size, patterns_of}
use Rattle.uc_tree.specs.Stops.{replacement_of}
use Rattle.uc_tree.specs.Replacing.{replaced_patterns}
use Rattle.uc_tree.proofs.Joins.{patterns_before}
use Rattle.uc_tree.proofs.replacing.+replace_pattern.Given as goal

abbrev pub decreases-replace_pattern : goal.decreases-replace_pattern
decreases-replace_pattern l = pattern_size l.p.now

abbrev pub decreases-replace_patterns : goal.decreases-replace_patterns
decreases-replace_patterns l = patterns_size (patterns_of l.ps.now)

abbrev pub invariant-replace_patterns-loop-p : goal.invariant-replace_patterns-loop-p
invariant-replace_patterns-loop-p l =
    option_map (patterns_before l.replaced.items) (replaced_patterns (replacement_of l.standing) (patterns_of (drop l.p-index l.ps))) ≡ replaced_patterns (replacement_of l.standing) (patterns_of l.ps)
