use Rattle.std.proofs.Common.{◌+◌, ◌*◌}
use Rattle.uc_scratch.proofs.shown.+shown_pattern.Given as goal

abbrev pub decreases-write_pattern_form : goal.decreases-write_pattern_form
decreases-write_pattern_form l = 5 * l.depth

abbrev pub decreases-write_pattern_atom : goal.decreases-write_pattern_atom
decreases-write_pattern_atom l = 5 * l.depth + 1

abbrev pub decreases-write_pattern_operand : goal.decreases-write_pattern_operand
decreases-write_pattern_operand l = 5 * l.depth + 2

abbrev pub decreases-write_pattern : goal.decreases-write_pattern
decreases-write_pattern l = 5 * l.depth + 3

abbrev pub decreases-write_patterns : goal.decreases-write_patterns
decreases-write_patterns l = 5 * l.depth + 4
