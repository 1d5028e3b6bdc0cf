use Rattle.std.proofs.Common.{◌+◌, ◌*◌}
use Rattle.uc_scratch.proofs.shown.+shown_type.Given as goal

abbrev pub decreases-write_type_atom : goal.decreases-write_type_atom
decreases-write_type_atom l = 4 * l.depth

abbrev pub decreases-write_type_operand : goal.decreases-write_type_operand
decreases-write_type_operand l = 4 * l.depth + 1

abbrev pub decreases-write_type : goal.decreases-write_type
decreases-write_type l = 4 * l.depth + 2

abbrev pub decreases-write_types : goal.decreases-write_types
decreases-write_types l = 4 * l.depth + 3
