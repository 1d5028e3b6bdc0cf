use Rattle.std.proofs.Common.{◌+◌, ◌*◌}
use Rattle.uc_scratch.proofs.shown_items.+shown_expr.Given as goal

abbrev pub decreases-write_atom : goal.decreases-write_atom
decreases-write_atom l = 6 * l.depth

abbrev pub decreases-write_cases : goal.decreases-write_cases
decreases-write_cases l = 6 * l.depth

abbrev pub decreases-write_block : goal.decreases-write_block
decreases-write_block l = 6 * l.depth

abbrev pub decreases-write_binding : goal.decreases-write_binding
decreases-write_binding l = 6 * l.depth + 1

abbrev pub decreases-write_entry : goal.decreases-write_entry
decreases-write_entry l = 6 * l.depth + 2

abbrev pub decreases-write_step : goal.decreases-write_step
decreases-write_step l = 6 * l.depth + 1

abbrev pub decreases-write_expr : goal.decreases-write_expr
decreases-write_expr l = 6 * l.depth + 2

abbrev pub decreases-write_exprs : goal.decreases-write_exprs
decreases-write_exprs l = 6 * l.depth + 3
