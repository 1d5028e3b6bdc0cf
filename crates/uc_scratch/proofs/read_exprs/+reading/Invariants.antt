use Rattle.std.proofs.Common.{◌≡◌, ◌+◌, ◌*◌, true, length}
use Rattle.uc_scratch.specs.Marks.{mark_terminal}
use Rattle.uc_scratch.specs.Nesting.{fits}
use Rattle.uc_scratch.proofs.ExprLoops.{StepsSoFar, ExprsSoFar, CasesSoFar, BlockSoFar}
use Rattle.uc_scratch.proofs.read_exprs.+reading.Given as goal

abbrev pub decreases-read_expr : goal.decreases-read_expr
decreases-read_expr l = 32 * l.depth + 12

abbrev pub decreases-read_or : goal.decreases-read_or
decreases-read_or l = 32 * l.depth + 12

abbrev pub decreases-read_steps : goal.decreases-read_steps
decreases-read_steps l = 32 * l.depth + 11

abbrev pub decreases-read_move : goal.decreases-read_move
decreases-read_move l = 32 * l.depth + 10

abbrev pub decreases-read_start : goal.decreases-read_start
decreases-read_start l = 32 * l.depth + 9

abbrev pub decreases-read_next : goal.decreases-read_next
decreases-read_next l = 32 * l.depth + 9

abbrev pub decreases-read_first : goal.decreases-read_first
decreases-read_first l = 32 * l.depth + 8

abbrev pub decreases-read_part : goal.decreases-read_part
decreases-read_part l = 32 * l.depth + 7

abbrev pub decreases-read_form : goal.decreases-read_form
decreases-read_form l = 32 * l.depth + 6

abbrev pub decreases-read_end : goal.decreases-read_end
decreases-read_end l = 32 * l.depth + 10

abbrev pub decreases-read_atom : goal.decreases-read_atom
decreases-read_atom l = 32 * l.depth + 5

abbrev pub decreases-read_cases : goal.decreases-read_cases
decreases-read_cases l = 32 * l.depth + 4

abbrev pub decreases-read_block : goal.decreases-read_block
decreases-read_block l = 32 * l.depth + 4

abbrev pub decreases-read_round : goal.decreases-read_round
decreases-read_round l = 32 * l.depth + 15

abbrev pub decreases-read_inside : goal.decreases-read_inside
decreases-read_inside l = 32 * l.depth + 14

abbrev pub decreases-read_square : goal.decreases-read_square
decreases-read_square l = 32 * l.depth + 14

abbrev pub decreases-read_exprs : goal.decreases-read_exprs
decreases-read_exprs l = 32 * l.depth + 13

abbrev pub decreases-read_case_items : goal.decreases-read_case_items
decreases-read_case_items l = 32 * l.depth + 17

abbrev pub decreases-read_case : goal.decreases-read_case
decreases-read_case l = 32 * l.depth + 16

abbrev pub decreases-read_guarded : goal.decreases-read_guarded
decreases-read_guarded l = 32 * l.depth + 15

abbrev pub decreases-read_tested : goal.decreases-read_tested
decreases-read_tested l = 32 * l.depth + 14

abbrev pub decreases-read_block_items : goal.decreases-read_block_items
decreases-read_block_items l = 32 * l.depth + 17

abbrev pub decreases-read_line : goal.decreases-read_line
decreases-read_line l = 32 * l.depth + 16

abbrev pub invariant-read_steps-steps : goal.invariant-read_steps-steps
invariant-read_steps-steps l = record { so_far : StepsSoFar l.fn.end l.fn.start l.fn.tokens l.stage l.forms l.rest l.steps.items; fitting : fits l.depth l.rest ≡ true }

abbrev pub decreases-read_steps-steps : goal.decreases-read_steps-steps
decreases-read_steps-steps l = length l.rest

abbrev pub invariant-read_exprs-exprs : goal.invariant-read_exprs-exprs
invariant-read_exprs-exprs l = record { so_far : ExprsSoFar (mark_terminal l.close) l.tokens l.rest l.exprs.items; fitting : fits l.depth l.rest ≡ true }

abbrev pub decreases-read_exprs-exprs : goal.decreases-read_exprs-exprs
decreases-read_exprs-exprs l = length l.rest

abbrev pub invariant-read_case_items-cases : goal.invariant-read_case_items-cases
invariant-read_case_items-cases l = record { so_far : CasesSoFar l.tokens l.rest l.cases.items; fitting : fits l.depth l.rest ≡ true }

abbrev pub decreases-read_case_items-cases : goal.decreases-read_case_items-cases
decreases-read_case_items-cases l = length l.rest

abbrev pub invariant-read_block_items-entries : goal.invariant-read_block_items-entries
invariant-read_block_items-entries l = record { so_far : BlockSoFar l.tokens l.rest l.entries.items; fitting : fits l.depth l.rest ≡ true }

abbrev pub decreases-read_block_items-entries : goal.decreases-read_block_items-entries
decreases-read_block_items-entries l = length l.rest
