use Rattle.std.proofs.Common.{◌≡◌, ◌++◌, ◌+◌, ◌*◌, drop}
use Rattle.uc_scratch.specs.Exprs.{done, result, exprs_of, expr_size, atom_size, exprs_size, cases_size, block_size}
use Rattle.uc_scratch.specs.ExprViews.{atom_of, cases_of, steps_before, entries_before}
use Rattle.uc_scratch.proofs.Sizes.{step_size, case_size, entry_size}
use Rattle.uc_meaning.specs.Words as spec
use Rattle.uc_meaning.proofs.expr_words.+add_expr.Given as goal

abbrev pub decreases-add_expr : goal.decreases-add_expr
decreases-add_expr l = 2 * expr_size l.e.now

abbrev pub decreases-add_step : goal.decreases-add_step
decreases-add_step l = 2 * step_size l.step.now + 1

abbrev pub decreases-add_atom : goal.decreases-add_atom
decreases-add_atom l = 2 * atom_size (atom_of l.atom.now)

abbrev pub decreases-add_exprs : goal.decreases-add_exprs
decreases-add_exprs l = 2 * exprs_size (exprs_of l.es.now)

abbrev pub decreases-add_case : goal.decreases-add_case
decreases-add_case l = 2 * case_size l.case.now + 1

abbrev pub decreases-add_cases : goal.decreases-add_cases
decreases-add_cases l = 2 * cases_size (cases_of l.cases.now)

abbrev pub decreases-add_entry : goal.decreases-add_entry
decreases-add_entry l = 2 * entry_size l.entry.now + 1

abbrev pub decreases-add_block : goal.decreases-add_block
decreases-add_block l = 2 * block_size l.block.now

abbrev pub invariant-add_expr-loop-step : goal.invariant-add_expr-loop-step
invariant-add_expr-loop-step l = l.out ++ spec.expr_words (steps_before (drop l.step-index l.step-items) done) ≡ l.initial.out ++ spec.expr_words l.e

abbrev pub invariant-add_exprs-loop-e : goal.invariant-add_exprs-loop-e
invariant-add_exprs-loop-e l = l.out ++ spec.exprs_words (exprs_of (drop l.e-index l.es)) ≡ l.initial.out ++ spec.exprs_words (exprs_of l.es)

abbrev pub invariant-add_cases-loop-case : goal.invariant-add_cases-loop-case
invariant-add_cases-loop-case l = l.out ++ spec.cases_words (cases_of (drop l.case-index l.cases)) ≡ l.initial.out ++ spec.cases_words (cases_of l.cases)

abbrev pub invariant-add_block-loop-entry : goal.invariant-add_block-loop-entry
invariant-add_block-loop-entry l =
    l.out ++ spec.block_words (entries_before (drop l.entry-index l.block-inside.entries.items) (result l.block-inside.result)) ≡ l.initial.out ++ spec.block_words l.block
