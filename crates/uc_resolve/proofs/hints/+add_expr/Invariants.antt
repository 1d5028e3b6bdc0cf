use Rattle.std.proofs.Common.{◌≡◌, ◌+◌, ◌*◌, ◌++◌, drop}
use Rattle.uc_scratch.specs.Exprs.{done, result, exprs_of, expr_size, atom_size, exprs_size, cases_size, block_size}
use Rattle.uc_scratch.specs.ExprViews.{atom_of, cases_of, steps_before, entries_before}
use Rattle.uc_scratch.proofs.Sizes.{step_size, guard_size, case_size, entry_size}
use Rattle.uc_meaning.specs.Hints as spec
use Rattle.uc_resolve.proofs.hints.+add_expr.Given as goal

abbrev pub decreases-add_expr : goal.decreases-add_expr
decreases-add_expr l = 3 * expr_size l.e.now

abbrev pub decreases-add_step : goal.decreases-add_step
decreases-add_step l = 3 * step_size l.step.now + 1

abbrev pub decreases-add_atom : goal.decreases-add_atom
decreases-add_atom l = 3 * atom_size (atom_of l.atom.now)

abbrev pub decreases-add_exprs : goal.decreases-add_exprs
decreases-add_exprs l = 3 * exprs_size (exprs_of l.es.now)

abbrev pub decreases-add_guard : goal.decreases-add_guard
decreases-add_guard l = 3 * guard_size l.guard.now

abbrev pub decreases-add_cases : goal.decreases-add_cases
decreases-add_cases l = 3 * cases_size (cases_of l.cases.now)

abbrev pub decreases-add_case : goal.decreases-add_case
decreases-add_case l = 3 * case_size l.case.now + 1

abbrev pub decreases-add_block : goal.decreases-add_block
decreases-add_block l = 3 * block_size l.block.now

abbrev pub decreases-add_entry : goal.decreases-add_entry
decreases-add_entry l = 3 * entry_size l.entry.now + 2

abbrev pub decreases-add_bound : goal.decreases-add_bound
decreases-add_bound l = 3 * block_size l.binding.now.body + 1

abbrev pub invariant-add_expr-loop-step : goal.invariant-add_expr-loop-step
invariant-add_expr-loop-step l = l.out.items ++ spec.expr_hints (steps_before (drop l.step-index l.step-items) done) ≡ l.initial.out.items ++ spec.expr_hints l.e

abbrev pub invariant-add_exprs-loop-e : goal.invariant-add_exprs-loop-e
invariant-add_exprs-loop-e l = l.out.items ++ spec.exprs_hints (exprs_of (drop l.e-index l.es)) ≡ l.initial.out.items ++ spec.exprs_hints (exprs_of l.es)

abbrev pub invariant-add_cases-loop-case : goal.invariant-add_cases-loop-case
invariant-add_cases-loop-case l = l.out.items ++ spec.cases_hints (cases_of (drop l.case-index l.cases)) ≡ l.initial.out.items ++ spec.cases_hints (cases_of l.cases)

abbrev pub invariant-add_block-loop-entry : goal.invariant-add_block-loop-entry
invariant-add_block-loop-entry l =
    l.out.items ++ spec.block_hints (entries_before (drop l.entry-index l.block-inside.entries.items) (result l.block-inside.result)) ≡ l.initial.out.items ++ spec.block_hints l.block
