use Rattle.std.proofs.Common.{◌≡◌, ◌+◌, ◌*◌, None, [], max, drop}
use Rattle.uc_scratch.specs.Exprs.{done, result, exprs_of, expr_size, atom_size, exprs_size, cases_size, block_size}
use Rattle.uc_scratch.specs.ExprViews.{atom_of, cases_of, steps_before, entries_before}
use Rattle.uc_scratch.specs.ExprLevels as spec
use Rattle.uc_scratch.specs.ExprLevels.{no_parts}
use Rattle.uc_scratch.proofs.Sizes.{step_size, guard_size}
use Rattle.uc_scratch.proofs.expr_levels.+expr_levels.Given as goal

abbrev pub decreases-expr_levels : goal.decreases-expr_levels
decreases-expr_levels l = 2 * expr_size l.e.now

abbrev pub decreases-pass_step : goal.decreases-pass_step
decreases-pass_step l = 2 * step_size l.step.now + 1

abbrev pub decreases-atom_levels : goal.decreases-atom_levels
decreases-atom_levels l = 2 * atom_size (atom_of l.atom.now)

abbrev pub decreases-exprs_levels : goal.decreases-exprs_levels
decreases-exprs_levels l = 2 * exprs_size (exprs_of l.es.now)

abbrev pub decreases-guard_levels : goal.decreases-guard_levels
decreases-guard_levels l = 2 * guard_size l.guard.now

abbrev pub decreases-cases_levels : goal.decreases-cases_levels
decreases-cases_levels l = 2 * cases_size (cases_of l.cases.now)

abbrev pub decreases-block_levels : goal.decreases-block_levels
decreases-block_levels l = 2 * block_size l.block.now

abbrev pub decreases-bound_levels : goal.decreases-bound_levels
decreases-bound_levels l = 2 * block_size l.binding.now.body + 1

abbrev pub invariant-expr_levels-loop-step : goal.invariant-expr_levels-loop-step
invariant-expr_levels-loop-step l =
    spec.expr_levels l.scope (steps_before (drop l.step-index l.step-items) done) l.parts l.outside ≡ spec.expr_levels l.scope l.e no_parts []

abbrev pub invariant-exprs_levels-loop-e : goal.invariant-exprs_levels-loop-e
invariant-exprs_levels-loop-e l = max l.levels (spec.exprs_levels l.scope (exprs_of (drop l.e-index l.es))) ≡ spec.exprs_levels l.scope (exprs_of l.es)

abbrev pub invariant-cases_levels-loop-case : goal.invariant-cases_levels-loop-case
invariant-cases_levels-loop-case l = max l.levels (spec.cases_levels l.scope (cases_of (drop l.case-index l.cases))) ≡ spec.cases_levels l.scope (cases_of l.cases)

abbrev pub invariant-block_levels-loop-entry : goal.invariant-block_levels-loop-entry
invariant-block_levels-loop-entry l =
    max l.deepest (l.above + spec.block_levels l.scope l.signed (entries_before (drop l.entry-index l.block-inside.entries.items) (result l.block-inside.result)))
    ≡ spec.block_levels l.scope None l.block
