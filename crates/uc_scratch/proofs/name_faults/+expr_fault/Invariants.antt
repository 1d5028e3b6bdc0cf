use Rattle.std.proofs.Common.{◌≡◌, ◌+◌, ◌*◌, [], drop}
use Rattle.uc_scratch.specs.Exprs.{done, result, exprs_of, expr_size, atom_size, exprs_size, cases_size, block_size}
use Rattle.uc_scratch.specs.ExprViews.{atom_of, cases_of, steps_before, entries_before}
use Rattle.uc_scratch.specs.NameFaults as spec
use Rattle.uc_scratch.proofs.Sizes.{step_size, guard_size, case_size, entry_size}
use Rattle.uc_scratch.proofs.name_faults.+expr_fault.Given as goal

abbrev pub decreases-expr_fault : goal.decreases-expr_fault
decreases-expr_fault l = 3 * expr_size l.e.now

abbrev pub decreases-step_fault : goal.decreases-step_fault
decreases-step_fault l = 3 * step_size l.step.now + 1

abbrev pub decreases-atom_fault : goal.decreases-atom_fault
decreases-atom_fault l = 3 * atom_size (atom_of l.atom.now)

abbrev pub decreases-exprs_fault : goal.decreases-exprs_fault
decreases-exprs_fault l = 3 * exprs_size (exprs_of l.es.now)

abbrev pub decreases-cases_fault : goal.decreases-cases_fault
decreases-cases_fault l = 3 * cases_size (cases_of l.cases.now)

abbrev pub decreases-guard_fault : goal.decreases-guard_fault
decreases-guard_fault l = 3 * guard_size l.guard.now

abbrev pub decreases-case_fault : goal.decreases-case_fault
decreases-case_fault l = 3 * case_size l.case.now + 1

abbrev pub decreases-block_fault : goal.decreases-block_fault
decreases-block_fault l = 3 * block_size l.block.now

abbrev pub decreases-entry_fault : goal.decreases-entry_fault
decreases-entry_fault l = 3 * entry_size l.entry.now + 2

abbrev pub decreases-binding_fault : goal.decreases-binding_fault
decreases-binding_fault l = 3 * block_size l.binding.now.body + 1

abbrev pub invariant-expr_fault-loop-step : goal.invariant-expr_fault-loop-step
invariant-expr_fault-loop-step l = spec.expr_fault (steps_before (drop l.step-index l.step-items) done) ≡ spec.expr_fault l.e

abbrev pub invariant-exprs_fault-loop-e : goal.invariant-exprs_fault-loop-e
invariant-exprs_fault-loop-e l = spec.exprs_fault (exprs_of (drop l.e-index l.es)) ≡ spec.exprs_fault (exprs_of l.es)

abbrev pub invariant-cases_fault-loop-case : goal.invariant-cases_fault-loop-case
invariant-cases_fault-loop-case l = spec.cases_fault (cases_of (drop l.case-index l.cases)) ≡ spec.cases_fault (cases_of l.cases)

abbrev pub invariant-block_fault-loop-i : goal.invariant-block_fault-loop-i
invariant-block_fault-loop-i l =
    spec.block_fault l.before (entries_before (drop l.i l.block-inside.entries.items) (result l.block-inside.result)) ≡ spec.block_fault [] l.block
