use Rattle.std.proofs.Common.{◌≡◌, ◌+◌, ◌*◌, [], drop, Ok}
use Rattle.uc_scratch.specs.Exprs.{done, exprs_of, expr_size, atom_size, exprs_size, cases_size, block_size}
use Rattle.uc_scratch.specs.ExprViews.{atom_of, cases_of, steps_before, block_of}
use Rattle.uc_scratch.proofs.Sizes.{step_size, guard_size, case_size}
use Rattle.uc_tree.specs.Terms.{more}
use Rattle.uc_meaning.specs.ExprMeanings as spec
use Rattle.uc_meaning.specs.Results.{◌>>=◌}
use Rattle.uc_bodies.specs.BodyViews.{parts_of, outer_of}
use Rattle.uc_bodies.proofs.Gathered.{ahead, put_case}
use Rattle.uc_bodies.proofs.+resolve_expr.Given as goal

abbrev pub decreases-exprs::resolve_expr : goal.decreases-exprs::resolve_expr
decreases-exprs::resolve_expr g l = 4 * expr_size l.e.now

abbrev pub decreases-exprs::pass_step : goal.decreases-exprs::pass_step
decreases-exprs::pass_step g l = 4 * step_size l.step.now + 3

abbrev pub decreases-exprs::resolve_atom : goal.decreases-exprs::resolve_atom
decreases-exprs::resolve_atom g l = 4 * atom_size (atom_of l.atom.now)

abbrev pub decreases-exprs::resolve_exprs : goal.decreases-exprs::resolve_exprs
decreases-exprs::resolve_exprs g l = 4 * exprs_size (exprs_of l.es.now)

abbrev pub decreases-exprs::resolve_guard : goal.decreases-exprs::resolve_guard
decreases-exprs::resolve_guard g l = 4 * guard_size l.guard.now

abbrev pub decreases-exprs::resolve_case : goal.decreases-exprs::resolve_case
decreases-exprs::resolve_case g l = 4 * case_size l.case.now + 2

abbrev pub decreases-exprs::resolve_cases : goal.decreases-exprs::resolve_cases
decreases-exprs::resolve_cases g l = 4 * cases_size (cases_of l.cases.now)

abbrev pub decreases-blocks::resolve_block : goal.decreases-blocks::resolve_block
decreases-blocks::resolve_block g l = 4 * block_size l.block.now + 1

abbrev pub decreases-blocks::resolve_entries : goal.decreases-blocks::resolve_entries
decreases-blocks::resolve_entries g l = 4 * block_size (block_of l.entries.now l.last.now)

abbrev pub decreases-blocks::resolve_binding : goal.decreases-blocks::resolve_binding
decreases-blocks::resolve_binding g l = 4 * (block_size l.binding.now.body + block_size (block_of l.behind.now l.last.now)) + 3

abbrev pub decreases-blocks::resolve_under : goal.decreases-blocks::resolve_under
decreases-blocks::resolve_under g l = 4 * block_size l.body.now + 2

abbrev pub invariant-exprs::resolve_expr-loop-step : goal.invariant-exprs::resolve_expr-loop-step
invariant-exprs::resolve_expr-loop-step g l =
    (spec.expr_meaning (g.M.Meanings.known l.meanings) l.initial.locals (steps_before (drop l.step-index l.step-items) done) (parts_of l.parts) (outer_of l.outside)
    ≡ spec.expr_meaning (g.M.Meanings.known l.meanings) l.initial.locals l.e spec.no_parts [])
    × (l.locals ≡ l.initial.locals)

abbrev pub invariant-exprs::resolve_exprs-loop-e : goal.invariant-exprs::resolve_exprs-loop-e
invariant-exprs::resolve_exprs-loop-e g l =
    ((spec.exprs_meaning (g.M.Meanings.known l.meanings) l.initial.locals (exprs_of (drop l.e-index l.es)) >>= λ r. Ok (ahead more l.terms.tree.items l.terms.places r))
    ≡ spec.exprs_meaning (g.M.Meanings.known l.meanings) l.initial.locals (exprs_of l.es))
    × (l.locals ≡ l.initial.locals)

abbrev pub invariant-exprs::resolve_cases-loop-case : goal.invariant-exprs::resolve_cases-loop-case
invariant-exprs::resolve_cases-loop-case g l =
    ((spec.cases_meaning (g.M.Meanings.known l.meanings) l.initial.locals (cases_of (drop l.case-index l.cases)) >>= λ r. Ok (ahead put_case l.found.tree.items l.found.places r))
    ≡ spec.cases_meaning (g.M.Meanings.known l.meanings) l.initial.locals (cases_of l.cases))
    × (l.locals ≡ l.initial.locals)
