use Rattle.std.proofs.Common.{arith, rules, refl, sym, List}
use Rattle.std.proofs.lemmas.Result.{err_from_is_err_and}
use Rattle.uc_tree.specs.Terms.{Term, terms_of}
use Rattle.uc_tree.specs.TermViews.{cases_of}
use Rattle.uc_tree.specs.declared.term.Case.{Case}
use Rattle.uc_tree.proofs.Sizes.{term_at, case_at}
use Rattle.uc_kinds.specs.Flaws.{term_flaws, terms_flaws, case_flaws, cases_flaws, guard_flaws, pattern_flaws}
use Rattle.uc_kinds.proofs.Walking.{cases_split, stops_second, behind_pattern}
use Rattle.uc_kinds.proofs.Loops.{room, passes, fails}
use Rattle.uc_kinds.proofs.walk_terms.+walk_term.Goals as goal

pub walk_terms-walk_term-requires : goal.walk_terms-walk_term-requires
walk_terms-walk_term-requires g t c κs within = (
  grind (arith, term_at),
  (
    search rules,
    room (term_flaws (g.A.Arities.arity_of c.args.arities.now)) (λ (ts : List Term). terms_flaws (g.A.Arities.arity_of c.args.arities.now) (terms_of ts)) (λ x xs. refl)
        c.args.ts.now c.loop-t.t-index c.t-item.result c.loop-t-test.true c.t-item.is c.loop-t.passed _ _ c.loop-t.invariant.1 c.requires,
  ),
)

pub walk_terms-returns-in_err-passed : goal.walk_terms-returns-in_err-passed
walk_terms-returns-in_err-passed g t c =
    let p = err_from_is_err_and c.from_residual.result c.from_residual.ensures.1 in
    rw (p.1, p.2) (fails (term_flaws (g.A.Arities.arity_of c.args.arities.now)) (λ (ts : List Term). terms_flaws (g.A.Arities.arity_of c.args.arities.now) (terms_of ts)) (λ x xs. refl)
    c.args.ts.now c.loop-t.t-index c.t-item.result c.loop-t-test.true c.t-item.is c.loop-t.passed c.in_err-passed.field-0.0 _ c.in_err-passed.ensures c.loop-t.invariant.0)

pub walk_terms-loop-t-preserved : goal.walk_terms-loop-t-preserved
walk_terms-loop-t-preserved g t c =
    passes (term_flaws (g.A.Arities.arity_of c.args.arities.now)) (λ (ts : List Term). terms_flaws (g.A.Arities.arity_of c.args.arities.now) (terms_of ts)) (λ x xs. refl)
    c.args.ts.now c.loop-t.t-index c.t-item.result c.loop-t-test.true c.t-item.is c.loop-t.passed c.in_ok-passed.passed _ _ c.in_ok-passed.ensures c.loop-t.invariant.0 c.loop-t.invariant.1

pub walk_cases-walk_case-requires : goal.walk_cases-walk_case-requires
walk_cases-walk_case-requires g t c κs within = (
  grind (arith, case_at),
  (
    search rules,
    room (case_flaws (g.A.Arities.arity_of c.args.arities.now)) (λ (cs : List Case). cases_flaws (g.A.Arities.arity_of c.args.arities.now) (cases_of cs)) (cases_split (g.A.Arities.arity_of c.args.arities.now))
        c.args.cs.now c.loop-c.c-index c.c-item.result c.loop-c-test.true c.c-item.is c.loop-c.passed _ _ c.loop-c.invariant.1 c.requires,
  ),
)

pub walk_cases-returns-in_err-passed : goal.walk_cases-returns-in_err-passed
walk_cases-returns-in_err-passed g t c =
    let p = err_from_is_err_and c.from_residual.result c.from_residual.ensures.1 in
    rw (p.1, p.2) (fails (case_flaws (g.A.Arities.arity_of c.args.arities.now)) (λ (cs : List Case). cases_flaws (g.A.Arities.arity_of c.args.arities.now) (cases_of cs)) (cases_split (g.A.Arities.arity_of c.args.arities.now))
    c.args.cs.now c.loop-c.c-index c.c-item.result c.loop-c-test.true c.c-item.is c.loop-c.passed c.in_err-passed.field-0.0 _ c.in_err-passed.ensures c.loop-c.invariant.0)

pub walk_cases-loop-c-preserved : goal.walk_cases-loop-c-preserved
walk_cases-loop-c-preserved g t c =
    passes (case_flaws (g.A.Arities.arity_of c.args.arities.now)) (λ (cs : List Case). cases_flaws (g.A.Arities.arity_of c.args.arities.now) (cases_of cs)) (cases_split (g.A.Arities.arity_of c.args.arities.now))
    c.args.cs.now c.loop-c.c-index c.c-item.result c.loop-c-test.true c.c-item.is c.loop-c.passed c.in_ok-passed.passed _ _ c.in_ok-passed.ensures c.loop-c.invariant.0 c.loop-c.invariant.1

pub walk_case-returns-in_err-passed : goal.walk_case-returns-in_err-passed
walk_case-returns-in_err-passed g t c =
    let p = err_from_is_err_and c.from_residual.result c.from_residual.ensures.1 in
    rw (p.1, p.2) (sym (stops_second c.args.before c.walk_pattern-passed.result c.in_err-passed.field-0.0 (pattern_flaws c.args.c.now.pattern) (guard_flaws (g.A.Arities.arity_of c.args.arities.now) c.args.c.now.guard) (term_flaws (g.A.Arities.arity_of c.args.arities.now) c.args.c.now.body) (behind_pattern c.args.before c.walk_pattern-passed.result c.args.c.now.pattern c.walk_pattern-passed.ensures) (sym c.in_err-passed.ensures)))
