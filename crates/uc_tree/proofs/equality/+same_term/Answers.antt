use Rattle.std.proofs.Common.{rules, arith, length, ap}
use Rattle.uc_tree.specs.Terms.{terms_of}
use Rattle.uc_tree.specs.TermViews.{cases_of}
use Rattle.uc_tree.proofs.Lists.{same_on, same_at, same_whole, terms_of-injective, cases_of-injective}
use Rattle.uc_tree.proofs.equality.+same_term.Goals as goal

pub same_terms-returns-then-ts-us : goal.same_terms-returns-then-ts-us
same_terms-returns-then-ts-us t c =
    (λ h. search rules, λ e. absurd (c.if-ts-us.true (ap length (terms_of-injective c.args.ts.now c.args.us.now e))))

pub same_terms-loop-i-preserved : goal.same_terms-loop-i-preserved
same_terms-loop-i-preserved t c =
    same_on c.args.ts.now c.args.us.now c.loop-i.i c.index-ts-i.result c.index-us-i.result c.loop-i-test.true (omega (arith, c.loop-i-test.true, c.if-ts-us.false)) c.index-ts-i.is c.index-us-i.is
    (c.same_term.ensures.0 (search rules)) c.loop-i.invariant

pub same_terms-returns-then-not-same_term : goal.same_terms-returns-then-not-same_term
same_terms-returns-then-not-same_term t c = (
  λ h. search rules,
  λ e.
      let h = c.same_term.ensures.1 (same_at c.args.ts.now c.args.us.now c.loop-i.i c.index-ts-i.result c.index-us-i.result c.loop-i-test.true c.index-ts-i.is c.index-us-i.is (terms_of-injective c.args.ts.now c.args.us.now e)) in
      search rules,
)

pub same_terms-returns : goal.same_terms-returns
same_terms-returns t c =
    (λ h. ap terms_of (same_whole c.args.ts.now c.args.us.now c.loop-i.i c.if-ts-us.false (omega (arith, c.loop-i-test.false)) c.loop-i.invariant), λ e. search rules)

pub same_cases-returns-then-cs-ds : goal.same_cases-returns-then-cs-ds
same_cases-returns-then-cs-ds t c =
    (λ h. search rules, λ e. absurd (c.if-cs-ds.true (ap length (cases_of-injective c.args.cs.now c.args.ds.now e))))

pub same_cases-loop-i-preserved : goal.same_cases-loop-i-preserved
same_cases-loop-i-preserved t c =
    same_on c.args.cs.now c.args.ds.now c.loop-i.i c.index-cs-i.result c.index-ds-i.result c.loop-i-test.true (omega (arith, c.loop-i-test.true, c.if-cs-ds.false)) c.index-cs-i.is c.index-ds-i.is
    (c.same_case.ensures.0 (search rules)) c.loop-i.invariant

pub same_cases-returns-then-not-same_case : goal.same_cases-returns-then-not-same_case
same_cases-returns-then-not-same_case t c = (
  λ h. search rules,
  λ e.
      let h = c.same_case.ensures.1 (same_at c.args.cs.now c.args.ds.now c.loop-i.i c.index-cs-i.result c.index-ds-i.result c.loop-i-test.true c.index-cs-i.is c.index-ds-i.is (cases_of-injective c.args.cs.now c.args.ds.now e)) in
      search rules,
)

pub same_cases-returns : goal.same_cases-returns
same_cases-returns t c =
    (λ h. ap cases_of (same_whole c.args.cs.now c.args.ds.now c.loop-i.i c.if-cs-ds.false (omega (arith, c.loop-i-test.false)) c.loop-i.invariant), λ e. search rules)
