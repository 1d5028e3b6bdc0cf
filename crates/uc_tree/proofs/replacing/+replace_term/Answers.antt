use Rattle.std.proofs.Common.{List, Some, refl, ap, ◌∙◌}
use Rattle.uc_tree.specs.declared.term.Case.{Case}
use Rattle.uc_tree.specs.Terms.{Term, none, more, no_case, terms_of}
use Rattle.uc_tree.specs.TermViews.{cases_of}
use Rattle.uc_tree.specs.Replacing.{replaced_term, replaced_terms, replaced_case, replaced_cases}
use Rattle.uc_tree.specs.Stops.{replacement_of}
use Rattle.uc_tree.proofs.Joins.{goes_on, ends, terms_before, terms_before-push, terms_before-none, more_cases, cases_before, cases_before-push, cases_before-none, split_case}
use Rattle.uc_tree.proofs.replacing.+replace_term.Goals as goal

pub replace_terms-loop-t-preserved : goal.replace_terms-loop-t-preserved
replace_terms-loop-t-preserved t c =
    let m = replacement_of c.args.standing.now in
    rw c.in_ok-push.ensures.items (goes_on (λ u. replaced_term m u) (λ (us : List Term). replaced_terms m (terms_of us)) more terms_before (λ _ _. refl) terms_before-push c.loop-t.replaced.items c.args.ts.now c.loop-t.t-index c.t-item.result
    c.in_ok-replace_term.field-0 _ c.loop-t-test.true c.t-item.is c.in_ok-replace_term.ensures c.loop-t.invariant)

pub replace_terms-returns : goal.replace_terms-returns
replace_terms-returns t c =
    let m = replacement_of c.args.standing.now in
    ends (λ u. replaced_term m u) (λ (us : List Term). replaced_terms m (terms_of us)) more terms_before (λ _ _. refl) terms_before-push none refl c.loop-t.replaced.items c.args.ts.now c.loop-t.t-index _ c.loop-t-test.false c.loop-t.invariant
    ∙ ap Some (terms_before-none c.loop-t.replaced.items)

pub replace_cases-loop-c-preserved : goal.replace_cases-loop-c-preserved
replace_cases-loop-c-preserved t c =
    let m = replacement_of c.args.standing.now in
    rw c.in_ok-push.ensures.items (goes_on (λ d. replaced_case m d) (λ (ds : List Case). replaced_cases m (cases_of ds)) more_cases cases_before (split_case m) cases_before-push c.loop-c.replaced.items c.args.cs.now c.loop-c.c-index c.c-item.result
    c.in_ok-replace_case.field-0 _ c.loop-c-test.true c.c-item.is c.in_ok-replace_case.ensures c.loop-c.invariant)

pub replace_cases-returns : goal.replace_cases-returns
replace_cases-returns t c =
    let m = replacement_of c.args.standing.now in
    ends (λ d. replaced_case m d) (λ (ds : List Case). replaced_cases m (cases_of ds)) more_cases cases_before (split_case m) cases_before-push no_case refl c.loop-c.replaced.items c.args.cs.now c.loop-c.c-index _ c.loop-c-test.false c.loop-c.invariant
    ∙ ap Some (cases_before-none c.loop-c.replaced.items)
