use Rattle.std.proofs.Common.{List, Some, refl, ap, ◌∙◌}
use Rattle.uc_tree.specs.Patterns.{Pattern, none, more, patterns_of}
use Rattle.uc_tree.specs.Replacing.{replaced_pattern, replaced_patterns}
use Rattle.uc_tree.specs.Stops.{replacement_of}
use Rattle.uc_tree.proofs.Joins.{goes_on, ends, patterns_before, patterns_before-push, patterns_before-none}
use Rattle.uc_tree.proofs.replacing.+replace_pattern.Goals as goal

pub replace_patterns-loop-p-preserved : goal.replace_patterns-loop-p-preserved
replace_patterns-loop-p-preserved t c =
    let m = replacement_of c.args.standing.now in
    rw c.in_ok-push.ensures.items (goes_on (λ q. replaced_pattern m q) (λ (qs : List Pattern). replaced_patterns m (patterns_of qs)) more patterns_before (λ _ _. refl) patterns_before-push c.loop-p.replaced.items c.args.ps.now c.loop-p.p-index c.p-item.result
    c.in_ok-replace_pattern.field-0 _ c.loop-p-test.true c.p-item.is c.in_ok-replace_pattern.ensures c.loop-p.invariant)

pub replace_patterns-returns : goal.replace_patterns-returns
replace_patterns-returns t c =
    let m = replacement_of c.args.standing.now in
    ends (λ q. replaced_pattern m q) (λ (qs : List Pattern). replaced_patterns m (patterns_of qs)) more patterns_before (λ _ _. refl) patterns_before-push none refl c.loop-p.replaced.items c.args.ps.now c.loop-p.p-index _ c.loop-p-test.false c.loop-p.invariant
    ∙ ap Some (patterns_before-none c.loop-p.replaced.items)
