use Rattle.std.proofs.Common.{List, Some, refl, ap, ◌∙◌}
use Rattle.uc_tree.specs.Types.{Ty, none, more, tys_of}
use Rattle.uc_tree.specs.Replacing.{replaced_ty, replaced_tys}
use Rattle.uc_tree.specs.Stops.{replacement_of}
use Rattle.uc_tree.proofs.Joins.{goes_on, ends, tys_before, tys_before-push, tys_before-none}
use Rattle.uc_tree.proofs.replacing.+replace_type.Goals as goal

pub replace_types-loop-t-preserved : goal.replace_types-loop-t-preserved
replace_types-loop-t-preserved t c =
    let m = replacement_of c.args.standing.now in
    rw c.in_ok-push.ensures.items (goes_on (λ u. replaced_ty m u) (λ (us : List Ty). replaced_tys m (tys_of us)) more tys_before (λ _ _. refl) tys_before-push c.loop-t.replaced.items c.args.ts.now c.loop-t.t-index c.t-item.result
    c.in_ok-replace_type.field-0 _ c.loop-t-test.true c.t-item.is c.in_ok-replace_type.ensures c.loop-t.invariant)

pub replace_types-returns : goal.replace_types-returns
replace_types-returns t c =
    let m = replacement_of c.args.standing.now in
    ends (λ u. replaced_ty m u) (λ (us : List Ty). replaced_tys m (tys_of us)) more tys_before (λ _ _. refl) tys_before-push none refl c.loop-t.replaced.items c.args.ts.now c.loop-t.t-index _ c.loop-t-test.false c.loop-t.invariant
    ∙ ap Some (tys_before-none c.loop-t.replaced.items)
