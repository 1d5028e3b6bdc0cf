use Rattle.std.proofs.Common.{◌≡◌, true, sym, ap, ◌∙◌, inl, option_map, Some}
use Rattle.std.specs.Option.{option_copied}
use Rattle.uc_base.specs.declared.fault.Fault.TheVariants.{StillUsed}
use Rattle.uc_branch.specs.Heads.{HeadPairs}
use Rattle.uc_branch.specs.Reaches.{reaches}
use Rattle.uc_branch.specs.Losses.{among_lost}
use Rattle.uc_branch.specs.Deleting.{loses_some, is_lost, head_outside}
use Rattle.uc_branch.proofs.Agreeing.{user_is}
use Rattle.uc_branch.proofs.head.Head.removed.Goals as goal

pub returns-in-Some-clause-refused : goal.returns-in-Some-clause-refused
returns-in-Some-clause-refused g c =
    let old = c.args.self.now in
    let new = head_outside (reaches c.args.reach.now) old in
    let some : loses_some (reaches c.args.reach.now) old ≡ true = sym c.has_some.ensures ∙ c.if-not-has_some.false in
    let user = user_is (g.K.Known.direct c.args.known.now) old new (among_lost c.in_ok-loss.loss) (λ r. c.in_ok-loss.ensures r ∙ ap (λ (n : HeadPairs). is_lost old n r) c.in_ok-left.ensures.ok)
    c.left.inside.kinds c.left.inside.terms (c.left.view_is ∙ c.in_ok-left.ensures.ok) c.as_slice.ensures.in_order c.as_slice-2.ensures.in_order
    (option_copied c.first_user.result) (option_copied c.first_user-2.result) (option_copied c.lesser-user.result) (rw (← c.as_slice.ensures.value) c.first_user.ensures) (rw (← c.as_slice-2.ensures.value) c.first_user-2.ensures) c.lesser-user.ensures in
    inl (rw some (ap (option_map StillUsed) (user ∙ (ap option_copied c.in-Some.is ∙ ap Some (sym c.in_ok-copy-2.ensures)))))

pub returns-clause-accepted : goal.returns-clause-accepted
returns-clause-accepted g c =
    let old = c.args.self.now in
    let new = head_outside (reaches c.args.reach.now) old in
    let some : loses_some (reaches c.args.reach.now) old ≡ true = sym c.has_some.ensures ∙ c.if-not-has_some.false in
    let user = user_is (g.K.Known.direct c.args.known.now) old new (among_lost c.in_ok-loss.loss) (λ r. c.in_ok-loss.ensures r ∙ ap (λ (n : HeadPairs). is_lost old n r) c.in_ok-left.ensures.ok)
    c.left.inside.kinds c.left.inside.terms (c.left.view_is ∙ c.in_ok-left.ensures.ok) c.as_slice.ensures.in_order c.as_slice-2.ensures.in_order
    (option_copied c.first_user.result) (option_copied c.first_user-2.result) (option_copied c.lesser-user.result) (rw (← c.as_slice.ensures.value) c.first_user.ensures) (rw (← c.as_slice-2.ensures.value) c.first_user-2.ensures) c.lesser-user.ensures in
    rw some (ap (option_map StillUsed) (user ∙ ap option_copied c.in_default.is))
