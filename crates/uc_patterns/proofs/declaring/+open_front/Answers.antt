use Rattle.std.proofs.Common.{◌≡◌, sym, ap, ◌∙◌, arith, rules}
use Rattle.uc_context.specs.Opens.{existential, quantified}
use Rattle.uc_context.specs.OpenViews.{open_of}
use Rattle.uc_context.specs.Variables.{opened_at}
use Rattle.uc_patterns.proofs.FrontParts.{front_falls, opened_levels, behind_first, context_first}
use Rattle.uc_patterns.proofs.declaring.+open_front.Goals as goal

pub open_front-requires : goal.open_front-requires
open_front-requires t c =
    let is : c.args.of.now ≡ quantified c.in-Forall.body.value = sym c.of.view_is ∙ ap open_of c.in-Forall.is in
    let at : c.in_ok-opened-in-Forall.opened ≡ opened_at 0 (existential c.in_ok-number-in-Forall.number) c.in-Forall.body.value = search rules in
    let falls = front_falls c.args.context.now c.declare.new.context c.in_ok-number-in-Forall.number c.args.of.now c.in-Forall.body.value c.in_ok-opened-in-Forall.opened is c.in_ok-number-in-Forall.ensures.number c.in_ok-number-in-Forall.ensures.ok at in (
      omega (arith, falls),
      opened_levels c.args.context.now c.declare.new.context c.in_ok-number-in-Forall.number c.args.of.now c.in-Forall.body.value c.in_ok-opened-in-Forall.opened is c.in_ok-number-in-Forall.ensures.number c.in_ok-number-in-Forall.ensures.ok at c.requires,
    )

pub returns-in_ok-behind-in-Forall-clause-ok : goal.returns-in_ok-behind-in-Forall-clause-ok
returns-in_ok-behind-in-Forall-clause-ok t c =
    let is : c.args.of.now ≡ quantified c.in-Forall.body.value = sym c.of.view_is ∙ ap open_of c.in-Forall.is in
    let at : c.in_ok-opened-in-Forall.opened ≡ opened_at 0 (existential c.in_ok-number-in-Forall.number) c.in-Forall.body.value = search rules in
    behind_first c.args.context.now c.declare.new.context c.in_ok-number-in-Forall.number c.args.of.now c.in-Forall.body.value c.in_ok-opened-in-Forall.opened is c.in_ok-number-in-Forall.ensures.number c.in_ok-number-in-Forall.ensures.ok at c.in_ok-behind-in-Forall.behind c.in_ok-behind-in-Forall.ensures.ok

pub returns-in_ok-behind-in-Forall-clause-context : goal.returns-in_ok-behind-in-Forall-clause-context
returns-in_ok-behind-in-Forall-clause-context t c =
    let is : c.args.of.now ≡ quantified c.in-Forall.body.value = sym c.of.view_is ∙ ap open_of c.in-Forall.is in
    let at : c.in_ok-opened-in-Forall.opened ≡ opened_at 0 (existential c.in_ok-number-in-Forall.number) c.in-Forall.body.value = search rules in
    context_first c.args.context.now c.declare.new.context c.in_ok-number-in-Forall.number c.args.of.now c.in-Forall.body.value c.in_ok-opened-in-Forall.opened is c.in_ok-number-in-Forall.ensures.number c.in_ok-number-in-Forall.ensures.ok at c.open_front.new.context c.in_ok-behind-in-Forall.ensures.context
