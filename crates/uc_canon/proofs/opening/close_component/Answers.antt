use Rattle.std.proofs.Common.{Some, ap, ◌∙◌, arith}
use Rattle.uc_canon.proofs.ClosedItems.{closed_none, closed_term, closed_kind}
use Rattle.uc_canon.proofs.opening.close_component.Goals as goal
use Rattle.uc_canon.proofs.opening.close_component.Goals.{in-Term+in_ok-push-in-Term, in-Kind+in_ok-push-in-Kind}

pub loop-item-init : goal.loop-item-init
loop-item-init c = λ m e. rw (c.new-definitions.ensures.items, c.new-declarations.ensures.items) (closed_none c.args.own.now m)

pub loop-item-preserved : goal.loop-item-preserved
loop-item-preserved c = λ m e.
    let old = c.loop-item in
    elim c.match-branch-2.branch [
      | in-Term+in_ok-push-in-Term w ↦ rw (w.definitions-is, w.declarations-is, w.in_ok-push-in-Term.ensures.items) (closed_term c.args.own.now m c.args.items.now old.item-index old.definitions.items old.declarations.items c.item-item.result w.in-Term.definition e
          (omega arith) c.item-item.is (c.in_ok-definition.ensures.item ∙ ap Some w.in-Term.is) (old.invariant m e))
      | in-Kind+in_ok-push-in-Kind w ↦ rw (w.definitions-is, w.declarations-is, w.in_ok-push-in-Kind.ensures.items) (closed_kind c.args.own.now m c.args.items.now old.item-index old.definitions.items old.declarations.items c.item-item.result w.in-Kind.declaration e
          (omega arith) c.item-item.is (c.in_ok-definition.ensures.item ∙ ap Some w.in-Kind.is) (old.invariant m e))
    ]
