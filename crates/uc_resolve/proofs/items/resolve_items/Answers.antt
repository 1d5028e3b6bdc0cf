use Rattle.std.proofs.Common.{◌+◌, drop, sym, ap, ◌∙◌, inl, inr}
use Rattle.std.proofs.lemmas.Result.{err_from_is_err_and}
use Rattle.uc_scratch.specs.FileViews.{items_of}
use Rattle.uc_resolve.specs.ItemMeanings.{behind}
use Rattle.uc_resolve.specs.Passing.{rest_meaning}
use Rattle.uc_resolve.specs.ProgramViews.{draft_of}
use Rattle.uc_resolve.proofs.ItemSteps.{item_there}
use Rattle.uc_resolve.proofs.items.resolve_items.Goals as goal

pub returns-in_err-pass_item : goal.returns-in_err-pass_item
returns-in_err-pass_item g c =
    let left = c.from_residual-in_err-pass_item in
    let fault = err_from_is_err_and left.result left.ensures.1 in
    let known = g.M.Meanings.known c.args.meanings.now in
    let items = c.args.items.now in
    let i = c.loop-item.item-index in
    let there = item_there items i c.item-item.result c.loop-item-test.true c.item-item.is in
    rw (fault.1, fault.2) (elim c.in_err-pass_item.ensures [
      | inl m ↦ inl m
      | inr f ↦ inr (
          sym c.loop-item.invariant
          ∙ ap (behind (draft_of c.loop-item.draft)) (ap (rest_meaning known c.loop-item.before) there ∙ f (items_of (drop (i + 1) items)))
          )
    ])
