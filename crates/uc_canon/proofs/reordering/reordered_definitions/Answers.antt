use Rattle.std.proofs.Common.{◌≡◌, ◌∙◌, Some, get_or, length, ap, sym, refl, arith}
use Rattle.std.specs.List.{slice_get}
use Rattle.std.specs.Option.{option_and_then}
use Rattle.std.proofs.lemmas.Option.{slice_get_read}
use Rattle.uc_tree.specs.Replacing.{by_members, replaced_definition}
use Rattle.uc_canon.specs.Starts.{definition_at}
use Rattle.uc_canon.proofs.TakenInOrder.{taken_more}
use Rattle.uc_canon.proofs.reordering.reordered_definitions.Goals as goal

pub loop-member-preserved : goal.loop-member-preserved
loop-member-preserved c =
    let u = get_or c.args.order.now c.loop-member.member-index 0 in
    let members = c.args.members.now in
    let s : slice_get members u ≡ Some c.index-members-member.result = slice_get_read members (length members) u c.index-members-member.result refl (c.requires.below c.loop-member.member-index (omega arith)) c.index-members-member.is in
    rw c.in_ok-push.ensures.items (taken_more (definition_at c.args.numbers.now members) c.args.order.now c.loop-member.moved.items c.loop-member.member-index 0 c.in_ok-renumbered_definition.field-0 (omega arith)
    (c.in_ok-renumbered_definition.ensures.definition ∙ ap (option_and_then (replaced_definition (by_members c.args.numbers.now))) (sym s)) c.loop-member.invariant)
