use Rattle.std.proofs.Common.{◌≡◌, ◌∙◌, List, length, map, ap, sym, arith}
use Rattle.std.proofs.lemmas.List.{take_all}
use Rattle.uc_tree.specs.declared.target.Target.{Target}
use Rattle.uc_tree.specs.declared.item.Item.{Item}
use Rattle.uc_tree.specs.Replacing.{by_members, replaced}
use Rattle.uc_canon.specs.Members.{members_of, items_of, count_of}
use Rattle.uc_canon.specs.Opening.{stored_members}
use Rattle.uc_canon.proofs.Opened.{opened_there}
use Rattle.uc_canon.proofs.TakenInOrder.{taken_more}
use Rattle.uc_canon.proofs.opening.open_component.Goals as goal

pub unwrap-requires : goal.unwrap-requires
unwrap-requires c =
    let items = c.deref-item-items.result.now in
    let same : items ≡ items_of (members_of c.args.of.now) = c.deref-item-items.ensures.value ∙ c.in_ok-items.ensures in
    let n : c.len-2.result ≡ length items = omega (arith, c.deref-item-items.ensures.len) in
    let there = opened_there c.args.hash.now (members_of c.args.of.now) items c.deref.result.now c.loop-item.item-index c.item-item.result c.requires same
    (c.deref.ensures.value ∙ c.in_ok-members.ensures ∙ ap (stored_members c.args.hash.now) n) (omega arith) c.item-item.is in
    rw c.in_ok-with_members.ensures.item there

pub loop-item-preserved : goal.loop-item-preserved
loop-item-preserved c =
    let items = c.deref-item-items.result.now in
    let numbers = c.in_ok-members.members.items in
    rw c.in_ok-push.ensures.items (taken_more (replaced (by_members numbers)) items c.loop-item.opened.items c.loop-item.item-index c.item-item.result c.unwrap.result (omega arith)
    (sym c.unwrap.ensures ∙ c.in_ok-with_members.ensures.item ∙ ap (λ (ns : List Target). replaced (by_members ns) c.item-item.result) c.deref.ensures.value ∙ ap (replaced (by_members numbers)) c.item-item.is)
    c.loop-item.invariant)

pub returns-clause-opened : goal.returns-clause-opened
returns-clause-opened c =
    let m = members_of c.args.of.now in
    let items = c.deref-item-items.result.now in
    let numbers = c.in_ok-members.members.items in
    let same : items ≡ items_of m = c.deref-item-items.ensures.value ∙ c.in_ok-items.ensures in
    let n : c.len-2.result ≡ count_of m = omega (arith, c.deref-item-items.ensures.len, ap (λ (xs : List Item). length xs) same) in
    c.loop-item.invariant ∙ ap (map (replaced (by_members numbers))) (take_all c.loop-item.item-index items (omega arith) ∙ same)
    ∙ ap (λ (ns : List Target). map (replaced (by_members ns)) (items_of m)) (c.in_ok-members.ensures ∙ ap (stored_members c.args.hash.now) n)
