use Rattle.std.proofs.Common.{arith}
use Rattle.std.proofs.lemmas.Grind.{common_steps}
use Rattle.std.specs.Vec.Iter.{into_iter_items, into_iter_len}
use Rattle.uc_tree.specs.Hints.{names_of}
use Rattle.uc_store.specs.Growth.{stored_from}
use Rattle.uc_store.proofs.MemberSteps.{next_list, stored_step, kept_step}
use Rattle.uc_store.proofs.member.members_from.Goals as goal

pub loop-item-preserved : goal.loop-item-preserved
loop-item-preserved c =
    let types = next_list (into_iter_items c.loop-item.types_left) (into_iter_items c.next-in-loop-item.new.self) c.next-in-loop-item.result (into_iter_len c.loop-item.types_left) (into_iter_len c.next-in-loop-item.new.self)
    c.loop-item.types_left.rest.ok.0 c.next-in-loop-item.new.self.rest.ok.0 c.next-in-loop-item.ensures.cases in
    let hints = next_list (into_iter_items c.loop-item.hints_left) (into_iter_items c.next-in-loop-item-2.new.self) c.next-in-loop-item-2.result (into_iter_len c.loop-item.hints_left) (into_iter_len c.next-in-loop-item-2.new.self)
    c.loop-item.hints_left.rest.ok.0 c.next-in-loop-item-2.new.self.rest.ok.0 c.next-in-loop-item-2.ensures.cases in
    rw c.in_ok-push.ensures.items (
      stored_step c.loop-item.members.items c.in_ok-member.member c.in-Some.item (into_iter_items c.loop-item.item-iterator) (into_iter_items c.next.new.self)
          (into_iter_items c.loop-item.types_left) (into_iter_items c.next-in-loop-item.new.self) c.next-in-loop-item.result
          (into_iter_items c.loop-item.hints_left) (into_iter_items c.next-in-loop-item-2.new.self) c.next-in-loop-item-2.result
          (stored_from c.args.items.items c.args.types.items (names_of c.args.hints.items))
          c.in-Some.ensures.steps.0 types hints c.in_ok-member.ensures.item c.in_ok-member.ensures.type_of c.in_ok-member.ensures.hints c.loop-item.invariant.0,
      kept_step c.args.hash.now c.loop-item.members.items c.in_ok-member.member c.len-number.result (omega (arith, c.len-number.ensures, c.loop-item.members.ok.0)) c.loop-item.invariant.1 c.in_ok-member.ensures.kept,
      grind (arith, common_steps, c.in-Some.ensures.steps.0),
    )
