use Rattle.std.proofs.Common.{◌∙◌, ℕ, ◌+◌, ◌<◌, List, length, drop, ap, subst, sym, arith}
use Rattle.uc_base.specs.Graph.{row}
use Rattle.uc_canon.specs.Numbering.{added}
use Rattle.uc_canon.specs.Starts.{AreReached}
use Rattle.uc_canon.proofs.Reach.{held_step, new_step, reference_below}
use Rattle.uc_canon.proofs.first_reach.Reach.add_links.Goals as goal
use Rattle.uc_canon.proofs.first_reach.Reach.add_links.Goals.{then-not-is_reached+in_ok-add, else-not-is_reached}

pub is_reached-requires : goal.is_reached-requires
is_reached-requires c =
    let p : c.reference-next.result < length c.args.graph.now = reference_below c.args.graph.now c.args.member c.loop-at.at c.reference-next.result c.requires.range (omega arith) c.reference-next.ensures in
    omega (arith, c.loop-at.invariant.2.table.starts_size)

pub add-requires-clause-member : goal.add-requires-clause-member
add-requires-clause-member c =
    let p : c.reference-next.result < length c.args.graph.now = reference_below c.args.graph.now c.args.member c.loop-at.at c.reference-next.result c.requires.range (omega arith) c.reference-next.ensures in
    omega (arith, c.len.ensures)

pub add-requires-clause-fresh : goal.add-requires-clause-fresh
add-requires-clause-fresh c =
    let next = c.reference-next.result in
    let p : next < length c.args.graph.now = reference_below c.args.graph.now c.args.member c.loop-at.at next c.requires.range (omega arith) c.reference-next.ensures in
    sym (c.loop-at.invariant.2.marked next p) ∙ sym c.is_reached.ensures ∙ c.if-not-is_reached.true

pub loop-at-preserved : goal.loop-at-preserved
loop-at-preserved c =
    let refers = row c.args.graph.now c.args.member in
    let next = c.reference-next.result in
    let lt : c.loop-at.at < length refers = omega arith in
    let p : next < length c.args.graph.now = reference_below c.args.graph.now c.args.member c.loop-at.at next c.requires.range lt c.reference-next.ensures in
    let marked = sym (c.loop-at.invariant.2.marked next p) ∙ sym c.is_reached.ensures in
    elim c.if-not-is_reached.branch [
      | then-not-is_reached+in_ok-add w ↦
          let new = w.add.new.self in
          let P : ℕ → Type 0 = λ n. AreReached n new.start new.starts.items new.numbers.items new.order.items in
          rw w.self-is (
            ap (λ (xs : List ℕ). added xs (drop (c.loop-at.at + 1) refers)) w.in_ok-add.ensures.order
                ∙ new_step c.loop-at.self.order.items refers (added c.args.self.now.order.items refers) c.loop-at.at next lt c.reference-next.ensures (marked ∙ w.if-not-is_reached.true) c.loop-at.invariant.0,
            w.in_ok-add.ensures.start ∙ c.loop-at.invariant.1,
            subst P w.len.ensures w.in_ok-add.ensures.reached,
          )
      | else-not-is_reached w ↦ rw w.self-is (
        held_step c.loop-at.self.order.items refers (added c.args.self.now.order.items refers) c.loop-at.at next lt c.reference-next.ensures (marked ∙ w.if-not-is_reached.false) c.loop-at.invariant.0,
        c.loop-at.invariant.1,
        c.loop-at.invariant.2,
      )
    ]
