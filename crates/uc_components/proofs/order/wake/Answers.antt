use Rattle.std.proofs.Common.{◌≡◌, ◌<◌, ℕ, List, length, get_or, sym, ◌∙◌, ap, subst, below_more, arith}
use Rattle.uc_components.specs.Rows.{lists}
use Rattle.uc_components.specs.Order.{stage_of, IsKnown}
use Rattle.uc_components.specs.declared.order.Queue.{Queue}
use Rattle.uc_components.proofs.Stages.{edge_of, each_of}
use Rattle.uc_components.proofs.order.wake.Goals as goal

pub advance-requires-clause-part : goal.advance-requires-clause-part
advance-requires-clause-part c =
    let e : length c.loop-other.queue.placed.items ≡ length c.args.queue.now.placed.items = ap (λ (q : Queue). length q.placed.items) c.loop-other.invariant.same in
    omega (arith, (c.requires.new _ (edge_of (lists c.args.links.now.referrers) c.args.part c.loop-other.other-index _ c.row_at-referrers.ensures c.loop-other-test.true)).0)

pub loop-other-preserved : goal.loop-other-preserved
loop-other-preserved c = record {
  stage = c.in_ok-advance.ensures.stage;
  same = c.in_ok-advance.ensures.same ∙ ap (λ (q : Queue). record q { cursors = c.advance.new.queue.cursors; ready = c.advance.new.queue.ready }) c.loop-other.invariant.same;
  known =
      let P : ℕ → Type 0 = λ k. IsKnown (lists c.args.links.now.references) (stage_of c.advance.new.queue) (get_or c.row_at-referrers.result.now k 0) in
      below_more P _ (λ k lt. c.in_ok-advance.ensures.keeps _ (c.loop-other.invariant.known k lt)) c.in_ok-advance.ensures.known;
  keeps = λ d h. c.in_ok-advance.ensures.keeps d (c.loop-other.invariant.keeps d h);
}

pub returns-clause-known : goal.returns-clause-known
returns-clause-known c =
    each_of (λ d. IsKnown (lists c.args.links.now.references) (stage_of c.loop-other.queue) d) (lists c.args.links.now.referrers) c.args.part c.row_at-referrers.result.now c.row_at-referrers.ensures
    (λ k lt. c.loop-other.invariant.known k (omega (arith, c.loop-other-test.false)))
