use Rattle.std.proofs.Common.{◌≡◌, ◌<◌, ◌+◌, ℕ, List, replicate, false, length, get_or, refl, sym, ◌∙◌, ap, subst, below_more, arith}
use Rattle.uc_components.specs.Rows.{lists}
use Rattle.uc_base.specs.Graph.{row}
use Rattle.uc_components.specs.Searched.{flag}
use Rattle.uc_components.specs.Order.{stage_of, IsKnown, IsMembers}
use Rattle.uc_components.proofs.Placed.{start_stage, copies}
use Rattle.uc_components.specs.declared.order.Queue.{Queue}
use Rattle.uc_components.proofs.order.begun.Goals as goal

pub loop-part-init : goal.loop-part-init
loop-part-init c =
    let flags : c.in_ok-vec.field-0.items ≡ replicate c.args.count false = c.in_ok-vec.ensures.items_if_clones_equal (λ y e. e) in
    let zeros : c.in_ok-vec-2.field-0.items ≡ replicate c.args.count 0 = c.in_ok-vec-2.ensures.items_if_clones_equal (λ y e. e) in
    let new : (d : ℕ) → flag c.in_ok-vec.field-0.items d ≡ false = λ d. ap (λ xs. flag xs d) flags ∙ copies c.args.count d false in
    let count : length c.in_ok-vec.field-0.items ≡ c.args.count = omega (arith, c.in_ok-vec.ensures.len, c.in_ok-vec.field-0.ok) in
    let P : List ℕ → Type 0 = λ z. (d : ℕ) → d < c.args.count → IsMembers z d (row (lists c.in_ok-parts.parts) d) in
    record {
      stage = start_stage (lists c.args.links.now.references) (lists c.in_ok-parts.parts) c.args.home.items c.in_ok-vec-2.field-0.items c.new.result.keys c.in_ok-vec.field-0.items c.args.count
          c.requires.len c.in_ok-parts.ensures.len count (omega (arith, c.in_ok-vec-2.ensures.len, c.in_ok-vec-2.field-0.ok)) c.requires.below c.requires.descends
          (subst P c.as_slice.ensures.value c.in_ok-parts.ensures.members) c.requires.used
          (λ d. ap (λ xs. get_or xs d 0) zeros ∙ copies c.args.count d 0) new c.new.ensures.empty;
      known = λ k lt. absurd (omega arith);
      new = new;
      home = refl;
      count = count;
    }

pub loop-part-preserved : goal.loop-part-preserved
loop-part-preserved c = record {
  stage = c.in_ok-advance.ensures.stage;
  known =
      let P : ℕ → Type 0 = λ k. IsKnown (lists c.args.links.now.references) (stage_of c.advance.new.queue) k in
      below_more P _ (λ k lt. c.in_ok-advance.ensures.keeps k (c.loop-part.invariant.known k lt)) c.in_ok-advance.ensures.known;
  new = λ d. ap (λ (q : Queue). get_or q.placed.items d false) c.in_ok-advance.ensures.same ∙ c.loop-part.invariant.new d;
  home = ap (λ (q : Queue). q.home.items) c.in_ok-advance.ensures.same ∙ c.loop-part.invariant.home;
  count = ap (λ (q : Queue). length q.placed.items) c.in_ok-advance.ensures.same ∙ c.loop-part.invariant.count;
}
