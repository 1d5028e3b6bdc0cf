use Rattle.std.proofs.Common.{◌≡◌, ◌<◌, ◌++◌, ◌∷◌, [], ℕ, List, Bool, true, length, get_or, set, map, refl, sym, ◌∙◌, ap, subst, arith, Vec, Option}
use Rattle.std.specs.List.{Contains}
use Rattle.std.specs.Option.{IfNone}
use Rattle.std.specs.declared.alloc.Global.{Global}
use Rattle.std.proofs.lemmas.List.{length-set}
use Rattle.uc_components.specs.Rows.{lists}
use Rattle.uc_components.specs.Links.{AreLinks}
use Rattle.uc_components.specs.Order.{Stage, stage_of, IsOrderUpTo, ArePlaced, IsTaken}
use Rattle.uc_components.proofs.Placed.{descending, links_at, covered_in, some_at, lists_more, nothing_placed, order_step, finished}
use Rattle.uc_components.proofs.order.ordered.Goals as goal

pub begun-requires-clause-used : goal.begun-requires-clause-used
begun-requires-clause-used c = λ d lt. let u = c.requires.home.used d lt in (u.0, omega (arith, u.1, c.requires.home.len), u.2)

pub begun-requires-clause-descends : goal.begun-requires-clause-descends
begun-requires-clause-descends c = descending c.args.graph.now c.args.home.items c.args.count _ _ c.requires.home (links_at _ _ _ _ _ _ c.as_slice.ensures.value c.in_ok-links.ensures.links)

pub loop-components-init : goal.loop-components-init
loop-components-init c = record {
  stage = c.in_ok-queue.ensures.stage;
  known = c.in_ok-queue.ensures.known;
  home = c.in_ok-queue.ensures.home;
  count = c.in_ok-queue.ensures.count;
  order =
      let P : List (Vec ℕ Global) → Type 0 = λ z. (before : List ℕ) × IsOrderUpTo c.args.graph.now [] (map (λ (r : Vec ℕ Global). r.items) z) before × ArePlaced c.args.home.items c.in_ok-queue.queue.placed.items before in
      subst P (sym c.new-components.ensures.items)
      (nothing_placed c.args.graph.now c.args.home.items c.args.count (lists c.in_ok-links.links.references) (lists c.in_ok-links.links.referrers) c.requires.home c.requires.range
      (links_at _ _ _ _ _ _ c.as_slice.ensures.value c.in_ok-links.ensures.links) (covered_in _ _ _ _ c.as_slice.ensures.value c.in_ok-links.ensures.covered)
      c.in_ok-queue.queue.placed.items c.in_ok-queue.ensures.new);
}

pub loop-components-preserved : goal.loop-components-preserved
loop-components-preserved c =
    let T : Vec ℕ Global → Type 0 = λ m. IsTaken (lists c.in_ok-links.links.references) (stage_of c.loop-components.queue) (stage_of c.next.new.queue) m.items in
    let k : T c.in-Some.members = some_at T _ _ c.in-Some.is c.in_ok-members.ensures.some in
    record {
      stage = k.stage;
      known = k.known;
      home = k.home ∙ c.loop-components.invariant.home;
      count = ap (λ z. length z) k.placed ∙ length-set c.loop-components.queue.placed.items k.part true ∙ c.loop-components.invariant.count;
      order =
          let P : List (List ℕ) → Type 0 = λ z. (before : List ℕ) × IsOrderUpTo c.args.graph.now [] z before × ArePlaced c.args.home.items c.next.new.queue.placed.items before in
          subst P (sym (ap (λ (z : List (Vec ℕ Global)). map (λ (r : Vec ℕ Global). r.items) z) c.in_ok-push.ensures.items ∙ lists_more c.loop-components.components.items c.in-Some.members))
          (order_step c.args.graph.now c.args.home.items c.args.count (lists c.in_ok-links.links.references) (lists c.in_ok-links.links.referrers) c.requires.home c.requires.range
          (links_at _ _ _ _ _ _ c.as_slice.ensures.value c.in_ok-links.ensures.links) (covered_in _ _ _ _ c.as_slice.ensures.value c.in_ok-links.ensures.covered)
          (stage_of c.loop-components.queue) (stage_of c.next.new.queue) c.in-Some.members.items (lists c.loop-components.components) c.loop-components.invariant.home k c.loop-components.invariant.order);
    }

pub returns : goal.returns
returns c =
    finished c.args.graph.now c.args.home.items c.args.count (lists c.in_ok-links.links.references) (lists c.in_ok-links.links.referrers) c.requires.home c.requires.range
    (links_at _ _ _ _ _ _ c.as_slice.ensures.value c.in_ok-links.ensures.links) (covered_in _ _ _ _ c.as_slice.ensures.value c.in_ok-links.ensures.covered)
    (stage_of c.loop-components.queue) (lists c.loop-components.components) c.loop-components.invariant.home c.loop-components.invariant.stage c.loop-components.invariant.known
    (let Q : Option (Vec ℕ Global) → Type 0 = λ o. IfNone o ((x : ℕ) → Contains c.loop-components.queue.ready.keys x → ⊥) in subst Q c.in_default.is c.in_ok-members.ensures.none)
    c.loop-components.invariant.order
