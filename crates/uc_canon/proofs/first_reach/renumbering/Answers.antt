use Rattle.std.proofs.Common.{◌≡◌, ◌+◌, ◌-◌, ℕ, arith, subst, refl}
use Rattle.uc_canon.proofs.Places.{ArePlaces, places_none, places_step, places_all}
use Rattle.uc_canon.proofs.first_reach.renumbering.Goals as goal

pub loop-place-init : goal.loop-place-init
loop-place-init c = rw (c.in_ok-numbers.ensures.items_if_clones_equal (λ y e. e)) (places_none c.args.order.now c.args.count)

pub index_mut-requires : goal.index_mut-requires
index_mut-requires c = omega (arith, c.requires.below (c.loop-place.place - 1) (omega arith), c.loop-place.invariant.size)

pub loop-place-preserved : goal.loop-place-preserved
loop-place-preserved c =
    let at = c.loop-place.place - 1 in
    let e : c.loop-place.place ≡ at + 1 = omega arith in
    let P : ℕ → Type 0 = λ n. ArePlaces c.args.order.now c.args.count n c.loop-place.numbers.items in
    places_step c.args.order.now c.args.count at _ c.loop-place.numbers.items (omega arith) refl (c.requires.below at (omega arith)) (subst P e c.loop-place.invariant)

pub returns : goal.returns
returns c =
    let P : ℕ → Type 0 = λ n. ArePlaces c.args.order.now c.args.count n c.loop-place.numbers.items in
    places_all c.args.order.now c.args.count c.loop-place.numbers.items (subst P (omega arith) c.loop-place.invariant)
