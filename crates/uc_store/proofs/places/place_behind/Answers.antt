use Rattle.std.proofs.Common.{◌≡◌, ◌+◌, ◌-◌, ◌/◌, Some, true, false, arith}
use Rattle.std.specs.Prelude.{slice_get}
use Rattle.std.specs.Ordering.{is_lt}
use Rattle.uc_store.specs.Hashes.{hash_order}
use Rattle.uc_store.specs.Places.{boxed}
use Rattle.uc_store.proofs.Boxes.{boxed_at, length-boxed}
use Rattle.uc_store.proofs.HashOrder.{lt_is, lt_isnt}
use Rattle.uc_store.proofs.Searching.{go_down, go_up}
use Rattle.uc_store.proofs.places.place_behind.Goals as goal

pub loop-low-preserved-then-is_before : goal.loop-low-preserved-then-is_before
loop-low-preserved-then-is_before c =
    let at : slice_get (boxed c.args.entries.now) (c.loop-low.low + (c.loop-low.high - c.loop-low.low) / 2) ≡ Some c.index-entries-middle.result.value =
    boxed_at c.args.entries.now (c.loop-low.low + (c.loop-low.high - c.loop-low.low) / 2) c.index-entries-middle.result (omega (arith, c.loop-low.invariant.bound, length-boxed c.args.entries.now)) c.index-entries-middle.is in
    let less : is_lt (hash_order c.args.hash.now c.index-entries-middle.result.value.hash) ≡ true = cc in
    go_down c.args.hash.now (boxed c.args.entries.now) c.loop-low.low (c.loop-low.low + (c.loop-low.high - c.loop-low.low) / 2) c.loop-low.high c.index-entries-middle.result.value
    c.requires c.loop-low.invariant (omega arith) (omega arith) at (lt_is (hash_order c.args.hash.now c.index-entries-middle.result.value.hash) less)

pub loop-low-preserved : goal.loop-low-preserved
loop-low-preserved c =
    let at : slice_get (boxed c.args.entries.now) (c.loop-low.low + (c.loop-low.high - c.loop-low.low) / 2) ≡ Some c.index-entries-middle.result.value =
    boxed_at c.args.entries.now (c.loop-low.low + (c.loop-low.high - c.loop-low.low) / 2) c.index-entries-middle.result (omega (arith, c.loop-low.invariant.bound, length-boxed c.args.entries.now)) c.index-entries-middle.is in
    let above : is_lt (hash_order c.args.hash.now c.index-entries-middle.result.value.hash) ≡ false = cc in
    go_up c.args.hash.now (boxed c.args.entries.now) c.loop-low.low (c.loop-low.low + (c.loop-low.high - c.loop-low.low) / 2) c.loop-low.high c.index-entries-middle.result.value
    c.requires c.loop-low.invariant (omega arith) (omega arith) at (lt_isnt (hash_order c.args.hash.now c.index-entries-middle.result.value.hash) above)
