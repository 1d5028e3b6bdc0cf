use Rattle.std.proofs.Common.{◌≡◌, ◌-◌, Some, true, false, arith, sym, ap, ◌∙◌}
use Rattle.std.specs.Prelude.{slice_get}
use Rattle.uc_store.specs.Hashes.{is_same_hash}
use Rattle.uc_store.specs.Places.{boxed}
use Rattle.uc_store.proofs.Boxes.{boxed_at, length-boxed}
use Rattle.uc_store.proofs.Tables.{entry_under-place, found_before, found_at_place, same_yes, same_no}
use Rattle.uc_store.proofs.places.entry_under.Goals as goal

pub returns-then-place-eq0 : goal.returns-then-place-eq0
returns-then-place-eq0 c =
    sym (entry_under-place c.args.hash.now (boxed c.args.entries.now) c.place_behind-place.result c.requires c.place_behind-place.ensures
    ∙ ap (λ n. found_before c.args.hash.now (boxed c.args.entries.now) n) c.if-place-eq0.true)

pub returns-then-is_same : goal.returns-then-is_same
returns-then-is_same c =
    let at : slice_get (boxed c.args.entries.now) (c.place_behind-place.result - 1) ≡ Some c.index-entries-place.result.value =
    boxed_at c.args.entries.now (c.place_behind-place.result - 1) c.index-entries-place.result (omega (arith, c.place_behind-place.ensures.bound, length-boxed c.args.entries.now)) c.index-entries-place.is in
    let same : is_same_hash c.args.hash.now c.index-entries-place.result.value.hash ≡ true = cc in
    let found = entry_under-place c.args.hash.now (boxed c.args.entries.now) c.place_behind-place.result c.requires c.place_behind-place.ensures
    ∙ found_at_place c.args.hash.now (boxed c.args.entries.now) c.place_behind-place.result c.index-entries-place.result.value (omega arith) at
    ∙ same_yes c.args.hash.now c.index-entries-place.result.value same in
    cc

pub returns-else-is_same : goal.returns-else-is_same
returns-else-is_same c =
    let at : slice_get (boxed c.args.entries.now) (c.place_behind-place.result - 1) ≡ Some c.index-entries-place.result.value =
    boxed_at c.args.entries.now (c.place_behind-place.result - 1) c.index-entries-place.result (omega (arith, c.place_behind-place.ensures.bound, length-boxed c.args.entries.now)) c.index-entries-place.is in
    let same : is_same_hash c.args.hash.now c.index-entries-place.result.value.hash ≡ false = cc in
    sym (entry_under-place c.args.hash.now (boxed c.args.entries.now) c.place_behind-place.result c.requires c.place_behind-place.ensures
    ∙ found_at_place c.args.hash.now (boxed c.args.entries.now) c.place_behind-place.result c.index-entries-place.result.value (omega arith) at
    ∙ same_no c.args.hash.now c.index-entries-place.result.value same)
