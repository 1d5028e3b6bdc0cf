use Rattle.std.proofs.Common.{arith, sym, subst}
use Rattle.uc_store.specs.Places.{boxed, IsPlaceBehind}
use Rattle.uc_store.specs.Growth.{with_entries}
use Rattle.uc_store.specs.Table.{Table, IsTable}
use Rattle.uc_store.proofs.Boxes.{put_step}
use Rattle.uc_store.proofs.Tables.{sorted_before}
use Rattle.uc_store.proofs.prepared.put_in.Goals as goal

pub place_behind-place-requires : goal.place_behind-place-requires
place_behind-place-requires c =
    let P : Table → Type 0 = λ t. IsTable t in
    rw c.deref.ensures.value (sorted_before (boxed c.loop-entry.fresh.items) (boxed c.loop-entry.entries.items) (subst P (sym c.loop-entry.invariant.0) c.requires.ordered))

pub loop-entry-preserved : goal.loop-entry-preserved
loop-entry-preserved c =
    let behind : IsPlaceBehind c.in-Some.entry.value.hash (boxed c.loop-entry.entries.items) c.place_behind-place.result =
    rw (c.hash.ensures, c.deref-in-Some.ensures, c.deref.ensures.value) at c.place_behind-place.ensures in (
      put_step c.loop-entry.fresh.items c.pop.new.self.items c.loop-entry.entries.items c.insert.new.self.items c.in-Some.entry c.place_behind-place.result
          (with_entries (boxed c.args.fresh.items) (boxed c.args.entries.now.items)) c.in-Some.ensures.items behind c.in-Ok-insert.ensures.items c.loop-entry.invariant.0,
      omega (arith, c.in-Some.ensures.cases, c.in-Ok-insert.ensures.len, c.in-Ok-insert.ensures.capacity),
    )
