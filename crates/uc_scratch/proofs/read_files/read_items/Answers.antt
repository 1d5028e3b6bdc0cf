use Rattle.std.proofs.lemmas.Result.{err_from_is_err_and}
use Rattle.uc_scratch.proofs.FileSteps.{room_of_first, fault_of_first, step, all_read}
use Rattle.uc_scratch.proofs.read_files.read_items.Goals as goal

pub read_after-requires-clause-room : goal.read_after-requires-clause-room
read_after-requires-clause-room c =
    room_of_first c.items.rest.now c.in-Some.first.now c.in-Some.field-0-1.now (record { cut = c.in-Some.ensures.cut; whole = c.in-Some.ensures.whole }) c.items.invariant.room

pub items-preserved : goal.items-preserved
items-preserved c = rw c.in_ok-push.ensures.items
    (step _ c.items.items.items c.items.rest.now c.in-Some.first.now c.in-Some.field-0-1.now c.in_ok-item.item
    (record { cut = c.in-Some.ensures.cut; whole = c.in-Some.ensures.whole }) c.in_ok-item.ensures.item (rw c.as_slice.ensures.value at c.in_ok-item.ensures.levels) c.items.invariant)

pub returns-clause-items : goal.returns-clause-items
returns-clause-items c = (all_read _ _ c.items.rest.now c.in_default.ensures.cut c.items.invariant).0

pub returns-clause-levels : goal.returns-clause-levels
returns-clause-levels c = (all_read _ _ c.items.rest.now c.in_default.ensures.cut c.items.invariant).1

pub returns-in_err-item-clause-fault : goal.returns-in_err-item-clause-fault
returns-in_err-item-clause-fault c =
    let p = err_from_is_err_and c.from_residual.result c.from_residual.ensures.1 in
    rw (p.1, p.2)
    (fault_of_first _ _ c.items.rest.now c.in-Some.first.now c.in-Some.field-0-1.now _ (record { cut = c.in-Some.ensures.cut; whole = c.in-Some.ensures.whole })
    (rw c.as_slice.ensures.value at c.in_err-item.ensures.fault) c.items.invariant)
