use Rattle.std.proofs.Common.{◌≡◌, ◌++◌, [], ◌∷◌, ◌≤◌, ◌-◌, ℕ, List, length, take, length-append, sym, ap, arith, ◌∙◌}
use Rattle.std.specs.Prelude.{is_ok, vec_capacity}
use Rattle.std.proofs.lemmas.List.{take_all}
use Rattle.uc_outside.specs.MemDisk.{MemFile}
use Rattle.uc_outside.specs.Replay.{over, contents}
use Rattle.uc_outside.specs.declared.done.Done.TheVariants as done
use Rattle.uc_outside.proofs.Recorded.{kept_more, kept_spoilt, left_after, wrote_told, grown_wrote, spoilt_told, spoilt_recorded}
use Rattle.uc_outside.proofs.Replay.{torn_over}
use Rattle.uc_outside.proofs.mem_disk.MemDiskDisk.write_at.Goals as goal

pub invariant_of-self : goal.invariant_of-self
invariant_of-self c =
    let i = c.self.invariant in
    let le : c.args.at ≤ length c.self.inside.file.items = omega (arith, c.requires, ap length i.reads, ap (λ (v : MemFile). length (contents v.first v.calls)) c.self.view_is) in
    let left : c.refuses.new.self.left ≤ vec_capacity c.push.new.self - length c.push.new.self.items =
    omega (arith, c.refuses.ensures.left, left_after (is_ok c.push.result) _ _ _ c.self.inside.done.items c.push.new.self.items (done.Spoilt c.args.at (length c.args.bytes.now)) i.done_room c.push.ensures.capacity c.push.ensures.items) in
    kept_spoilt c.self.inside c.push.new.self c.refuses.new.self (is_ok c.push.result) c.args.at (length c.args.bytes.now) i c.push.ensures.items le (omega (arith, c.refuses.ensures.room)) left

pub returns-then-refuses-clause-told : goal.returns-then-refuses-clause-told
returns-then-refuses-clause-told c =
    rw (← c.self.view_is) (spoilt_told _ c.self.inside.first c.self.inside.log.items (is_ok c.push.result) c.self.inside.done.items c.push.new.self.items c.args.at c.args.bytes.now c.self.invariant.sizes c.push.ensures.items)

pub returns-then-refuses-clause-calls : goal.returns-then-refuses-clause-calls
returns-then-refuses-clause-calls c =
    let recorded = spoilt_recorded c.self.inside.log.items (is_ok c.push.result) c.self.inside.done.items c.push.new.self.items c.args.at (length c.args.bytes.now) c.self.inside.counter.left c.self.invariant.sizes c.push.ensures.items
    (λ some. c.push.ensures.succeeds (omega (arith, some, c.self.invariant.done_room))) in
    rw (← c.self.view_is) (record { written = tt; spoilt = recorded })

pub invariant_of-self-2 : goal.invariant_of-self-2
invariant_of-self-2 c =
    let i = c.self.invariant in
    let bytes = c.args.bytes.now in
    let log_is : c.extend_from_slice.new.self.items ≡ c.self.inside.log.items ++ c.args.bytes.now = grind arith in
    let are : c.push-2.new.self.items ≡ c.self.inside.done.items ++ done.Wrote c.args.at (length c.args.bytes.now) ∷ [] = grind arith in
    let le : c.args.at ≤ length c.self.inside.file.items = omega (arith, c.requires, ap length i.reads, ap (λ (v : MemFile). length (contents v.first v.calls)) c.self.view_is) in
    let file_is : c.lay.new.file.items ≡ over c.self.inside.file.items c.args.at (take (length c.args.bytes.now) c.args.bytes.now) =
    c.lay.ensures.laid ∙ ap (λ (l : List ℕ). over c.self.inside.file.items c.args.at l) (sym (take_all (length bytes) bytes (omega arith))) in
    let torn = torn_over c.self.inside.file.items c.args.bytes.now c.args.at le in
    kept_more c.self.inside c.lay.new.file c.extend_from_slice.new.self c.push-2.new.self c.refuses.new.self (done.Wrote c.args.at (length bytes)) bytes i log_is are file_is (omega arith) (le, tt)
    (omega (arith, i.file_room, c.if-refuses.ensures.room, c.lay.ensures.capacity, ap length c.lay.ensures.laid, torn.no_longer))
    (omega (arith, i.log_room, c.if-refuses.ensures.room, c.extend_from_slice.ensures.capacity, ap length log_is, length-append c.self.inside.log.items bytes))
    (omega (arith, i.done_room, c.refuses.ensures.left, c.push-2.ensures.capacity, ap length are, length-append c.self.inside.done.items (done.Wrote c.args.at (length bytes) ∷ [])))

pub returns-clause-told : goal.returns-clause-told
returns-clause-told c =
    let i = c.self.invariant in
    let le : c.args.at ≤ length c.self.inside.file.items = omega (arith, c.requires, ap length i.reads, ap (λ (v : MemFile). length (contents v.first v.calls)) c.self.view_is) in
    let log_is : c.extend_from_slice.new.self.items ≡ c.self.inside.log.items ++ c.args.bytes.now = grind arith in
    let are : c.push-2.new.self.items ≡ c.self.inside.done.items ++ done.Wrote c.args.at (length c.args.bytes.now) ∷ [] = grind arith in
    rw (← c.self.view_is) (wrote_told c.self.inside.log.items c.extend_from_slice.new.self.items c.self.inside.done.items c.push-2.new.self.items c.args.at c.args.bytes.now i.sizes log_is are c.self.inside.first c.self.inside.file.items i.reads le)

pub returns-clause-calls : goal.returns-clause-calls
returns-clause-calls c =
    let log_is : c.extend_from_slice.new.self.items ≡ c.self.inside.log.items ++ c.args.bytes.now = grind arith in
    let are : c.push-2.new.self.items ≡ c.self.inside.done.items ++ done.Wrote c.args.at (length c.args.bytes.now) ∷ [] = grind arith in
    rw (← c.self.view_is) (record { written = grown_wrote c.self.inside.log.items c.extend_from_slice.new.self.items c.self.inside.done.items c.push-2.new.self.items c.args.at c.args.bytes.now c.self.invariant.sizes log_is are; spoilt = tt })
