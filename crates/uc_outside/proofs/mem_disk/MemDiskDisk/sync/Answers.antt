use Rattle.std.proofs.Common.{◌≡◌, ◌++◌, [], ◌∷◌, refl, sym, arith}
use Rattle.std.proofs.lemmas.List.{append-nil}
use Rattle.uc_outside.specs.declared.done.Done.TheVariants as done
use Rattle.uc_outside.proofs.Recorded.{kept_more, synced_told, grown_quiet}
use Rattle.uc_outside.proofs.mem_disk.MemDiskDisk.sync.Goals as goal

pub invariant_of-self-2 : goal.invariant_of-self-2
invariant_of-self-2 c =
    let i = c.self.invariant in
    let are : c.push.new.self.items ≡ c.self.inside.done.items ++ done.Synced ∷ [] = grind arith in
    kept_more c.self.inside c.self.inside.file c.self.inside.log c.push.new.self c.refuses.new.self done.Synced [] i (sym (append-nil c.self.inside.log.items)) are refl refl tt
    (omega (arith, i.file_room, c.refuses.ensures.room)) (omega (arith, i.log_room, c.refuses.ensures.room)) (omega (arith, i.done_room, c.refuses.ensures.left, c.push.ensures.capacity, c.push.ensures.len))

pub returns-clause-told : goal.returns-clause-told
returns-clause-told c =
    let are : c.push.new.self.items ≡ c.self.inside.done.items ++ done.Synced ∷ [] = grind arith in
    rw (← c.self.view_is) (synced_told c.self.inside.first c.self.inside.log.items c.self.inside.done.items c.push.new.self.items c.self.invariant.sizes are)

pub returns-clause-calls : goal.returns-clause-calls
returns-clause-calls c =
    let are : c.push.new.self.items ≡ c.self.inside.done.items ++ done.Synced ∷ [] = grind arith in
    rw (← c.self.view_is) (grown_quiet [] c.self.inside.log.items c.self.inside.done.items c.push.new.self.items done.Synced c.self.invariant.sizes are)
