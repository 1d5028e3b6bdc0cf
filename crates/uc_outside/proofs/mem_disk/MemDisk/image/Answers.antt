use Rattle.std.proofs.Common.{◌≡◌, ℕ, List, ap, sym, subst, ◌∙◌}
use Rattle.uc_outside.specs.Call.{calls_of}
use Rattle.uc_outside.specs.Image.{image_by}
use Rattle.uc_outside.specs.Replay.{images}
use Rattle.uc_outside.specs.declared.done.Done.{Done}
use Rattle.uc_outside.proofs.Images.{image_by-left}
use Rattle.uc_outside.proofs.mem_disk.MemDisk.image.Goals as goal

-- the image of the disk's own record
made : (c : goal.After-from_vec) → c.from_vec.result ≡ image_by c.args.fill.now c.self.inside.first (calls_of c.self.inside.log.items c.self.inside.done.items)
made c =
    c.from_vec.ensures ∙ c.in_ok-image.ensures ∙ ap (λ (l : List ℕ). image_by c.args.fill.now l (calls_of c.deref-2.result.now c.deref-3.result.now)) c.as_slice-first.ensures
    ∙ ap (λ (l : List ℕ). image_by c.args.fill.now c.self.inside.first (calls_of l c.deref-3.result.now)) c.deref-2.ensures.value
    ∙ ap (λ (l : List Done). image_by c.args.fill.now c.self.inside.first (calls_of c.self.inside.log.items l)) c.deref-3.ensures.value

pub returns-clause-exactly : goal.returns-clause-exactly
returns-clause-exactly c = rw (← c.self.view_is) (made c)

pub returns-clause-left : goal.returns-clause-left
returns-clause-left c =
    let calls = calls_of c.self.inside.log.items c.self.inside.done.items in
    rw (← c.self.view_is) (subst (images c.self.inside.first (λ d. d ≡ c.self.inside.first) calls) (sym (made c)) (image_by-left c.args.fill.now c.self.inside.first calls c.self.invariant.within))
