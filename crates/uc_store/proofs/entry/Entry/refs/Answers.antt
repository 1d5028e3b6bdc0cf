use Rattle.std.proofs.Common.{◌≡◌, Some, rules, ◌∙◌}
use Rattle.std.specs.Prelude.{slice_get}
use Rattle.std.specs.Vec.{vec_len}
use Rattle.std.proofs.lemmas.Option.{slice_get_read}
use Rattle.uc_store.proofs.Boxes.{refs_at, refs_past}
use Rattle.uc_store.proofs.entry.Entry.refs.Goals as goal

pub returns-then-member-len : goal.returns-then-member-len
returns-then-member-len c =
    let at : slice_get c.self.inside.members.items c.args.member ≡ Some c.index.result.now =
    slice_get_read c.self.inside.members.items (vec_len c.self.inside.members) c.args.member c.index.result.now (search rules) (search rules) c.index.ensures in
    rw (← c.self.view_is) (c.deref.ensures.value ∙ refs_at c.self.inside.hash c.self.inside.members.items c.args.member c.index.result.now c.self.invariant at)

pub returns-else-member-len : goal.returns-else-member-len
returns-else-member-len c =
    rw (← c.self.view_is) (refs_past c.self.inside.members.items c.args.member (search rules))
