use Rattle.std.proofs.Common.{◌≡◌, Some, sym, ◌∙◌}
use Rattle.uc_store.specs.Table.{entry_under}
use Rattle.uc_store.proofs.Boxes.{type_of_constructor}
use Rattle.uc_store.proofs.store.Store.type_of.Goals as goal

pub returns-in-Some-entry_under : goal.returns-in-Some-entry_under
returns-in-Some-entry_under g c =
    let at : entry_under c.in-Ctor.hash c.args.self.now ≡ Some c.in-Some-entry_under.entry.now = rw (← c.self.view_is, ← c.deref.ensures.value) (sym c.in-Some-entry_under.ensures) in
    rw c.in-Ctor.is (c.constructor.ensures ∙ type_of_constructor c.args.self.now c.in-Ctor.hash c.in-Ctor.member c.in-Ctor.ctor c.in-Some-entry_under.entry.now at)
