use Rattle.std.proofs.Common.{◌≡◌, Some, None, sym, ap, ◌∙◌}
use Rattle.std.specs.Option.{option_or}
use Rattle.uc_store.specs.Places.{boxed}
use Rattle.uc_store.specs.Table.{entry_under}
use Rattle.uc_store.proofs.Tables.{under_entries, sorted_before}
use Rattle.uc_store.proofs.draft.Draft.entry_under.Goals as goal

pub entry_under-requires-in-None : goal.entry_under-requires-in-None
entry_under-requires-in-None c = sorted_before (boxed c.args.self.now.fresh.items) (boxed c.args.stored.now) c.requires.ordered

pub returns-in-Some : goal.returns-in-Some
returns-in-Some c =
    let first : entry_under c.args.hash.now (boxed c.args.self.now.fresh.items) ≡ Some c.in-Some.entry.now = rw (← c.deref.ensures.value) (sym c.in-Some.ensures) in
    sym (under_entries c.args.hash.now (boxed c.args.self.now.fresh.items) (boxed c.args.stored.now) c.requires.ordered
    ∙ ap (λ o. option_or o (entry_under c.args.hash.now (boxed c.args.stored.now))) first)

pub returns-in-None : goal.returns-in-None
returns-in-None c =
    let first : entry_under c.args.hash.now (boxed c.args.self.now.fresh.items) ≡ None = rw (← c.deref.ensures.value) (sym c.in-None.ensures) in
    c.entry_under-in-None.ensures ∙ sym (under_entries c.args.hash.now (boxed c.args.self.now.fresh.items) (boxed c.args.stored.now) c.requires.ordered
    ∙ ap (λ o. option_or o (entry_under c.args.hash.now (boxed c.args.stored.now))) first)
