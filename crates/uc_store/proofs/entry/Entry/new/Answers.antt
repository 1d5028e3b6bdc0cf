use Rattle.std.proofs.Common.{List, map, sym, ap, subst, ◌∙◌}
use Rattle.uc_canon.specs.Members.{members_of, items_of, count_of}
use Rattle.uc_canon.specs.Numbering.{IsClosed}
use Rattle.uc_store.specs.declared.stored.Stored.{Stored}
use Rattle.uc_store.specs.Checked.{Checked}
use Rattle.uc_store.specs.Growth.{opened, stored_from}
use Rattle.uc_store.specs.Members.{stored_of}
use Rattle.uc_store.proofs.Drafting.{entry_same}
use Rattle.uc_store.proofs.Making.{opened_items}
use Rattle.uc_store.proofs.entry.Entry.new.Goals as goal

pub open_component-requires : goal.open_component-requires
open_component-requires c = let P : Checked → Type 0 = λ x. IsClosed x.members in subst P (sym c.of.view_is) c.requires.closed

pub returns-clause-entry : goal.returns-clause-entry
returns-clause-entry c =
    let F : Checked → List Stored = λ x. stored_from (map (opened c.args.hash (count_of x.members)) (items_of x.members)) x.types x.hints in
    let opened_are = opened_items c.args.hash (members_of c.of.inside.component) c.in_ok-items.items.items c.in_ok-items.ensures.opened in
    entry_same c.args.hash c.args.text (stored_of c.in_ok-members.members.items) c.args.of c.requires.text
    (c.in_ok-members.ensures.stored ∙ ap (λ hs. stored_from c.in_ok-items.items.items c.of.inside.types.items hs) c.hints.view_is
    ∙ ap (λ is. stored_from is c.of.inside.types.items c.of.inside.hints) opened_are ∙ ap F c.of.view_is)
