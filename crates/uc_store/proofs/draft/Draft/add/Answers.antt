use Rattle.std.proofs.Common.{length, ap, ◌∙◌}
use Rattle.uc_store.specs.Drafts.{drafted}
use Rattle.uc_store.specs.Growth.{entry_at}
use Rattle.uc_store.specs.Places.{boxed, IsPlaceBehind}
use Rattle.uc_store.proofs.Drafting.{entry_nodes, fresh_step, draft_step, drafted_step}
use Rattle.uc_store.proofs.Making.{counts_step}
use Rattle.uc_store.proofs.draft.Draft.add.Goals as goal

pub returns-clause-draft : goal.returns-clause-draft
returns-clause-draft c =
    let behind : IsPlaceBehind c.args.hash (boxed c.args.self.now.fresh.items) c.place_behind-place.result = rw c.deref-2.ensures.value at c.place_behind-place.ensures in
    let fresh = fresh_step c.args.self.now.fresh.items c.insert.new.self.items c.in_ok-new.field-0 c.place_behind-place.result (entry_at c.args.hash c.args.new)
    (c.in_ok-new.ensures.ok ∙ c.in_ok-entry.ensures.entry) behind c.in_ok-insert.ensures.items in
    draft_step (boxed c.args.stored.now) c.args.self.now (record { fresh = c.insert.new.self; counts = c.with-counts.result }) (entry_at c.args.hash c.args.new) c.requires.draft c.requires.absent fresh
    (counts_step (entry_at c.args.hash c.args.new) (drafted (boxed c.args.stored.now) c.args.self.now) c.args.self.now.counts c.with-counts.result
    c.count.result (length c.as_slice-bytes.result.now) c.nodes_of-type_nodes.result c.requires.draft.counted
    (c.count.ensures ∙ ap (λ e. length e.members) c.in_ok-entry.ensures.entry) (ap length (c.as_slice-bytes.ensures ∙ c.requires.text))
    (rw (entry_nodes c.args.hash c.args.new c.requires.storable.1.typed, ← c.new.view_is, ← c.deref.ensures.value) c.nodes_of-type_nodes.ensures)
    c.with-counts.ensures.members c.with-counts.ensures.bytes c.with-counts.ensures.type_nodes)

pub returns-clause-added : goal.returns-clause-added
returns-clause-added c =
    let behind : IsPlaceBehind c.args.hash (boxed c.args.self.now.fresh.items) c.place_behind-place.result = rw c.deref-2.ensures.value at c.place_behind-place.ensures in
    let fresh = fresh_step c.args.self.now.fresh.items c.insert.new.self.items c.in_ok-new.field-0 c.place_behind-place.result (entry_at c.args.hash c.args.new)
    (c.in_ok-new.ensures.ok ∙ c.in_ok-entry.ensures.entry) behind c.in_ok-insert.ensures.items in
    drafted_step (boxed c.args.stored.now) c.args.self.now (record { fresh = c.insert.new.self; counts = c.with-counts.result }) (entry_at c.args.hash c.args.new) c.requires.draft c.requires.absent fresh
