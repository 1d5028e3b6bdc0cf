use Rattle.std.proofs.Common.{◌≡◌, List, None, sym, ap, subst, ◌∙◌}
use Rattle.std.specs.Vec.Iter.{into_iter_items}
use Rattle.uc_canon.specs.Members.{text_of}
use Rattle.uc_store.specs.Checked.{Checked}
use Rattle.uc_store.specs.Drafts.{drafted}
use Rattle.uc_store.specs.Growth.{hash_of, collision_with}
use Rattle.uc_store.specs.Places.{boxed}
use Rattle.uc_store.specs.Table.{entry_under}
use Rattle.uc_store.proofs.Drafting.{IsDrafting, drafting_begins, drafting_step}
use Rattle.uc_store.proofs.draft.draft_of.Goals as goal

pub loop-checked-init : goal.loop-checked-init
loop-checked-init g c =
    let P : List Checked → Type 0 = λ xs. IsDrafting g.H.Digester.digest_of (boxed c.args.stored.now) c.args.new.items xs (record { fresh = c.new.result; counts = c.args.counts }) in
    subst P (sym c.into_iter-checked-iterator.ensures.into_iter_gives.0)
    (drafting_begins g.H.Digester.digest_of (boxed c.args.stored.now) c.args.new.items (record { fresh = c.new.result; counts = c.args.counts }) c.new.ensures.items c.requires.ordered c.requires.counted c.requires.made c.requires.storable)

pub loop-checked-preserved : goal.loop-checked-preserved
loop-checked-preserved g c =
    let text : c.in_ok-text.text ≡ text_of c.in-Some.checked.members = c.in_ok-text.ensures.text ∙ ap (λ (x : Checked). text_of x.members) c.checked.view_is in
    let hash : c.digest-hash.result ≡ hash_of g.H.Digester.digest_of c.in-Some.checked = c.digest-hash.ensures ∙ ap g.H.Digester.digest_of (c.as_slice.ensures ∙ text) in
    let apart : collision_with c.digest-hash.result (text_of c.in-Some.checked.members) (entry_under c.digest-hash.result (drafted (boxed c.args.stored.now) c.loop-checked.draft)) ≡ None =
    sym (ap (λ x. collision_with c.digest-hash.result x (entry_under c.digest-hash.result (drafted (boxed c.args.stored.now) c.loop-checked.draft))) text) ∙ c.in_ok-add_checked.ensures.apart in
    drafting_step g.H.Digester.digest_of (boxed c.args.stored.now) c.args.new.items (into_iter_items c.loop-checked.checked-iterator) (into_iter_items c.next.new.self) c.loop-checked.draft c.add_checked.new.self
    c.in-Some.checked c.digest-hash.result c.loop-checked.invariant c.in-Some.ensures.steps.0 hash c.in_ok-add_checked.ensures.draft c.in_ok-add_checked.ensures.added apart
