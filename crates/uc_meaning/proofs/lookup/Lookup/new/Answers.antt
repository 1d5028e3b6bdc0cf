use Rattle.std.proofs.Common.{◌≡◌, List, ap, ◌∙◌}
use Rattle.uc_scratch.specs.FileViews.{items_of}
use Rattle.uc_base.specs.declared.place.Sort.TheVariants.{Kind, Term}
use Rattle.uc_meaning.specs.Entries.{Entry, entries_over, head_entries}
use Rattle.uc_meaning.specs.FileNames.{kind_entries, term_entries}
use Rattle.uc_meaning.proofs.Names.{over_over}
use Rattle.uc_meaning.proofs.lookup.Lookup.new.Goals as goal

pub returns : goal.returns
returns g c =
    let kinds : List Entry = head_entries (g.N.Names.pairs c.args.stored.now Kind) in
    let terms : List Entry = head_entries (g.N.Names.pairs c.args.stored.now Term) in
    let items : items_of c.deref.result.now ≡ c.args.file.now = ap items_of c.deref.ensures.value ∙ c.file.view_is in
    let again : items_of c.deref-2.result.now ≡ c.args.file.now = ap items_of c.deref-2.ensures.value ∙ c.file.view_is in
    let k : c.in_ok-kinds.kinds.entries ≡ entries_over (kind_entries 0 c.args.file.now) kinds =
    c.in_ok-kinds.ensures.entries ∙ ap (λ own. entries_over own kinds) c.in_ok-own.ensures ∙ over_over (kind_entries 0 (items_of c.deref.result.now)) kinds
    ∙ ap (λ is. entries_over (kind_entries 0 is) kinds) items in
    let t : c.in_ok-terms.terms.entries ≡ entries_over (term_entries 0 0 c.args.file.now) terms =
    c.in_ok-terms.ensures.entries ∙ ap (λ own. entries_over own terms) c.in_ok-own-2.ensures ∙ over_over (term_entries 0 0 (items_of c.deref-2.result.now)) terms
    ∙ ap (λ is. entries_over (term_entries 0 0 is) terms) again in
    λ i. record { kinds = k i; terms = t i; hashes = g.N.Names.hashes c.args.stored.now; holds = g.N.Names.is_held c.args.stored.now }
