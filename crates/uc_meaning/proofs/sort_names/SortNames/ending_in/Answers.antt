use Rattle.std.proofs.Common.{◌≡◌, [], ◌++◌, sym, ap, ◌∙◌, subst}
use Rattle.std.specs.Result.{IfOk}
use Rattle.uc_meaning.specs.Candidates.{ends_in, ending_in}
use Rattle.uc_meaning.specs.Entries.{entries_over, head_entries}
use Rattle.uc_meaning.specs.EntryViews.{entries_of}
use Rattle.uc_meaning.proofs.Names.{in_order_head, in_order_filtered, over_append, over_nothing, filter_over}
use Rattle.uc_meaning.proofs.sort_names.SortNames.ending_in.Goals as goal

pub returns : goal.returns
returns g c =
    let own = c.self.inside.own in
    let pairs = g.N.Names.pairs c.self.inside.names.now c.self.inside.sort in
    let head = head_entries pairs in
    let w = c.args.text.now in
    let order = in_order_head pairs (g.N.Names.in_order c.self.inside.names.now c.self.inside.sort) in
    let found : entries_of c.head_ending_in.new.found.items ≡ ending_in own w ++ ending_in head w =
    c.in_ok-head_ending_in.ensures ∙ ap (λ l. l ++ ending_in head w) (c.in_ok-add_ending_in.ensures ∙ ap (λ l. entries_of l ++ ending_in own w) c.new-found.ensures.items) in
    subst (λ l. IfOk c.from_names.result (λ entries. entries ≡ l))
    (ap (λ l. entries_over l []) found ∙ over_append (ending_in own w) (ending_in head w) []
    ∙ ap (entries_over (ending_in own w)) (over_nothing (ending_in head w) (in_order_filtered (λ e. ends_in w e.0) head order))
    ∙ sym (filter_over (ends_in w) own head order) ∙ ap (λ s. ending_in s.entries w) c.self.view_is)
    c.from_names.ensures
