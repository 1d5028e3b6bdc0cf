use Rattle.std.proofs.Common.{◌≡◌, List, [], ◌++◌, refl, sym, ap, ◌∙◌, subst, append-nil}
use Rattle.std.specs.Result.{IfOk}
use Rattle.std.specs.List.{filter}
use Rattle.uc_meaning.specs.Entries.{Entry, IsInOrder, entries_over}
use Rattle.uc_meaning.specs.EntryViews.{entries_of}
use Rattle.uc_meaning.specs.Meanings.{is_constructor}
use Rattle.uc_meaning.proofs.Names.{in_order_filtered, over_nothing}
use Rattle.uc_meaning.proofs.EntrySteps.{in_order_view}
use Rattle.uc_meaning.proofs.entries.Entries.constructors.Goals as goal

pub returns : goal.returns
returns c =
    let kept : List Entry → List Entry = filter (λ e. is_constructor e.1) in
    let found : entries_of c.loop-name.found.items ≡ kept c.args.self.now =
    sym (append-nil (entries_of c.loop-name.found.items)) ∙ ap (λ l. entries_of c.loop-name.found.items ++ kept (entries_of l)) (sym c.in-None.ensures.steps.0) ∙ c.loop-name.invariant in
    let ordered : IsInOrder c.args.self.now = subst IsInOrder c.self.view_is (in_order_view _ (λ v w. refl) c.self.inside.targets.entries c.iter-name-items.ensures.ordered) in
    subst (λ l. IfOk c.from_names.result (λ x. x ≡ l))
    (ap (λ l. entries_over l []) found ∙ over_nothing (kept c.args.self.now) (in_order_filtered (λ e. is_constructor e.1) c.args.self.now ordered)) c.from_names.ensures
