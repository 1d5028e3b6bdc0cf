use Rattle.std.proofs.Common.{sym, ap, ◌∙◌}
use Rattle.uc_meaning.specs.Entries.{entries_over}
use Rattle.uc_meaning.specs.EntryViews.{entries_of}
use Rattle.uc_meaning.proofs.EntrySteps.{last_placed}
use Rattle.uc_meaning.proofs.entries.Entries.from_names.Goals as goal

pub loop-name-preserved : goal.loop-name-preserved
loop-name-preserved c =
    ap (entries_over (entries_of c.pop.new.self.items)) c.in_ok-put.ensures
    ∙ sym (last_placed c.pop.new.self.items (c.in-Some.name, c.in-Some.target) c.loop-name.entries)
    ∙ ap (λ l. entries_over (entries_of l) c.loop-name.entries) (sym c.in-Some.ensures.items) ∙ c.loop-name.invariant
