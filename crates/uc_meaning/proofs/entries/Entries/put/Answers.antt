use Rattle.std.proofs.Common.{refl, ap, ◌∙◌}
use Rattle.uc_meaning.specs.Entries.{with_entry}
use Rattle.uc_meaning.proofs.EntrySteps.{inserted}
use Rattle.uc_meaning.specs.EntryViews.{entries_of}
use Rattle.uc_meaning.proofs.entries.Entries.put.Goals as goal

pub returns : goal.returns
returns c =
    ap entries_of c.in_ok-insert.ensures.entries ∙ inserted _ (λ v w. refl) c.self.inside.targets.entries c.args.name c.args.target ∙ ap (with_entry (c.args.name.items, c.args.target)) c.self.view_is
