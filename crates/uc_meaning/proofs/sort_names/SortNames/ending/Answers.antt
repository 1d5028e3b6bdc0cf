use Rattle.std.proofs.Common.{ap, ◌∙◌}
use Rattle.uc_meaning.specs.Entries.{entries_over, head_entries}
use Rattle.uc_meaning.specs.SortNames.{ending_among}
use Rattle.uc_meaning.proofs.SuffixSteps.{found_among}
use Rattle.uc_meaning.proofs.sort_names.SortNames.ending.Goals as goal

pub returns : goal.returns
returns g c =
    c.get.ensures
    ∙ found_among c.args.text.now (entries_over c.self.inside.own (head_entries (g.N.Names.pairs c.self.inside.names.now c.self.inside.sort))) c.self.inside.suffixes c.self.invariant.endings
    ∙ ap (λ s. ending_among s c.args.text.now) c.self.view_is
