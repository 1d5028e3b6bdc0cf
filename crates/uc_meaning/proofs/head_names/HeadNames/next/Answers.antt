use Rattle.std.proofs.Common.{sym, ◌∙◌}
use Rattle.std.specs.Option.{option_copied}
use Rattle.uc_meaning.proofs.HeadSteps.{next_step, no_step}
use Rattle.uc_meaning.proofs.head_names.HeadNames.next.Goals as goal

pub returns-in-None-clause-rest : goal.returns-in-None-clause-rest
returns-in-None-clause-rest g c =
    let pairs = g.N.Names.pairs c.self.inside.names.now c.self.inside.sort in sym c.self.view_is ∙ no_step (option_copied c.self.inside.last) pairs c.in-None.ensures

pub returns-in-Some-clause-rest : goal.returns-in-Some-clause-rest
returns-in-Some-clause-rest g c =
    let pairs = g.N.Names.pairs c.self.inside.names.now c.self.inside.sort in
    sym c.self.view_is
    ∙ next_step (option_copied c.self.inside.last) pairs (c.in-Some.name.now, c.in-Some.of.now) (g.N.Names.in_order c.self.inside.names.now c.self.inside.sort) c.in-Some.ensures
