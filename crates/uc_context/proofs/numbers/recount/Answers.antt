use Rattle.std.proofs.Common.{◌∙◌}
use Rattle.std.proofs.lemmas.List.{map-set}
use Rattle.uc_context.specs.declared.numbers.Tally.{Tally}
use Rattle.uc_context.proofs.numbers.recount.Goals as goal

pub returns-clause-uses : goal.returns-clause-uses
returns-clause-uses c = c.mend.ensures.uses ∙ map-set (λ (t : Tally). t.uses) c.args.tallies.now c.args.at _
