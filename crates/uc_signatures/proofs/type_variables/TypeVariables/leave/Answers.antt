use Rattle.std.proofs.Common.{ap, ◌∙◌}
use Rattle.std.specs.Prelude.{drop}
use Rattle.uc_signatures.proofs.AllNamed.{drop_next}
use Rattle.uc_signatures.proofs.type_variables.TypeVariables.leave.Goals as goal

pub loop-preserved : goal.loop-preserved
loop-preserved c = c.pop.ensures ∙ ap (drop 1) c.loop.invariant ∙ drop_next c.loop.counter c.args.self.now
