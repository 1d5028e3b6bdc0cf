use Rattle.std.proofs.Common.{sym, subst}
use Rattle.uc_signatures.specs.PlacedViews.{AllNamed}
use Rattle.uc_signatures.proofs.AllNamed.{left_named}
use Rattle.uc_signatures.proofs.type_variables.TypeVariables.pop.Goals as goal

pub invariant_of-self : goal.invariant_of-self
invariant_of-self c = subst AllNamed (sym c.pop.ensures) (left_named c.self.inside.names c.self.invariant)
