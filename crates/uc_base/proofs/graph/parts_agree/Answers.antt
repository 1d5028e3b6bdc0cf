use Rattle.uc_base.proofs.GraphParts.{agrees}
use Rattle.uc_base.proofs.graph.parts_agree.Goals as goal

pub returns : goal.returns
returns c = agrees
