use Rattle.uc_base.proofs.GraphOrder.{unique}
use Rattle.uc_base.proofs.graph.component_order_is_unique.Goals as goal

pub returns : goal.returns
returns c = unique
