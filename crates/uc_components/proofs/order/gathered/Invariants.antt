use Rattle.uc_components.specs.Rows.{lists}
use Rattle.uc_components.proofs.Members.{IsGathered}
use Rattle.uc_components.proofs.order.gathered.Given as goal

abbrev pub invariant-loop-vertex : goal.invariant-loop-vertex
invariant-loop-vertex l = IsGathered l.home l.count l.vertex (lists l.parts)
