use Rattle.std.proofs.Common.{◌≡◌, ◌<◌, ◌+◌, ◌-◌, ◌^◌, min, drop}
use Rattle.uc_tree.specs.Types.{ty_size, tys_size, tys_of}
use Rattle.uc_tree.specs.Counts.{tys_node_count}
use Rattle.uc_tree.proofs.counting.+type_nodes.Given as goal

abbrev pub decreases-type_nodes : goal.decreases-type_nodes
decreases-type_nodes l = ty_size l.of.now

abbrev pub decreases-nodes_of_types : goal.decreases-nodes_of_types
decreases-nodes_of_types l = tys_size (tys_of l.ts.now)

abbrev pub invariant-nodes_of_types-loop-t : goal.invariant-nodes_of_types-loop-t
invariant-nodes_of_types-loop-t l = (l.nodes < 2 ^ 64) × (min (l.nodes + tys_node_count (tys_of (drop l.t-index l.ts))) (2 ^ 64 - 1) ≡ min (tys_node_count (tys_of l.ts)) (2 ^ 64 - 1))
