use Rattle.std.proofs.Common.{◌≡◌, ◌<◌, ◌+◌, ◌-◌, ◌^◌, min, drop}
use Rattle.uc_context.specs.Opens.{open_size, opens_size, opens_of}
use Rattle.uc_context.specs.Counts.{opens_node_count}
use Rattle.uc_context.proofs.counting.+open_nodes.Given as goal

abbrev pub decreases-open_nodes : goal.decreases-open_nodes
decreases-open_nodes l = open_size l.of.now

abbrev pub decreases-nodes_of_opens : goal.decreases-nodes_of_opens
decreases-nodes_of_opens l = opens_size (opens_of l.ts.now)

abbrev pub invariant-nodes_of_opens-loop-t : goal.invariant-nodes_of_opens-loop-t
invariant-nodes_of_opens-loop-t l = (l.nodes < 2 ^ 64) × (min (l.nodes + opens_node_count (opens_of (drop l.t-index l.ts))) (2 ^ 64 - 1) ≡ min (opens_node_count (opens_of l.ts)) (2 ^ 64 - 1))
