use Rattle.std.proofs.Common.{arith, refl, List}
use Rattle.uc_context.specs.Opens.{Open, opens_of}
use Rattle.uc_context.specs.Counts.{opens_node_count}
use Rattle.uc_tree.proofs.Ends.{in_all}
use Rattle.uc_context.proofs.counting.+open_nodes.Goals as goal

pub nodes_of_opens-returns : goal.nodes_of_opens-returns
nodes_of_opens-returns t c = in_all (λ (ts : List Open). opens_node_count (opens_of ts)) c.args.ts.now c.loop-t.t-index c.loop-t.nodes _ refl c.loop-t-test.false (omega (arith, c.loop-t.invariant.0)) c.loop-t.invariant.1
