use Rattle.std.proofs.Common.{arith, refl, List}
use Rattle.uc_tree.specs.Types.{Ty, tys_of}
use Rattle.uc_tree.specs.Counts.{tys_node_count}
use Rattle.uc_tree.proofs.Ends.{in_all}
use Rattle.uc_tree.proofs.counting.+type_nodes.Goals as goal

pub nodes_of_types-returns : goal.nodes_of_types-returns
nodes_of_types-returns t c = in_all (λ (ts : List Ty). tys_node_count (tys_of ts)) c.args.ts.now c.loop-t.t-index c.loop-t.nodes _ refl c.loop-t-test.false (omega (arith, c.loop-t.invariant.0)) c.loop-t.invariant.1
