use Rattle.std.proofs.Common.{◌≡◌, ◌-◌, ◌^◌, min, take}
use Rattle.std.specs.Prelude.{sum_by}
use Rattle.uc_tree.specs.Counts.{node_count}
use Rattle.uc_store.proofs.counts.nodes_of.Given as goal

abbrev pub invariant-loop-t : goal.invariant-loop-t
invariant-loop-t l = l.nodes ≡ min (sum_by node_count (take l.t-index l.types)) (2 ^ 64 - 1)
