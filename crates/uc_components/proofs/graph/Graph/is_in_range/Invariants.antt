use Rattle.std.proofs.Common.{ℕ, ◌<◌, length}
use Rattle.uc_base.specs.Graph.{Edge}
use Rattle.uc_components.proofs.graph.Graph.is_in_range.Given as goal

abbrev pub invariant-loop-vertex : goal.invariant-loop-vertex
invariant-loop-vertex l = (u v : ℕ) → u < l.vertex → Edge l.self u v → v < length l.self
