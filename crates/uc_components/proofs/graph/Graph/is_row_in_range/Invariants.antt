use Rattle.std.proofs.Common.{ℕ, ◌<◌, length, get_or}
use Rattle.uc_base.specs.Graph.{row}
use Rattle.uc_components.proofs.graph.Graph.is_row_in_range.Given as goal

abbrev pub invariant-loop-at : goal.invariant-loop-at
invariant-loop-at l = (k : ℕ) → k < l.at → get_or (row l.self l.vertex) k 0 < length l.self
