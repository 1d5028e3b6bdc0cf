use Rattle.std.proofs.Common.{◌≡◌, ℕ, ◌<◌, length, true}
use Rattle.uc_components.specs.Searched.{state_of, Good, flag}
use Rattle.uc_components.proofs.search.searched.Given as goal

abbrev pub invariant-loop-vertex : goal.invariant-loop-vertex
invariant-loop-vertex l = Good l.graph (state_of l.search) × (length l.search.path.items ≡ 0) × ((v : ℕ) → v < l.vertex → flag l.search.seen.items v ≡ true)
