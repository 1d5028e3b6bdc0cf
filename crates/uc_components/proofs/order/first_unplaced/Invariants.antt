use Rattle.std.proofs.Common.{◌≡◌, ℕ, ◌<◌, ◌≤◌, length, get_or, true}
use Rattle.uc_components.specs.Searched.{flag}
use Rattle.uc_components.proofs.order.first_unplaced.Given as goal

abbrev pub invariant-loop-at : goal.invariant-loop-at
invariant-loop-at l = (k : ℕ) → l.from ≤ k → k < l.at → k < length l.references → flag l.placed (get_or l.references k 0) ≡ true
