use Rattle.std.proofs.Common.{◌<◌, ◌≤◌, ◌-◌, ℕ, length}
use Rattle.uc_context.specs.Numbers.{uses_at}
use Rattle.uc_context.proofs.numbers.Numbers.next_unused.Given as goal

abbrev pub invariant-loop-next : goal.invariant-loop-next
invariant-loop-next l = (l.from ≤ l.next) × ((m : ℕ) → l.from ≤ m → m < l.next → 0 < uses_at l.self m)

abbrev pub decreases-loop-next : goal.decreases-loop-next
decreases-loop-next l = length l.self - l.next
