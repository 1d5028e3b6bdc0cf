use Rattle.std.proofs.Common.{◌≤◌, ◌-◌, length}
use Rattle.uc_context.proofs.FreshNumbers.{Taken}
use Rattle.uc_context.proofs.context.Context.fresh_numbers.Given as goal

abbrev pub invariant-loop-self : goal.invariant-loop-self
invariant-loop-self l = (length l.numbers.items ≤ l.count) × Taken l.self l.numbers.items l.next

abbrev pub decreases-loop-self : goal.decreases-loop-self
decreases-loop-self l = l.count - length l.numbers.items
