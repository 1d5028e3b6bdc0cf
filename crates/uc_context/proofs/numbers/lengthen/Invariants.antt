use Rattle.std.proofs.Common.{◌≡◌, ◌≤◌, ◌<◌, ℕ, max, vec_len}
use Rattle.uc_context.specs.Numbers.{tally_at}
use Rattle.uc_context.proofs.numbers.lengthen.Given as goal

abbrev pub invariant-loop-next : goal.invariant-loop-next
invariant-loop-next l = ((x : ℕ) → tally_at l.tallies.items x ≡ tally_at l.fn.tallies.items x) × (vec_len l.fn.tallies ≤ vec_len l.tallies) × (vec_len l.tallies ≤ max (vec_len l.fn.tallies) l.up_to) × (l.up_to ≤ l.next → l.up_to ≤ vec_len l.tallies) × (l.next < l.up_to → vec_len l.tallies ≡ l.next)
