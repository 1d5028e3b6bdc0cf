use Rattle.std.proofs.Common.{◌≡◌, ℕ, [], length, get_or}
use Rattle.uc_components.specs.Rows.{lists}
use Rattle.uc_components.proofs.rows.empty_rows.Given as goal

abbrev pub invariant-loop : goal.invariant-loop
invariant-loop g l = record { len : length (lists l.rows) ≡ l.counter; empty : (at : ℕ) → get_or (lists l.rows) at [] ≡ [] }
