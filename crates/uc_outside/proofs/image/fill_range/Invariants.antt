use Rattle.std.proofs.Common.{◌≡◌, ℕ, ◌+◌, ◌≤◌}
use Rattle.uc_outside.proofs.Filled.{IsFilled}
use Rattle.uc_outside.proofs.image.fill_range.Given as goal

-- so many bytes of the range are filled
abbrev pub invariant-loop-i : goal.invariant-loop-i
invariant-loop-i l = (n : ℕ) × (l.at + n ≡ l.i) × (n ≤ l.len) × IsFilled l.fill l.at n l.fn.image l.image
