use Rattle.std.proofs.Common.{◌≡◌, ◌≤◌, ◌++◌, length, drop}
use Rattle.uc_layout.specs.Tokens.{seen}
use Rattle.uc_layout.specs.Text.{joined}
use Rattle.uc_layout.proofs.role.join.Given as goal

abbrev pub invariant-marks : goal.invariant-marks
invariant-marks l = record {
  joined : l.blocks ++ joined l.rest (drop l.count (seen l.tokens)) l.end ≡ joined l.marks (seen l.tokens) l.end;
  within : l.count ≤ length l.tokens;
}

abbrev pub decreases-marks : goal.decreases-marks
decreases-marks l = length l.rest
