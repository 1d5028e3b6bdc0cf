use Rattle.std.proofs.Common.{◌≡◌, ◌++◌, length}
use Rattle.uc_layout.specs.Tokens.{seen}
use Rattle.uc_layout.specs.Text.{pieces_of}
use Rattle.uc_layout.proofs.role.pieces.Given as goal

abbrev pub invariant-tokens : goal.invariant-tokens
invariant-tokens l = l.pieces.items ++ pieces_of l.line (seen l.rest) ≡ pieces_of 0 (seen l.tokens)

abbrev pub decreases-tokens : goal.decreases-tokens
decreases-tokens l = length l.rest
