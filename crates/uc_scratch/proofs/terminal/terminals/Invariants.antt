use Rattle.std.proofs.Common.{◌≡◌, ◌++◌, length}
use Rattle.uc_layout.specs.Tokens.{seen}
use Rattle.uc_scratch.specs.Terminals.{terminals_of}
use Rattle.uc_scratch.proofs.terminal.terminals.Given as goal

abbrev pub invariant-tokens : goal.invariant-tokens
invariant-tokens l = l.terminals.items ++ terminals_of (seen l.rest) ≡ terminals_of (seen l.tokens)

abbrev pub decreases-tokens : goal.decreases-tokens
decreases-tokens l = length l.rest
