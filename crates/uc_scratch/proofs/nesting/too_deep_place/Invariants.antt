use Rattle.std.proofs.Common.{◌≡◌, length}
use Rattle.uc_layout.specs.Tokens.{seen}
use Rattle.uc_scratch.specs.Nesting.{too_deep_from, too_deep_place}
use Rattle.uc_scratch.proofs.nesting.too_deep_place.Given as goal

abbrev pub invariant-tokens : goal.invariant-tokens
invariant-tokens l = too_deep_from l.before l.stack (seen l.rest) ≡ too_deep_place (seen l.tokens)

abbrev pub decreases-tokens : goal.decreases-tokens
decreases-tokens l = length l.rest
