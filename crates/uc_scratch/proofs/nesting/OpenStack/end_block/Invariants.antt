use Rattle.std.proofs.Common.{◌≡◌, length}
use Rattle.uc_scratch.specs.Nesting.{behind_block}
use Rattle.uc_scratch.proofs.nesting.OpenStack.end_block.Given as goal

abbrev pub invariant-brackets : goal.invariant-brackets
invariant-brackets l = behind_block l.self ≡ behind_block l.initial.self

abbrev pub decreases-brackets : goal.decreases-brackets
decreases-brackets l = length l.self
