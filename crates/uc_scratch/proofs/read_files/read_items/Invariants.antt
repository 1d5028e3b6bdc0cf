use Rattle.std.proofs.Common.{length}
use Rattle.uc_layout.specs.Tokens.{seen}
use Rattle.uc_scratch.specs.FileViews.{items_of}
use Rattle.uc_scratch.proofs.FileSteps.{Left}
use Rattle.uc_scratch.proofs.read_files.read_items.Given as goal

abbrev pub invariant-items : goal.invariant-items
invariant-items l = Left (seen l.tokens) (items_of l.items.items) (seen l.rest)

abbrev pub decreases-items : goal.decreases-items
decreases-items l = length l.rest
