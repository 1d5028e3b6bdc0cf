use Rattle.uc_scratch.proofs.Cuts.{same_blocks}
use Rattle.uc_scratch.proofs.items.blocks_behind.Goals as goal

pub returns-in_default : goal.returns-in_default
returns-in_default c = same_blocks c.args.blocks c.args.kind c.in_default.not-Opens c.in_default.not-Closes
