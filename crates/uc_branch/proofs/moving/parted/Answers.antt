use Rattle.uc_branch.proofs.Renaming.{sorted_renamed}
use Rattle.uc_branch.proofs.moving.parted.Goals as goal

pub from_vec-requires : goal.from_vec-requires
from_vec-requires c = rw (c.in_ok-renamed.ensures.ok, c.as_slice.ensures.value) (sorted_renamed c.args.from.now c.args.to.now c.args.pairs.now c.as_slice.ensures.in_order)
