use Rattle.uc_tree.proofs.ClosedAgain.{always_replaced}
use Rattle.uc_tree.proofs.replacing.with_own.Goals as goal

pub unwrap-requires : goal.unwrap-requires
unwrap-requires c = rw c.in_ok-found.ensures.item (always_replaced c.in_ok-numbering.numbering c.args.item.now)
