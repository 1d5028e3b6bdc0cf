use Rattle.uc_tree.specs.Items.{coded_item}
use Rattle.uc_tree.specs.Same.{same_code_from}
use Rattle.uc_tree.proofs.equality.ItemPartialEq.eq.Goals as goal

pub returns : goal.returns
returns c = same_code_from coded_item c.args.self.now c.args.other.now c.same_item.result c.same_item.ensures.0 c.same_item.ensures.1
