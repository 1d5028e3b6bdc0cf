use Rattle.uc_tree.specs.Items.{coded_definition}
use Rattle.uc_tree.specs.Same.{same_code_from}
use Rattle.uc_tree.proofs.equality.DefinitionPartialEq.eq.Goals as goal

pub returns : goal.returns
returns c = same_code_from coded_definition c.args.self.now c.args.other.now c.same_definition.result c.same_definition.ensures.0 c.same_definition.ensures.1
