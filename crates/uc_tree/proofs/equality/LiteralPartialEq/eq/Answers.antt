use Rattle.uc_tree.specs.Literals.{coded_literal}
use Rattle.uc_tree.specs.Same.{same_code_from}
use Rattle.uc_tree.proofs.equality.LiteralPartialEq.eq.Goals as goal

pub returns : goal.returns
returns c = same_code_from coded_literal c.args.self.now c.args.other.now c.same_literal.result c.same_literal.ensures.0 c.same_literal.ensures.1
