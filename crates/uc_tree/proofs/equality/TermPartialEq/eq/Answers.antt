use Rattle.uc_tree.specs.TermCodes.{coded_term}
use Rattle.uc_tree.specs.Same.{same_code_from}
use Rattle.uc_tree.proofs.equality.TermPartialEq.eq.Goals as goal

pub returns : goal.returns
returns c = same_code_from coded_term c.args.self.now c.args.other.now c.same_term.result c.same_term.ensures.0 c.same_term.ensures.1
