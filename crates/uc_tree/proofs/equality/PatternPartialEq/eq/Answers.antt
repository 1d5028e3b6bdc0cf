use Rattle.uc_tree.specs.PatternCodes.{coded_pattern}
use Rattle.uc_tree.specs.Same.{same_code_from}
use Rattle.uc_tree.proofs.equality.PatternPartialEq.eq.Goals as goal

pub returns : goal.returns
returns c = same_code_from coded_pattern c.args.self.now c.args.other.now c.same_pattern.result c.same_pattern.ensures.0 c.same_pattern.ensures.1
