use Rattle.uc_context.specs.OpenCodes.{coded_open}
use Rattle.uc_tree.specs.Same.{same_code_from}
use Rattle.uc_context.proofs.equality.OpenPartialEq.eq.Goals as goal

pub returns : goal.returns
returns c = same_code_from coded_open c.args.self.now c.args.other.now c.same_open.result c.same_open.ensures.0 c.same_open.ensures.1
