use Rattle.uc_tree.specs.TypeCodes.{coded_ty}
use Rattle.uc_tree.specs.Same.{same_code_from}
use Rattle.uc_tree.proofs.equality.TyPartialEq.eq.Goals as goal

pub returns : goal.returns
returns c = same_code_from coded_ty c.args.self.now c.args.other.now c.same_type.result c.same_type.ensures.0 c.same_type.ensures.1
