use Rattle.uc_tree.specs.Declarations.{coded_decl}
use Rattle.uc_tree.specs.Same.{same_code_from}
use Rattle.uc_tree.proofs.equality.DeclPartialEq.eq.Goals as goal

pub returns : goal.returns
returns c = same_code_from coded_decl c.args.self.now c.args.other.now c.same_declaration.result c.same_declaration.ensures.0 c.same_declaration.ensures.1
