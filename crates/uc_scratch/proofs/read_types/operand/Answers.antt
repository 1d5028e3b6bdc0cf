use Rattle.std.proofs.Common.{rules}
use Rattle.uc_scratch.proofs.TypeSteps.{some_operand}
use Rattle.uc_scratch.proofs.read_types.operand.Goals as goal

pub returns-else-is_empty : goal.returns-else-is_empty
returns-else-is_empty c = some_operand _ c.args.atoms.items (search rules)
