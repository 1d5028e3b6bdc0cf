use Rattle.std.proofs.Common.{rules}
use Rattle.uc_scratch.proofs.TypeSteps.{not_one_type}
use Rattle.uc_scratch.proofs.read_types.round_type.Goals as goal

pub returns-else-len-eq1 : goal.returns-else-len-eq1
returns-else-len-eq1 c = not_one_type _ c.args.types.items (search rules)
