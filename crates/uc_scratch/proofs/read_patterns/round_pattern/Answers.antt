use Rattle.std.proofs.Common.{rules}
use Rattle.uc_scratch.proofs.PatternSteps.{not_one_pattern}
use Rattle.uc_scratch.proofs.read_patterns.round_pattern.Goals as goal

pub returns-else-len-eq1 : goal.returns-else-len-eq1
returns-else-len-eq1 c = not_one_pattern _ c.args.patterns.items (search rules)
