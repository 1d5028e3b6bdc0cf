use Rattle.std.proofs.Common.{reverse}
use Rattle.uc_patterns.proofs.Reversed.{left_variables}
use Rattle.uc_patterns.proofs.sight.Sight.leave.Goals as goal

pub returns : goal.returns
returns c = left_variables c.truncate.new.self.items c.self.inside.variables.items (reverse c.self.inside.seen.items) c.args.self.now c.args.depth c.truncate.ensures.items c.self.view_is c.requires
