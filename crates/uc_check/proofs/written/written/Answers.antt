use Rattle.std.proofs.Common.{arith}
use Rattle.uc_check.proofs.WrittenNodes.{levels_below}
use Rattle.uc_check.proofs.written.written.Goals as goal

pub written_under-requires : goal.written_under-requires
written_under-requires c = omega (arith, levels_below c.args.ty.now, c.requires)
