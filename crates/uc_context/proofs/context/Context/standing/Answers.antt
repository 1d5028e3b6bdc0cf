use Rattle.std.proofs.Common.{arith}
use Rattle.uc_context.specs.Entries.{is_variable}
use Rattle.uc_context.proofs.Looked.{noted_within}
use Rattle.uc_context.proofs.context.Context.standing.Goals as goal

pub index-requires : goal.index-requires
index-requires c = omega (arith, noted_within is_variable c.args.x c.self.inside.entries.items c.self.inside.index.variables c.get.result c.in-Some.place c.self.invariant.indexed.variables c.get.ensures c.in-Some.is)
