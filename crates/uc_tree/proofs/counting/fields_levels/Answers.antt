use Rattle.std.proofs.Common.{arith, refl}
use Rattle.uc_tree.specs.Declarations.{fields_of}
use Rattle.uc_tree.specs.Counts.{fields_levels}
use Rattle.uc_tree.proofs.Ends.{deepest}
use Rattle.uc_tree.proofs.counting.fields_levels.Goals as goal

pub returns : goal.returns
returns c = deepest (λ cs. fields_levels (fields_of cs)) c.args.ctors.now c.loop-fields.fields-index c.loop-fields.levels _ refl c.loop-fields-test.false (omega (arith, c.loop-fields.invariant.0)) c.loop-fields.invariant.1
