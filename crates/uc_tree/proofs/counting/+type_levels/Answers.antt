use Rattle.std.proofs.Common.{arith, refl, List}
use Rattle.uc_tree.specs.Types.{Ty, tys_of}
use Rattle.uc_tree.specs.Counts.{tys_levels}
use Rattle.uc_tree.proofs.Ends.{deepest}
use Rattle.uc_tree.proofs.counting.+type_levels.Goals as goal

pub types_levels-returns : goal.types_levels-returns
types_levels-returns t c = deepest (λ (ts : List Ty). tys_levels (tys_of ts)) c.args.ts.now c.loop-t.t-index c.loop-t.levels _ refl c.loop-t-test.false (omega (arith, c.loop-t.invariant.0)) c.loop-t.invariant.1
