use Rattle.std.proofs.Common.{arith, refl, List}
use Rattle.uc_context.specs.Opens.{Open, opens_of}
use Rattle.uc_context.specs.Counts.{levels_of_opens}
use Rattle.uc_tree.proofs.Ends.{deepest}
use Rattle.uc_context.proofs.counting.+open_levels.Goals as goal

pub opens_levels-returns : goal.opens_levels-returns
opens_levels-returns t c = deepest (λ (ts : List Open). levels_of_opens (opens_of ts)) c.args.ts.now c.loop-t.t-index c.loop-t.levels _ refl c.loop-t-test.false (omega (arith, c.loop-t.invariant.0)) c.loop-t.invariant.1
