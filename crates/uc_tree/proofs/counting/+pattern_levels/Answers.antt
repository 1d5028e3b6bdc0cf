use Rattle.std.proofs.Common.{arith, refl, List}
use Rattle.uc_tree.specs.Patterns.{Pattern, patterns_of}
use Rattle.uc_tree.specs.Counts.{patterns_levels}
use Rattle.uc_tree.proofs.Ends.{deepest}
use Rattle.uc_tree.proofs.counting.+pattern_levels.Goals as goal

pub patterns_levels-returns : goal.patterns_levels-returns
patterns_levels-returns t c = deepest (λ (ps : List Pattern). patterns_levels (patterns_of ps)) c.args.ps.now c.loop-p.p-index c.loop-p.levels _ refl c.loop-p-test.false (omega (arith, c.loop-p.invariant.0)) c.loop-p.invariant.1
