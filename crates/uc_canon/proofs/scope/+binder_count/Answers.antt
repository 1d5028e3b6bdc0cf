use Rattle.std.proofs.Common.{arith, refl, List}
use Rattle.uc_tree.specs.Bound as bound
use Rattle.uc_tree.specs.Patterns.{Pattern, patterns_of}
use Rattle.uc_tree.proofs.Ends.{in_all}
use Rattle.uc_canon.proofs.scope.+binder_count.Goals as goal

pub binders_count-returns : goal.binders_count-returns
binders_count-returns t c = in_all (λ (ps : List Pattern). bound.binders_count (patterns_of ps)) c.args.patterns.now c.loop-pattern.pattern-index c.loop-pattern.count _ refl c.loop-pattern-test.false (omega (arith, c.loop-pattern.invariant.0)) c.loop-pattern.invariant.1
