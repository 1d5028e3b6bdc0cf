use Rattle.std.proofs.Common.{rules, arith, length, ap}
use Rattle.uc_tree.specs.Patterns.{patterns_of}
use Rattle.uc_tree.proofs.Lists.{same_on, same_at, same_whole, patterns_of-injective}
use Rattle.uc_tree.proofs.equality.+same_pattern.Goals as goal

pub same_patterns-returns-then-ps-qs : goal.same_patterns-returns-then-ps-qs
same_patterns-returns-then-ps-qs t c =
    (λ h. search rules, λ e. absurd (c.if-ps-qs.true (ap length (patterns_of-injective c.args.ps.now c.args.qs.now e))))

pub same_patterns-loop-i-preserved : goal.same_patterns-loop-i-preserved
same_patterns-loop-i-preserved t c =
    same_on c.args.ps.now c.args.qs.now c.loop-i.i c.index-ps-i.result c.index-qs-i.result c.loop-i-test.true (omega (arith, c.loop-i-test.true, c.if-ps-qs.false)) c.index-ps-i.is c.index-qs-i.is
    (c.same_pattern.ensures.0 (search rules)) c.loop-i.invariant

pub same_patterns-returns-then-not-same_pattern : goal.same_patterns-returns-then-not-same_pattern
same_patterns-returns-then-not-same_pattern t c = (
  λ h. search rules,
  λ e.
      let h = c.same_pattern.ensures.1 (same_at c.args.ps.now c.args.qs.now c.loop-i.i c.index-ps-i.result c.index-qs-i.result c.loop-i-test.true c.index-ps-i.is c.index-qs-i.is (patterns_of-injective c.args.ps.now c.args.qs.now e)) in
      search rules,
)

pub same_patterns-returns : goal.same_patterns-returns
same_patterns-returns t c =
    (λ h. ap patterns_of (same_whole c.args.ps.now c.args.qs.now c.loop-i.i c.if-ps-qs.false (omega (arith, c.loop-i-test.false)) c.loop-i.invariant), λ e. search rules)
