use Rattle.std.proofs.Common.{rules, arith, length, ap}
use Rattle.uc_tree.specs.Types.{tys_of}
use Rattle.uc_tree.proofs.Lists.{same_on, same_at, same_whole, tys_of-injective}
use Rattle.uc_tree.proofs.equality.+same_type.Goals as goal

pub same_types-returns-then-ts-us : goal.same_types-returns-then-ts-us
same_types-returns-then-ts-us t c =
    (λ h. search rules, λ e. absurd (c.if-ts-us.true (ap length (tys_of-injective c.args.ts.now c.args.us.now e))))

pub same_types-loop-i-preserved : goal.same_types-loop-i-preserved
same_types-loop-i-preserved t c =
    same_on c.args.ts.now c.args.us.now c.loop-i.i c.index-ts-i.result c.index-us-i.result c.loop-i-test.true (omega (arith, c.loop-i-test.true, c.if-ts-us.false)) c.index-ts-i.is c.index-us-i.is
    (c.same_type.ensures.0 (search rules)) c.loop-i.invariant

pub same_types-returns-then-not-same_type : goal.same_types-returns-then-not-same_type
same_types-returns-then-not-same_type t c = (
  λ h. search rules,
  λ e.
      let h = c.same_type.ensures.1 (same_at c.args.ts.now c.args.us.now c.loop-i.i c.index-ts-i.result c.index-us-i.result c.loop-i-test.true c.index-ts-i.is c.index-us-i.is (tys_of-injective c.args.ts.now c.args.us.now e)) in
      search rules,
)

pub same_types-returns : goal.same_types-returns
same_types-returns t c =
    (λ h. ap tys_of (same_whole c.args.ts.now c.args.us.now c.loop-i.i c.if-ts-us.false (omega (arith, c.loop-i-test.false)) c.loop-i.invariant), λ e. search rules)
