use Rattle.std.proofs.Common.{rules, arith, length, ap}
use Rattle.uc_context.specs.Opens.{opens_of}
use Rattle.uc_tree.proofs.Lists.{same_on, same_at, same_whole}
use Rattle.uc_context.proofs.OpenLists.{opens_of-injective}
use Rattle.uc_context.proofs.equality.+same_open.Goals as goal

pub same_opens-returns-then-ts-us : goal.same_opens-returns-then-ts-us
same_opens-returns-then-ts-us t c =
    (λ h. search rules, λ e. absurd (c.if-ts-us.true (ap length (opens_of-injective c.args.ts.now c.args.us.now e))))

pub same_opens-loop-i-preserved : goal.same_opens-loop-i-preserved
same_opens-loop-i-preserved t c =
    same_on c.args.ts.now c.args.us.now c.loop-i.i c.index-ts-i.result c.index-us-i.result c.loop-i-test.true (omega (arith, c.loop-i-test.true, c.if-ts-us.false)) c.index-ts-i.is c.index-us-i.is
    (c.same_open.ensures.0 (search rules)) c.loop-i.invariant

pub same_opens-returns-then-not-same_open : goal.same_opens-returns-then-not-same_open
same_opens-returns-then-not-same_open t c = (
  λ h. search rules,
  λ e.
      let h = c.same_open.ensures.1 (same_at c.args.ts.now c.args.us.now c.loop-i.i c.index-ts-i.result c.index-us-i.result c.loop-i-test.true c.index-ts-i.is c.index-us-i.is (opens_of-injective c.args.ts.now c.args.us.now e)) in
      search rules,
)

pub same_opens-returns : goal.same_opens-returns
same_opens-returns t c =
    (λ h. ap opens_of (same_whole c.args.ts.now c.args.us.now c.loop-i.i c.if-ts-us.false (omega (arith, c.loop-i-test.false)) c.loop-i.invariant), λ e. search rules)
