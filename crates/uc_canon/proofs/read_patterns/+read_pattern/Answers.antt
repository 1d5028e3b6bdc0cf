use Rattle.std.proofs.Common.{refl}
use Rattle.std.proofs.lemmas.Result.{err_from_is_err_and}
use Rattle.uc_canon.specs.ReadingPatterns.{pattern_at, constructor_pattern_at}
use Rattle.uc_canon.proofs.ReadLoops.{goes_on, fails}
use Rattle.uc_canon.proofs.read_patterns.+read_pattern.Goals as goal

pub read_each_pattern-returns-in_err-pattern : goal.read_each_pattern-returns-in_err-pattern
read_each_pattern-returns-in_err-pattern t c =
    let p = err_from_is_err_and c.from_residual.result c.from_residual.ensures.1 in
    rw (p.1, p.2) (fails (pattern_at c.args.levels) c.in_err-pattern.field-0.0 _ c.args.count c.loop.counter c.loop.rest.now _ c.loop-test.true c.in_err-pattern.ensures c.loop.invariant)

pub read_each_pattern-loop-preserved : goal.read_each_pattern-loop-preserved
read_each_pattern-loop-preserved t c =
    rw c.in_ok-push.ensures.items (goes_on (pattern_at c.args.levels) c.loop.patterns.items c.args.count c.loop.counter c.loop.rest.now c.in_ok-pattern.pattern c.in_ok-pattern.after.now _ c.loop-test.true c.in_ok-pattern.ensures c.loop.invariant)

pub read_constructor_pattern-returns : goal.read_constructor_pattern-returns
unfolding constructor_pattern_at
read_constructor_pattern-returns t c = rw (c.in_ok-head.ensures, c.in_ok-fields.ensures, c.constructor.ensures) refl
