use Rattle.std.proofs.Common.{◌≡◌, ◌<◌, ◌+◌, ◌-◌, ◌^◌, min, drop}
use Rattle.uc_tree.specs.Bound as bound
use Rattle.uc_tree.specs.Patterns.{pattern_size, patterns_size, patterns_of}
use Rattle.uc_canon.proofs.scope.+binder_count.Given as goal

abbrev pub decreases-binder_count : goal.decreases-binder_count
decreases-binder_count l = pattern_size l.pattern.now

abbrev pub decreases-binders_count : goal.decreases-binders_count
decreases-binders_count l = patterns_size (patterns_of l.patterns.now)

abbrev pub invariant-binders_count-loop-pattern : goal.invariant-binders_count-loop-pattern
invariant-binders_count-loop-pattern l =
    (l.count < 2 ^ 64) × (min (l.count + bound.binders_count (patterns_of (drop l.pattern-index l.patterns))) (2 ^ 64 - 1) ≡ min (bound.binders_count (patterns_of l.patterns)) (2 ^ 64 - 1))
