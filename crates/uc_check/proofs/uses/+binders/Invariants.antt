use Rattle.std.proofs.Common.{◌≡◌, ◌+◌, drop}
use Rattle.uc_kinds.specs.Typing.{binders_among}
use Rattle.uc_tree.specs.Patterns.{patterns_of, pattern_size, patterns_size}
use Rattle.uc_check.proofs.uses.+binders.Given as goal

abbrev pub decreases-binders_in : goal.decreases-binders_in
decreases-binders_in l = pattern_size l.pattern.now

abbrev pub decreases-binders_among : goal.decreases-binders_among
decreases-binders_among l = patterns_size (patterns_of l.patterns.now)

abbrev pub invariant-binders_among-loop-pattern : goal.invariant-binders_among-loop-pattern
invariant-binders_among-loop-pattern l = l.count + binders_among (patterns_of (drop l.pattern-index l.patterns)) ≡ binders_among (patterns_of l.patterns)
