use Rattle.std.proofs.Common.{◌+◌, ◌*◌}
use Rattle.uc_context.specs.Opens.{opens_of}
use Rattle.uc_subtyping.proofs.SubtypeArms.{opens_left}
use Rattle.uc_tree.specs.Patterns.{patterns_of, pattern_size, patterns_size}
use Rattle.uc_patterns.proofs.Steps.{PendingPatterns, patterns_left}
use Rattle.uc_patterns.proofs.matching.+patterns.Given as goal

abbrev pub decreases-match_pattern : goal.decreases-match_pattern
decreases-match_pattern g l = 3 * pattern_size l.pattern.now

abbrev pub decreases-match_tuple : goal.decreases-match_tuple
decreases-match_tuple g l = 3 * patterns_size (patterns_of l.parts.now) + 2

abbrev pub decreases-match_list : goal.decreases-match_list
decreases-match_list g l = 3 * patterns_size (patterns_of l.elements.now) + 2

abbrev pub decreases-match_constructor : goal.decreases-match_constructor
decreases-match_constructor g l = 3 * patterns_size (patterns_of l.fields.now) + 2

abbrev pub decreases-match_cons : goal.decreases-match_cons
decreases-match_cons g l = 3 * (pattern_size l.first.now + pattern_size l.rest.now) + 1

abbrev pub decreases-match_snoc : goal.decreases-match_snoc
decreases-match_snoc g l = 3 * (pattern_size l.front.now + pattern_size l.last.now) + 1

abbrev pub decreases-match_each : goal.decreases-match_each
decreases-match_each g l = 3 * patterns_size (patterns_of l.patterns.now) + 1

abbrev pub invariant-match_each-loop-at : goal.invariant-match_each-loop-at
invariant-match_each-loop-at g l = PendingPatterns (g.K.TargetTypes.known l.known) l.initial.state l.state (patterns_of l.patterns) (patterns_left l.patterns l.at) (opens_of l.types) (opens_left l.types l.at)
