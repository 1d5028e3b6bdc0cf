use Rattle.std.proofs.Common.{◌≡◌, ◌+◌, ◌*◌, ◌-◌, []}
use Rattle.uc_canon.specs.Reading.{items_from}
use Rattle.uc_canon.specs.ReadingPatterns.{pattern_at}
use Rattle.uc_canon.proofs.read_patterns.+read_pattern.Given as goal

abbrev pub decreases-read_pattern : goal.decreases-read_pattern
decreases-read_pattern l = 5 * l.levels

abbrev pub decreases-read_pattern_by : goal.decreases-read_pattern_by
decreases-read_pattern_by l = 5 * l.levels + 4

abbrev pub decreases-read_alias : goal.decreases-read_alias
decreases-read_alias l = 5 * l.levels + 3

abbrev pub decreases-read_tuple_pattern : goal.decreases-read_tuple_pattern
decreases-read_tuple_pattern l = 5 * l.levels + 3

abbrev pub decreases-read_list_pattern : goal.decreases-read_list_pattern
decreases-read_list_pattern l = 5 * l.levels + 3

abbrev pub decreases-read_constructor_pattern : goal.decreases-read_constructor_pattern
decreases-read_constructor_pattern l = 5 * l.levels + 3

abbrev pub decreases-read_cons : goal.decreases-read_cons
decreases-read_cons l = 5 * l.levels + 3

abbrev pub decreases-read_snoc : goal.decreases-read_snoc
decreases-read_snoc l = 5 * l.levels + 3

abbrev pub decreases-read_patterns : goal.decreases-read_patterns
decreases-read_patterns l = 5 * l.levels + 2

abbrev pub decreases-read_each_pattern : goal.decreases-read_each_pattern
decreases-read_each_pattern l = 5 * l.levels + 1

abbrev pub invariant-read_each_pattern-loop : goal.invariant-read_each_pattern-loop
invariant-read_each_pattern-loop l = items_from (pattern_at l.levels) l.patterns.items (l.count - l.counter) l.rest ≡ items_from (pattern_at l.levels) [] l.count l.bytes
