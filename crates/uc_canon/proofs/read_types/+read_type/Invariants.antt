use Rattle.std.proofs.Common.{◌≡◌, ◌+◌, ◌*◌, ◌-◌, []}
use Rattle.uc_canon.specs.Reading.{items_from}
use Rattle.uc_canon.specs.ReadingTypes.{type_at}
use Rattle.uc_canon.proofs.read_types.+read_type.Given as goal

abbrev pub decreases-read_type : goal.decreases-read_type
decreases-read_type l = 5 * l.levels

abbrev pub decreases-read_type_by : goal.decreases-read_type_by
decreases-read_type_by l = 5 * l.levels + 4

abbrev pub decreases-read_quantified : goal.decreases-read_quantified
decreases-read_quantified l = 5 * l.levels + 3

abbrev pub decreases-read_arrow : goal.decreases-read_arrow
decreases-read_arrow l = 5 * l.levels + 3

abbrev pub decreases-read_tuple_type : goal.decreases-read_tuple_type
decreases-read_tuple_type l = 5 * l.levels + 3

abbrev pub decreases-read_applied : goal.decreases-read_applied
decreases-read_applied l = 5 * l.levels + 3

abbrev pub decreases-read_types : goal.decreases-read_types
decreases-read_types l = 5 * l.levels + 2

abbrev pub decreases-read_each_type : goal.decreases-read_each_type
decreases-read_each_type l = 5 * l.levels + 1

abbrev pub invariant-read_each_type-loop : goal.invariant-read_each_type-loop
invariant-read_each_type-loop l = items_from (type_at l.levels l.scope) l.types.items (l.count - l.counter) l.rest ≡ items_from (type_at l.levels l.scope) [] l.count l.bytes
