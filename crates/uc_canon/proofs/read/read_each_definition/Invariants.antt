use Rattle.std.proofs.Common.{◌≡◌, ◌-◌, []}
use Rattle.uc_canon.specs.Reading.{items_from}
use Rattle.uc_canon.specs.ReadingMembers.{definition_at}
use Rattle.uc_canon.proofs.read.read_each_definition.Given as goal

abbrev pub invariant-loop : goal.invariant-loop
invariant-loop l = items_from (definition_at l.members) l.definitions.items (l.members - l.counter) l.rest ≡ items_from (definition_at l.members) [] l.members l.bytes
