use Rattle.std.proofs.Common.{◌≡◌, ◌-◌, []}
use Rattle.uc_canon.specs.Reading.{items_from}
use Rattle.uc_canon.specs.ReadingMembers.{declaration_at}
use Rattle.uc_canon.proofs.read.read_each_declaration.Given as goal

abbrev pub invariant-loop : goal.invariant-loop
invariant-loop l = items_from (declaration_at l.members) l.declarations.items (l.members - l.counter) l.rest ≡ items_from (declaration_at l.members) [] l.members l.bytes
