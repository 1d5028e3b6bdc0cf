use Rattle.std.proofs.Common.{◌≡◌, ◌-◌, []}
use Rattle.uc_tree.specs.Declarations.{fields_of}
use Rattle.uc_canon.specs.Reading.{items_from}
use Rattle.uc_canon.specs.ReadingMembers.{fields_at}
use Rattle.uc_canon.proofs.read.read_each_constructor.Given as goal

abbrev pub invariant-loop : goal.invariant-loop
invariant-loop l = items_from (fields_at l.members l.params) (fields_of l.ctors.items) (l.count - l.counter) l.rest ≡ items_from (fields_at l.members l.params) [] l.count l.bytes
