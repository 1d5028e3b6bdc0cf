use Rattle.std.proofs.Common.{◌≡◌, ◌-◌, []}
use Rattle.uc_canon.specs.ReadingMembers.{fields_from}
use Rattle.uc_canon.proofs.read.read_each_field.Given as goal

abbrev pub invariant-loop : goal.invariant-loop
invariant-loop l = fields_from l.scope l.end l.fields.items l.left (l.count - l.counter) l.rest ≡ fields_from l.scope l.end [] l.levels l.count l.bytes
