use Rattle.std.proofs.Common.{◌≡◌, Some, map, take}
use Rattle.uc_canon.specs.Starts.{definition_at}
use Rattle.uc_canon.proofs.reordering.reordered_definitions.Given as goal

abbrev pub invariant-loop-member : goal.invariant-loop-member
invariant-loop-member l = map Some l.moved.items ≡ map (definition_at l.numbers l.members) (take l.member-index l.order)
