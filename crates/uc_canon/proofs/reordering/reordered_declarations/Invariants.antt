use Rattle.std.proofs.Common.{◌≡◌, Some, map, take}
use Rattle.uc_canon.specs.Starts.{declaration_at}
use Rattle.uc_canon.proofs.reordering.reordered_declarations.Given as goal

abbrev pub invariant-loop-member : goal.invariant-loop-member
invariant-loop-member l = map Some l.moved.items ≡ map (declaration_at l.numbers l.members) (take l.member-index l.order)
