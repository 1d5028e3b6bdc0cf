use Rattle.std.proofs.Common.{◌≡◌}
use Rattle.uc_canon.specs.Opening.{stored_members}
use Rattle.uc_canon.proofs.opening.stored_members.Given as goal

abbrev pub invariant-loop-member : goal.invariant-loop-member
invariant-loop-member l = l.members.items ≡ stored_members l.hash l.member
