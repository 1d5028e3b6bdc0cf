use Rattle.std.proofs.Common.{◌≡◌, ◌++◌, drop}
use Rattle.uc_canon.specs.Numbering.{members_among}
use Rattle.uc_canon.proofs.links.members_among.Given as goal

abbrev pub invariant-loop-target : goal.invariant-loop-target
invariant-loop-target l = l.members.items ++ members_among (drop l.target-index l.targets) ≡ members_among l.targets
