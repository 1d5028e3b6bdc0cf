use Rattle.std.proofs.Common.{◌≡◌, ◌++◌, drop}
use Rattle.uc_canon.specs.Spelling.{definitions_text}
use Rattle.uc_canon.proofs.write.write_definitions.Given as goal

abbrev pub invariant-loop-member : goal.invariant-loop-member
invariant-loop-member l = l.out.items ++ definitions_text (drop l.member-index l.members) ≡ l.fn.out.items ++ definitions_text l.members
