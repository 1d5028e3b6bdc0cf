use Rattle.std.proofs.Common.{◌≡◌, ◌++◌, drop}
use Rattle.uc_canon.specs.Spelling.{declarations_text}
use Rattle.uc_canon.proofs.write.write_declarations.Given as goal

abbrev pub invariant-loop-member : goal.invariant-loop-member
invariant-loop-member l = l.out.items ++ declarations_text (drop l.member-index l.members) ≡ l.fn.out.items ++ declarations_text l.members
