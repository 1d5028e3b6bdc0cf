use Rattle.std.proofs.Common.{◌≡◌, take}
use Rattle.uc_tree.specs.Declarations.{fields_of}
use Rattle.uc_tree.proofs.equality.same_fields.Given as goal

abbrev pub invariant-loop-i : goal.invariant-loop-i
invariant-loop-i l = take l.i (fields_of l.cs) ≡ take l.i (fields_of l.ds)
