use Rattle.std.proofs.Common.{◌≡◌, ◌++◌, drop}
use Rattle.uc_tree.specs.Declarations.{fields_of}
use Rattle.uc_canon.specs.Spelling.{constructors_text, counted_constructors}
use Rattle.uc_canon.proofs.write.write_constructors.Given as goal

abbrev pub invariant-loop-fields : goal.invariant-loop-fields
invariant-loop-fields l = l.out.items ++ constructors_text (fields_of (drop l.fields-index l.ctors)) ≡ l.fn.out.items ++ counted_constructors (fields_of l.ctors)
