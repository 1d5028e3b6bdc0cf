use Rattle.std.proofs.Common.{◌≡◌, take}
use Rattle.uc_tree.specs.Declarations.{fields_of}
use Rattle.uc_tree.proofs.declaration.copy_fields.Given as goal

abbrev pub invariant-loop-fields : goal.invariant-loop-fields
invariant-loop-fields l = fields_of l.copied.items ≡ take l.fields-index (fields_of l.ctors)
