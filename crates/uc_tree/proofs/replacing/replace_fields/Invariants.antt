use Rattle.std.proofs.Common.{◌≡◌, ◌++◌, drop}
use Rattle.std.specs.Prelude.{option_map}
use Rattle.uc_tree.specs.Declarations.{fields_of}
use Rattle.uc_tree.specs.Stops.{replacement_of}
use Rattle.uc_tree.specs.Replacing.{replaced_fields}
use Rattle.uc_tree.proofs.replacing.replace_fields.Given as goal

abbrev pub invariant-loop-fields : goal.invariant-loop-fields
invariant-loop-fields l =
    option_map (λ ctors. fields_of l.replaced.items ++ ctors) (replaced_fields (replacement_of l.standing) (fields_of (drop l.fields-index l.ctors))) ≡ replaced_fields (replacement_of l.standing) (fields_of l.ctors)
