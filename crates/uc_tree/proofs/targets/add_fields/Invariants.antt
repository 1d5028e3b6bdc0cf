use Rattle.std.proofs.Common.{◌≡◌, ◌++◌, drop}
use Rattle.uc_tree.specs.Declarations.{fields_of}
use Rattle.uc_tree.specs.Targets.{fields_targets}
use Rattle.uc_tree.proofs.targets.add_fields.Given as goal

abbrev pub invariant-loop-fields : goal.invariant-loop-fields
invariant-loop-fields l = l.out.items ++ fields_targets (fields_of (drop l.fields-index l.ctors)) ≡ l.initial.out.items ++ fields_targets (fields_of l.ctors)
