use Rattle.std.proofs.Common.{◌≡◌, ◌++◌, map, drop}
use Rattle.uc_tree.specs.Constructors.{constructor_type}
use Rattle.uc_tree.specs.Declarations.{fields_of}
use Rattle.uc_store.proofs.member.declared_types.Given as goal

abbrev pub invariant-loop-fields : goal.invariant-loop-fields
invariant-loop-fields l = l.types.items ++ map (constructor_type l.head l.params) (fields_of (drop l.fields-index l.ctors)) ≡ map (constructor_type l.head l.params) (fields_of l.ctors)
