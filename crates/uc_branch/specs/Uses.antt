-- Tests: one reference that all definitions use.
use Rattle.std.specs.Prelude.{List, [], ◌∷◌}
use Rattle.std.specs.List.Sorted.{IsStrictlySortedBy}
use Rattle.uc_base.specs.declared.reference.Ref.{Ref}
use Rattle.uc_base.specs.declared.reference.Ref.TheVariants.{Def, Ctor, Builtin}
use Rattle.uc_tree.specs.References.{ref_order}

-- a definition uses one reference, and nothing else uses any
abbrev pub uses_of : Ref → Ref → List Ref
uses_of used (Def hash member) = used ∷ []
uses_of used (Ctor hash member ctor) = []
uses_of used (Builtin number) = []

pub uses_in_order : (used of : Ref) → IsStrictlySortedBy ref_order (uses_of used of)
unfolding IsStrictlySortedBy
uses_in_order used (Def hash member) = (tt, tt)
uses_in_order used (Ctor hash member ctor) = tt
uses_in_order used (Builtin number) = tt
