use Rattle.std.proofs.Common.{◌≡◌, ◌++◌, drop}
use Rattle.uc_tree.specs.Types.{ty_size, tys_size, tys_of}
use Rattle.uc_canon.specs.Spelling.{types_text, counted_types}
use Rattle.uc_canon.proofs.write_types.+write_type.Given as goal

abbrev pub decreases-write_type : goal.decreases-write_type
decreases-write_type l = ty_size l.ty.now

abbrev pub decreases-write_types : goal.decreases-write_types
decreases-write_types l = tys_size (tys_of l.types.now)

abbrev pub invariant-write_types-loop-ty : goal.invariant-write_types-loop-ty
invariant-write_types-loop-ty l = l.out.items ++ types_text (tys_of (drop l.ty-index l.types)) ≡ l.fn.out.items ++ counted_types (tys_of l.types)
