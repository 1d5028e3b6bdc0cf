-- Tests: what they know of the builtin types, of a declared type of one parameter, of its constructors and of one builtin term.
use Rattle.std.specs.Prelude.{◌==◌, ◌<◌, ◌^◌, if◌then◌else◌, Option, Some, None}
use Rattle.uc_base.specs.declared.reference.Ref.{Ref}
use Rattle.uc_base.specs.declared.reference.Ref.TheVariants.{Def, Ctor, Builtin}
use Rattle.uc_kinds.specs.WellFormed.{Arity}
use Rattle.uc_sound_typing.specs.Formed.{IsWritten}
use Rattle.uc_tree.specs.Counts.{ty_levels}
use Rattle.uc_tree.specs.declared.target.Target.TheVariants.{Stored, Own, OwnCtor}
use Rattle.uc_tree.specs.Types.{Ty}

-- each builtin but the list, and each declared type, takes as many arguments
abbrev pub few_arity : Arity
few_arity (Stored (Builtin n)) = Some (if n == 5 then 1 else 0)
few_arity (Stored (Def h k)) = Some 1
few_arity (Stored (Ctor h k c)) = None
few_arity (Own k) = None
few_arity (OwnCtor k c) = None

-- the types of a builtin term, and of the first and the other constructors
abbrev pub few_type : Ty → Ty → Ty → Ref → Option Ty
few_type plus none some (Def h k) = None
few_type plus none some (Ctor h k c) = Some (if c == 0 then none else some)
few_type plus none some (Builtin n) = if n == 16 then Some plus else None

-- a type is closed and well-formed, and its levels can be counted
abbrev pub IsClosed : Arity → Ty → Type 0
IsClosed arity ty = IsWritten arity 0 ty × (ty_levels ty < 2 ^ 32)

-- and so is a signature, where there is one
abbrev pub IsClosedSignature : Arity → Option Ty → Type 0
IsClosedSignature arity None = Unit {0}
IsClosedSignature arity (Some ty) = IsClosed arity ty
