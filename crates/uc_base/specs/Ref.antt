-- The printed text of a reference.
use Rattle.std.specs.Prelude.{ℕ, zero, suc, List, [], ◌∷◌, ◌++◌, unwrap_or}
use Rattle.std.specs.Fmt.{decimal}
use Rattle.hex.specs.Hex.{encode_lower}
use Rattle.uc_base.specs.Builtin.{builtin_name}
use Rattle.uc_base.specs.declared.reference.Ref.{Ref}
use Rattle.uc_base.specs.declared.reference.Ref.TheVariants.{Def, Ctor, Builtin}

-- nothing for the first member, and `.n` for another
abbrev pub number_text : ℕ → List ℕ
number_text zero = []
number_text (suc n) = 46 ∷ decimal (suc n)

-- `#`, the digits of the hash, and the number of the member
abbrev pub member_text : List ℕ → ℕ → List ℕ
member_text hash member = 35 ∷ (encode_lower hash ++ number_text member)

-- a constructor has `#` and its number behind its type; a builtin is `##` and its name in the table
abbrev pub ref_text : Ref → List ℕ
ref_text (Def hash member) = member_text hash.0 member
ref_text (Ctor hash member ctor) = member_text hash.0 member ++ (35 ∷ decimal ctor)
ref_text (Builtin number) = 35 ∷ 35 ∷ unwrap_or (builtin_name number) []
