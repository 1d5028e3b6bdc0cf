-- The builtins with their arities and types.
use Rattle.std.specs.Prelude.{◌≡◌, ℕ, ◌+◌, ◌<◌, ◌==◌, nat_lt, nat_le, if◌then◌else◌, List, length, Option, Some, None, slice_get}
use Rattle.uc_base.specs.declared.reference.Ref.TheVariants.{Builtin}
use Rattle.uc_tree.specs.declared.target.Target.TheVariants.{Stored}
use Rattle.uc_tree.specs.Types.{Ty, variable, quantified, arrow, applied, none, more}

-- the arguments of a builtin type: one for List, which is 5, and none for 0 to 4
abbrev pub builtin_arity : ℕ → Option ℕ
builtin_arity n = if nat_lt n 5 then Some 0 else (if n == 5 then Some 1 else None)

-- a builtin type without arguments
abbrev pub plain : ℕ → Ty
plain n = applied (Stored (Builtin n)) none

abbrev pub nat : Ty
nat = plain 0

abbrev pub int : Ty
int = plain 1

abbrev pub boolean : Ty
boolean = plain 2

abbrev pub text : Ty
text = plain 3

abbrev pub char : Ty
char = plain 4

-- lists of a type
abbrev pub list : Ty → Ty
list t = applied (Stored (Builtin 5)) (more t none)

-- a function of two arguments
abbrev pub function : Ty → Ty → Ty → Ty
function a b c = arrow a (arrow b c)

-- the one variable of a type that begins with its quantifier
abbrev pub a : Ty
a = variable 0

-- the type of a builtin term, by its number in the table; each line has the last number that it is for
abbrev pub builtin_type : ℕ → Option Ty
builtin_type n =
    if nat_le n 15 then None else
    (if nat_le n 20 then Some (function nat nat nat) else
    (if nat_le n 21 then Some (function nat nat int) else
    (if nat_le n 26 then Some (function nat nat boolean) else
    (if nat_le n 27 then Some (arrow nat nat) else
    (if nat_le n 28 then Some (arrow nat int) else
    (if nat_le n 29 then Some (arrow nat text) else
    (if nat_le n 33 then Some (function int int int) else
    (if nat_le n 38 then Some (function int int boolean) else
    (if nat_le n 39 then Some (arrow int int) else
    (if nat_le n 40 then Some (arrow int text) else
    (if nat_le n 41 then Some (arrow boolean boolean) else
    (if nat_le n 42 then Some (function text text text) else
    (if nat_le n 43 then Some (arrow text nat) else
    (if nat_le n 44 then Some (function text text boolean) else
    (if nat_le n 46 then Some (function nat text text) else
    (if nat_le n 47 then Some (arrow text (list char)) else
    (if nat_le n 48 then Some (arrow (list char) text) else
    (if nat_le n 49 then Some (arrow char nat) else
    (if nat_le n 50 then Some (quantified (function (list a) (list a) (list a))) else
    (if nat_le n 51 then Some (quantified (function a (list a) (list a))) else
    (if nat_le n 52 then Some (quantified (function (list a) a (list a))) else
    (if nat_le n 53 then Some (quantified (arrow (list a) nat)) else
    (if nat_le n 55 then Some (quantified (function nat (list a) (list a))) else
    (if nat_le n 56 then Some (quantified (list a)) else
    None))))))))))))))))))))))))

-- the types of the builtin terms in the order of their numbers, of which 16 is the first
pub record AreBuiltinTypes (types : List Ty) : Type 0 where
  pub count : length types ≡ 41
  pub each : (k : ℕ) → k < 41 → slice_get types k ≡ builtin_type (k + 16)
