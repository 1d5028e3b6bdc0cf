-- Types behind the quantifiers at their front, and builtin types.
use Rattle.std.specs.Prelude.{ℕ, zero, suc, List, [], ◌∷◌, map}
use Rattle.uc_base.specs.declared.reference.Ref.TheVariants.{Builtin}
use Rattle.uc_tree.specs.declared.literal.Literal.{Literal}
use Rattle.uc_tree.specs.declared.literal.Literal.TheVariants as literals
use Rattle.uc_tree.specs.declared.target.Target.TheVariants.{Stored}
use Rattle.uc_context.specs.Opens.{Open, existential, quantified, arrow, applied, Opens, none, more, opens_of}
use Rattle.uc_context.specs.Variables.{opened_at}

-- how many quantifiers stand at the front of a type
abbrev pub front_count : Open → ℕ
front_count (quantified t) = suc (front_count t)
front_count _ = zero

-- what stands behind the quantifiers at the front, with types in place of their variables, the outermost first
abbrev pub behind_front : List Open → Open → Open
behind_front [] t = t
behind_front (s ∷ ss) (quantified t) = behind_front ss (opened_at 0 s t)
behind_front (s ∷ ss) t = t

-- existentials as types
abbrev pub existentials : List ℕ → List Open
existentials numbers = map (λ n. existential n) numbers

-- the arguments of a function type of several
abbrev pub arguments_of : Open → Opens
arguments_of (arrow a b) = more a (arguments_of b)
arguments_of _ = none

-- and what stands behind the last
abbrev pub result_of : Open → Open
result_of (arrow a b) = result_of b
result_of t = t

-- a type so many times
abbrev pub repeated : ℕ → Open → Opens
repeated zero t = none
repeated (suc n) t = more t (repeated n t)

-- a builtin type without arguments
abbrev pub builtin : ℕ → Open
builtin n = applied (Stored (Builtin n)) none

abbrev pub boolean : Open
boolean = builtin 2

abbrev pub list_of : Open → Open
list_of t = applied (Stored (Builtin 5)) (more t none)

-- the type of a literal
abbrev pub literal_type : Literal → Open
literal_type (literals.Nat n) = builtin 0
literal_type (literals.Int z) = builtin 1
literal_type (literals.Boolean b) = builtin 2
literal_type (literals.Text text) = builtin 3
literal_type (literals.Char c) = builtin 4
