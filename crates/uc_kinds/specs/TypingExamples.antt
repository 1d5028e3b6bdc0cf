-- Small definitions and what the rules of typing say of them.
use Rattle.std.specs.Prelude.{◌≡◌, ℕ, Option, Some, None}
use Rattle.uc_base.specs.declared.reference.Ref.TheVariants.{Builtin}
use Rattle.uc_tree.specs.declared.target.Target.TheVariants.{Stored}
use Rattle.uc_tree.specs.declared.literal.Literal.TheVariants as literals
use Rattle.uc_tree.specs.Types.{Ty}
use Rattle.uc_tree.specs.Types as types
use Rattle.uc_tree.specs.Terms.{Term}
use Rattle.uc_tree.specs.Terms as terms
use Rattle.uc_kinds.specs.PatternTyping.{Known}
use Rattle.uc_kinds.specs.Typing.{DefinitionHasType}

-- `forall a. a -> a`
abbrev pub identity_type : Ty
identity_type = types.quantified (types.arrow (types.variable 0) (types.variable 0))

-- a builtin type without arguments
abbrev pub builtin : ℕ → Ty
builtin n = types.applied (Stored (Builtin n)) types.none

-- `id x = x` has the type `forall a. a -> a`
abbrev pub IdentityHasItsType : Type 0
IdentityHasItsType = (known : Known) → DefinitionHasType known (record { signature = None; body = terms.lambda (terms.variable 0) }) identity_type

-- `(forall a. a -> a) -> (Nat, Char)`
abbrev pub pair_type : Ty
pair_type = types.arrow identity_type (types.tuple (types.more (builtin 0) (types.more (builtin 4) types.none)))

-- `g 1` and `g ?a`, under `g`
abbrev pub pair_body : Term
pair_body = terms.lambda (terms.tuple (terms.more (terms.apply (terms.variable 0) (terms.literal (literals.Nat 1)))
    (terms.more (terms.apply (terms.variable 0) (terms.literal (literals.Char 97))) terms.none)))

-- an argument of a higher rank: with that signature `f g = (g 1, g ?a)` has its type, where `Nat` and `Char` take no arguments
abbrev pub HigherRankHasItsType : Type 0
HigherRankHasItsType = (known : Known) → known.arity (Stored (Builtin 0)) ≡ Some 0 → known.arity (Stored (Builtin 4)) ≡ Some 0
    → DefinitionHasType known (record { signature = Some pair_type; body = pair_body }) pair_type

-- `bad u = u` doesn't have the type `() -> (forall a. a)`
abbrev pub UnitIsNotEverything : Type 0
UnitIsNotEverything = (known : Known)
    → DefinitionHasType known (record { signature = Some (types.arrow types.unit (types.quantified (types.variable 0))); body = terms.lambda (terms.variable 0) })
    (types.arrow types.unit (types.quantified (types.variable 0))) → ⊥
