-- What small components come to.
use Rattle.std.specs.Prelude.{[], ◌∷◌, None}
use Rattle.uc_tree.specs.declared.target.Target.TheVariants.{Own}
use Rattle.uc_tree.specs.Terms as terms
use Rattle.uc_tree.specs.Types as types
use Rattle.uc_kinds.specs.PatternTyping.{Known}
use Rattle.uc_typing.specs.Components.{HasOutcome, types as has_types, needs, ill}

-- the identity has a type that is quantified
abbrev pub IdentityIsQuantified : Type 0
IdentityIsQuantified = (known : Known) → HasOutcome known (record { signature = None; body = terms.lambda (terms.variable 0) } ∷ []) (has_types (types.quantified (types.arrow (types.variable 0) (types.variable 0)) ∷ []))

-- what applies itself is ill where it stands as the argument
abbrev pub SelfApplicationIsIll : Type 0
SelfApplicationIsIll = (known : Known) → HasOutcome known (record { signature = None; body = terms.lambda (terms.apply (terms.variable 0) (terms.variable 0)) } ∷ []) (ill (record { member = 0; node = 4 }))

-- what refers to itself needs a signature
abbrev pub SelfReferenceNeedsSignature : Type 0
SelfReferenceNeedsSignature = (known : Known) → HasOutcome known (record { signature = None; body = terms.link (Own 0) } ∷ []) (needs (record { member = 0; node = 0 }))
