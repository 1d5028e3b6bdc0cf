-- Derivations stay when definitions are added.
use Rattle.std.specs.Prelude.{ℕ, List}
use Rattle.uc_tree.specs.declared.definition.Definition.{Definition}
use Rattle.uc_tree.specs.Patterns.{Pattern}
use Rattle.uc_tree.specs.Terms.{Term}
use Rattle.uc_tree.specs.Types.{Ty}
use Rattle.uc_kinds.specs.PatternTyping.{Known, PatternBinds}
use Rattle.uc_kinds.specs.Polytypes.{Poly}
use Rattle.uc_kinds.specs.Subtyping.{IsSubtype}
use Rattle.uc_kinds.specs.Typing.{Scope, HasType, Infers, DefinitionHasType}
use Rattle.uc_weakening.specs.Growing.{Adds}

abbrev pub SubtypesStay : Type 0
SubtypesStay = (known known' : Known) → Adds known known' → (xs : List ℕ) (a b : Poly) → IsSubtype known.arity xs a b → IsSubtype known'.arity xs a b

abbrev pub PatternsStay : Type 0
PatternsStay = (known known' : Known) → Adds known known' → (xs : List ℕ) (p : Pattern) (s : Poly) (bs : List Poly) → PatternBinds known xs p s bs → PatternBinds known' xs p s bs

abbrev pub ChecksStay : Type 0
ChecksStay = (known known' : Known) → Adds known known' → (scope : Scope) (e : Term) (t : Poly) → HasType known scope e t → HasType known' scope e t

abbrev pub SynthesesStay : Type 0
SynthesesStay = (known known' : Known) → Adds known known' → (scope : Scope) (e : Term) (t : Poly) → Infers known scope e t → Infers known' scope e t

abbrev pub DefinitionsStay : Type 0
DefinitionsStay = (known known' : Known) → Adds known known' → (d : Definition) (ty : Ty) → DefinitionHasType known d ty → DefinitionHasType known' d ty
