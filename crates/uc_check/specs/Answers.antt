-- What the checker knows, and what it answers.
use Rattle.std.specs.Prelude.{◌≡◌, ◌+◌, ◌<◌, ◌^◌, ◌⊎◌, List, [], ◌∷◌, Option, Some, None, All, length}
use Rattle.uc_base.specs.declared.fault.Fault.{Fault}
use Rattle.uc_base.specs.declared.fault.Fault.TheVariants.{Memory, NeedsSignature, IllTyped, TypeTooLarge}
use Rattle.uc_base.specs.declared.place.At.TheVariants as at
use Rattle.uc_base.specs.declared.reference.Ref.{Ref}
use Rattle.uc_kinds.specs.PatternTyping.{Known}
use Rattle.uc_kinds.specs.Typing.{DefinitionHasType}
use Rattle.uc_kinds.specs.WellFormed.{Arity}
use Rattle.uc_patterns.specs.Asking.{IsKnown}
use Rattle.uc_context.specs.Closing.{open_from}
use Rattle.uc_context.specs.Counts.{IsSmall}
use Rattle.uc_sound_typing.specs.Formed.{IsWritten, IsFormed, IsFormedDefinition}
use Rattle.uc_tree.specs.declared.definition.Definition.{Definition}
use Rattle.uc_tree.specs.declared.item.Item.TheVariants as item
use Rattle.uc_tree.specs.Nodes.{nodes_of, term_nodes}
use Rattle.uc_tree.specs.Terms.{Term}
use Rattle.uc_tree.specs.Types.{Ty}
use Rattle.uc_typing.specs.Components.{CheckOutcome, types, needs, ill, large, missing_signature, with_members}

-- what arities and types tell, without members of a component
abbrev pub known_by : Arity → (Ref → Option Ty) → Known
known_by arity type_of = record { arity = arity; type_of = type_of; signatures = [] }

-- the fault of an outcome without types
abbrev pub fault_of : CheckOutcome → Option Fault
fault_of (types ts) = None
fault_of (needs spot) = Some (NeedsSignature (at.Spot spot))
fault_of (ill spot) = Some (IllTyped (at.Spot spot))
fault_of (large spot) = Some (TypeTooLarge (at.Spot spot))

-- a fault is want of memory, or that of an outcome
abbrev pub IsFaultOf : (CheckOutcome → Type 0) → Fault → Type 0
IsFaultOf comes_to fault = (fault ≡ Memory) ⊎ ((o : CheckOutcome) × (fault_of o ≡ Some fault) × comes_to o)

-- Members can be checked: what is known with their signatures is well-formed, and so are they, once no signature is missing; and they and their nodes can be counted.
pub record IsCheckable (facts : Known) (ds : List Definition) : Type 0 where
  pub known : IsKnown (with_members facts ds)
  pub formed : missing_signature ds ≡ None → All (IsFormedDefinition (with_members facts ds)) ds
  pub few : length ds < 2 ^ 32
  pub small : All (λ (d : Definition). length (nodes_of (item.Term d)) + 1 < 2 ^ 32) ds

-- and so can a watch
pub record IsCheckableWatch (facts : Known) (e : Term) : Type 0 where
  pub known : IsKnown (with_members facts [])
  pub formed : IsFormed (with_members facts []) 0 0 e
  pub small : length (term_nodes e) + 1 < 2 ^ 32

-- each member has its type by the declarative rules
abbrev pub AreTyped : Known → List Definition → List Ty → Type 0
AreTyped known [] [] = Unit {0}
AreTyped known (d ∷ ds) (ty ∷ tys) = DefinitionHasType known d ty × AreTyped known ds tys
AreTyped known (d ∷ ds) [] = ⊥
AreTyped known [] (ty ∷ tys) = ⊥

-- The type of a member is closed and well-formed; and where the member has no signature, it is within the limits of a type in the checker.
pub record IsAnswer (facts : Known) (d : Definition) (ty : Ty) : Type 0 where
  pub written : IsWritten facts.arity 0 ty
  pub small : d.signature ≡ None → IsSmall (open_from ty)

-- and so is that of each member
abbrev pub AreAnswers : Known → List Definition → List Ty → Type 0
AreAnswers known [] [] = Unit {0}
AreAnswers known (d ∷ ds) (ty ∷ tys) = IsAnswer known d ty × AreAnswers known ds tys
AreAnswers known (d ∷ ds) [] = ⊥
AreAnswers known [] (ty ∷ tys) = ⊥
