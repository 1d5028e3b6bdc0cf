-- What a term sees in a context, and what that is by a valuation.
use Rattle.std.specs.Prelude.{◌≡◌, ℕ, true, List, [], ◌∷◌, Some, None}
use Rattle.std.specs.List.{list_any}
use Rattle.uc_kinds.specs.Polytypes.{Poly}
use Rattle.uc_kinds.specs.Typing.{Scope}
use Rattle.uc_context.specs.Contexts.{binder_type}
use Rattle.uc_context.specs.Entries.{ContextEntries, is_rigid}
use Rattle.uc_context.specs.Opens.{Open}
use Rattle.uc_soundness.specs.Valuations.{Valuation, value, scope_of, renumbered}
use Rattle.uc_typing.specs.Scopes.{Sight}
use Rattle.uc_typing.specs.Stops.{Variables}

-- each variable that is used has a binder in the context
pub data AreBound : ContextEntries → Variables → Type 0 where
  none_bound : {es : ContextEntries} → AreBound es []
  one_bound : {es : ContextEntries} {n : ℕ} {t : Open} {vars : Variables} → binder_type es n ≡ Some t → AreBound es vars → AreBound es (Some n ∷ vars)
  one_unused : {es : ContextEntries} {vars : Variables} → AreBound es vars → AreBound es (None ∷ vars)

-- each of these numbers is that of a rigid variable of the context
abbrev pub AreRigid : ContextEntries → List ℕ → Type 0
AreRigid es [] = Unit {0}
AreRigid es (x ∷ xs) = (list_any (is_rigid x) es ≡ true) × AreRigid es xs

-- what a term sees stands in the context
pub record IsSeen (es : ContextEntries) (sight : Sight) : Type 0 where
  pub variables : AreBound es sight.variables
  pub rigids : AreRigid es sight.seen

-- the types of variables by a valuation; one that isn't used may have any
pub data AreValues {outer : ℕ} (σ : Valuation outer) (es : ContextEntries) : Variables → List Poly → Type 0 where
  no_values : AreValues σ es [] []
  value_of_binder : {n : ℕ} {t : Open} {p : Poly} {vars : Variables} {ps : List Poly} → binder_type es n ≡ Some t → p ≡ value σ t → AreValues σ es vars ps → AreValues σ es (Some n ∷ vars) (p ∷ ps)
  value_of_unused : {p : Poly} {vars : Variables} {ps : List Poly} → AreValues σ es vars ps → AreValues σ es (None ∷ vars) (p ∷ ps)

-- the declarative scope of a term in a context, where its variables have these types
abbrev pub scope_in : ℕ → ContextEntries → Sight → List Poly → Scope
scope_in outer es sight ps = record { rigids = scope_of outer es; seen = renumbered outer sight.seen; types = ps }
