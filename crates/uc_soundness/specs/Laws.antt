-- What holds of solved existentials.
use Rattle.std.specs.Prelude.{◌≡◌, ℕ, true, List, ◌++◌}
use Rattle.std.specs.List.{list_any}
use Rattle.uc_kinds.specs.WellFormed.{Arity}
use Rattle.uc_kinds.specs.Polytypes.{Poly}
use Rattle.uc_kinds.specs.Subtyping.{IsSubtype}
use Rattle.uc_context.specs.Entries.{ContextEntries, declares}
use Rattle.uc_context.specs.Opens.{Open}
use Rattle.uc_subtyping.specs.declared.side.Side.{Side}
use Rattle.uc_subtyping.specs.declared.side.Side.TheVariants.{Below, Above}
use Rattle.uc_subtyping.specs.Instantiation.{SolvesInstance}
use Rattle.uc_subtyping.specs.Outcomes.{done}
use Rattle.uc_subtyping.specs.Subtyping.{SolvesSubtype}
use Rattle.uc_soundness.specs.Extending.{Extends}
use Rattle.uc_soundness.specs.Valuations.{Valuation, value, scope_of, Fits}
use Rattle.uc_soundness.specs.WellFormed.{IsTypeIn, IsWellFormedContext}

-- the first is a subtype of the second, or the second of the first
abbrev pub IsSubtypeAt : Side → Arity → List ℕ → Poly → Poly → Type 0
IsSubtypeAt Below arity xs p q = IsSubtype arity xs p q
IsSubtypeAt Above arity xs p q = IsSubtype arity xs q p

-- instantiation leaves a well-formed context that extends the one before
abbrev pub InstancesExtend : Type 0
InstancesExtend = (arity : Arity) (s : Side) (es fs : ContextEntries) (x : ℕ) (t : Open) → SolvesInstance s es x t (done fs) → IsWellFormedContext arity es → IsTypeIn arity es 0 t → IsWellFormedContext arity fs × Extends es fs

-- and so does subtyping
abbrev pub SubtypesExtend : Type 0
SubtypesExtend = (arity : Arity) (es fs : ContextEntries) (a b : Open) → SolvesSubtype es a b (done fs) → IsWellFormedContext arity es → IsTypeIn arity es 0 a → IsTypeIn arity es 0 b → IsWellFormedContext arity fs × Extends es fs

-- whatever the existentials that are left stand for, the instantiated one stands for a type below the other, or above it
abbrev pub InstantiationIsSound : Type 0
InstantiationIsSound = (arity : Arity) (s : Side) (es fs : ContextEntries) (x : ℕ) (t : Open) → SolvesInstance s es x t (done fs) → IsWellFormedContext arity es → IsTypeIn arity es 0 t
    → (outer : ℕ) (σ : Valuation outer) → Fits arity σ fs → IsSubtypeAt s arity (scope_of outer es) (σ.stands_for x) (value σ t)

-- whatever the existentials that are left stand for, the first type is a subtype of the second
abbrev pub SubtypingIsSound : Type 0
SubtypingIsSound = (arity : Arity) (es fs : ContextEntries) (a b : Open) → SolvesSubtype es a b (done fs) → IsWellFormedContext arity es → IsTypeIn arity es 0 a → IsTypeIn arity es 0 b
    → (outer : ℕ) (σ : Valuation outer) → Fits arity σ fs → IsSubtype arity (scope_of outer es) (value σ a) (value σ b)

-- a valuation that fits the first entries of a well-formed context goes on to one that fits the context
abbrev pub ValuationsGoOn : Type 0
ValuationsGoOn = (arity : Arity) (outer : ℕ) (es ds : ContextEntries) → IsWellFormedContext arity (es ++ ds) → (σ : Valuation outer) → Fits arity σ es
    → (ρ : Valuation outer) × Fits arity ρ (es ++ ds) × ((x : ℕ) → list_any (declares x) es ≡ true → ρ.stands_for x ≡ σ.stands_for x)
