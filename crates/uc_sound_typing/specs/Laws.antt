-- What the algorithm finds is so by the declarative rules.
use Rattle.std.specs.Prelude.{ℕ, List, ◌++◌, length, reverse}
use Rattle.uc_tree.specs.declared.definition.Definition.{Definition}
use Rattle.uc_tree.specs.Patterns.{Pattern}
use Rattle.uc_tree.specs.Terms.{Term}
use Rattle.uc_tree.specs.Types.{Ty}
use Rattle.uc_kinds.specs.PatternTyping.{Known, PatternBinds}
use Rattle.uc_kinds.specs.Polytypes.{Poly}
use Rattle.uc_kinds.specs.Typing.{HasType, Infers, DefinitionHasType}
use Rattle.uc_context.specs.Entries.{ContextEntries}
use Rattle.uc_context.specs.Opens.{Open}
use Rattle.uc_soundness.specs.Extending.{Extends}
use Rattle.uc_soundness.specs.Valuations.{Valuation, value, scope_of, Fits}
use Rattle.uc_soundness.specs.WellFormed.{IsTypeIn, IsWellFormedContext}
use Rattle.uc_typing.specs.Checking.{Checks, Synthesizes}
use Rattle.uc_typing.specs.Components.{HasMemberOutcome, member_type}
use Rattle.uc_typing.specs.PatternMatching.{MatchesPattern}
use Rattle.uc_typing.specs.Scopes.{Sight}
use Rattle.uc_typing.specs.Stops.{Variables, matched, leaves, gives}
use Rattle.uc_sound_typing.specs.Formed.{IsFormedKnown, IsFormedPattern, IsFormed, IsFormedDefinition}
use Rattle.uc_sound_typing.specs.Growing.{Grows}
use Rattle.uc_sound_typing.specs.Seeing.{AreBound, IsSeen, AreValues, scope_in}

-- a pattern that is matched leaves a well-formed context that has what the one before had, in which its variables are bound
abbrev pub PatternsExtend : Type 0
PatternsExtend = (known : Known) (at : ℕ) (vars ws : Variables) (es fs : ContextEntries) (q : Pattern) (s : Open)
    → MatchesPattern known at vars es q s (matched ws fs) → IsFormedKnown known → IsFormedPattern known q → IsWellFormedContext known.arity es → IsTypeIn known.arity es 0 s → AreBound es vars
    → IsWellFormedContext known.arity fs × Grows es fs × AreBound fs ws

-- a term that is checked leaves a well-formed context that has what the one before had
abbrev pub ChecksExtend : Type 0
ChecksExtend = (known : Known) (sight : Sight) (at : ℕ) (es fs : ContextEntries) (e : Term) (t : Open)
    → Checks known sight at es e t (leaves fs) → IsFormedKnown known → IsFormed known (length sight.variables) (length sight.seen) e → IsWellFormedContext known.arity es → IsSeen es sight → IsTypeIn known.arity es 0 t
    → IsWellFormedContext known.arity fs × Extends es fs

-- and so does one that has a type found, which is well-formed there
abbrev pub SynthesesExtend : Type 0
SynthesesExtend = (known : Known) (sight : Sight) (at : ℕ) (es fs : ContextEntries) (e : Term) (t : Open)
    → Synthesizes known sight at es e (gives t fs) → IsFormedKnown known → IsFormed known (length sight.variables) (length sight.seen) e → IsWellFormedContext known.arity es → IsSeen es sight
    → IsWellFormedContext known.arity fs × Extends es fs × IsTypeIn known.arity fs 0 t

-- whatever the existentials that are left stand for, a pattern that is matched binds variables of the types of its binders
abbrev pub PatternsAreSound : Type 0
PatternsAreSound = (known : Known) (at : ℕ) (vars ws : Variables) (es fs : ContextEntries) (q : Pattern) (s : Open)
    → MatchesPattern known at vars es q s (matched ws fs) → IsFormedKnown known → IsFormedPattern known q → IsWellFormedContext known.arity es → IsTypeIn known.arity es 0 s → AreBound es vars
    → (outer : ℕ) (σ : Valuation outer) → Fits known.arity σ fs → (ps : List Poly) → AreValues σ es vars ps
    → (bs : List Poly) × PatternBinds known (scope_of outer es) q (value σ s) bs × AreValues σ fs ws (reverse bs ++ ps)

-- a term that is checked has its type
abbrev pub ChecksAreSound : Type 0
ChecksAreSound = (known : Known) (sight : Sight) (at : ℕ) (es fs : ContextEntries) (e : Term) (t : Open)
    → Checks known sight at es e t (leaves fs) → IsFormedKnown known → IsFormed known (length sight.variables) (length sight.seen) e → IsWellFormedContext known.arity es → IsSeen es sight → IsTypeIn known.arity es 0 t
    → (outer : ℕ) (σ : Valuation outer) → Fits known.arity σ fs → (ps : List Poly) → AreValues σ es sight.variables ps → HasType known (scope_in outer es sight ps) e (value σ t)

-- a term has the type that is found
abbrev pub SynthesesAreSound : Type 0
SynthesesAreSound = (known : Known) (sight : Sight) (at : ℕ) (es fs : ContextEntries) (e : Term) (t : Open)
    → Synthesizes known sight at es e (gives t fs) → IsFormedKnown known → IsFormed known (length sight.variables) (length sight.seen) e → IsWellFormedContext known.arity es → IsSeen es sight
    → (outer : ℕ) (σ : Valuation outer) → Fits known.arity σ fs → (ps : List Poly) → AreValues σ es sight.variables ps → Infers known (scope_in outer es sight ps) e (value σ t)

-- a member has the type that it comes to by the declarative rules
abbrev pub MembersAreSound : Type 0
MembersAreSound = (known : Known) (d : Definition) (ty : Ty) → HasMemberOutcome known d (member_type ty) → IsFormedKnown known → IsFormedDefinition known d → DefinitionHasType known d ty
