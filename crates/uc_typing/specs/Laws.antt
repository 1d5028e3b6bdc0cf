-- What holds of checking.
use Rattle.std.specs.Prelude.{◌≡◌, ℕ, List, map}
use Rattle.uc_base.specs.declared.reference.Ref.{Ref}
use Rattle.uc_tree.specs.declared.definition.Definition.{Definition}
use Rattle.uc_tree.specs.Patterns.{Pattern}
use Rattle.uc_tree.specs.Terms.{Term}
use Rattle.uc_kinds.specs.PatternTyping.{Known}
use Rattle.uc_context.specs.Entries.{ContextEntries}
use Rattle.uc_context.specs.Opens.{Open}
use Rattle.uc_typing.specs.Checking.{Checks, Synthesizes}
use Rattle.uc_typing.specs.Components.{CheckOutcome, HasOutcome, HasWatchOutcome}
use Rattle.uc_typing.specs.PatternMatching.{MatchesPattern}
use Rattle.uc_typing.specs.Relinking.{relinked, definition_relinked, KeepsTypes}
use Rattle.uc_typing.specs.Scopes.{Sight}
use Rattle.uc_typing.specs.Stops.{Variables, PatternOutcome, TermOutcome, TypeOutcome}

-- a pattern against a type has at most one outcome
abbrev pub PatternsHaveOneOutcome : Type 0
PatternsHaveOneOutcome = (known : Known) (at : ℕ) (vars : Variables) (es : ContextEntries) (q : Pattern) (s : Open) (o p : PatternOutcome) → MatchesPattern known at vars es q s o → MatchesPattern known at vars es q s p → o ≡ p

-- a check of a term has at most one outcome
abbrev pub ChecksHaveOneOutcome : Type 0
ChecksHaveOneOutcome = (known : Known) (sight : Sight) (at : ℕ) (es : ContextEntries) (e : Term) (t : Open) (o p : TermOutcome) → Checks known sight at es e t o → Checks known sight at es e t p → o ≡ p

-- a term has at most one type found
abbrev pub TermsHaveOneType : Type 0
TermsHaveOneType = (known : Known) (sight : Sight) (at : ℕ) (es : ContextEntries) (e : Term) (o p : TypeOutcome) → Synthesizes known sight at es e o → Synthesizes known sight at es e p → o ≡ p

-- a component has at most one outcome
abbrev pub ComponentsHaveOneOutcome : Type 0
ComponentsHaveOneOutcome = (known : Known) (ds : List Definition) (o p : CheckOutcome) → HasOutcome known ds o → HasOutcome known ds p → o ≡ p

-- and so has a watch
abbrev pub WatchesHaveOneOutcome : Type 0
WatchesHaveOneOutcome = (known : Known) (e : Term) (o p : CheckOutcome) → HasWatchOutcome known e o → HasWatchOutcome known e p → o ≡ p

-- Components that differ only in links of equal types come to the same, whatever else is known. So does a component when definitions are added to what is known.
abbrev pub OutcomesStay : Type 0
OutcomesStay = (f : Ref → Ref) (known known' : Known) (ds : List Definition) (o : CheckOutcome) → KeepsTypes f known known' → HasOutcome known ds o → HasOutcome known' (map (definition_relinked f) ds) o

-- and so do watches
abbrev pub WatchOutcomesStay : Type 0
WatchOutcomesStay = (f : Ref → Ref) (known known' : Known) (e : Term) (o : CheckOutcome) → KeepsTypes f known known' → HasWatchOutcome known e o → HasWatchOutcome known' (relinked f e) o
