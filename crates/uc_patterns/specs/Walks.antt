-- Walks over patterns, from a state to another.
use Rattle.std.specs.Prelude.{◌≡◌, ◌++◌, map, length}
use Rattle.uc_context.specs.declared.entry.Entry.TheVariants.{Exists}
use Rattle.uc_context.specs.Closing.{open_from}
use Rattle.uc_context.specs.Entries.{ContextEntries}
use Rattle.uc_context.specs.Fresh.{fresh_numbers}
use Rattle.uc_context.specs.Opens.{Open, Opens, none, more}
use Rattle.uc_soundness.specs.WellFormed.{IsTypeIn, IsWellFormedContext}
use Rattle.uc_sound_typing.specs.Seeing.{IsSeen}
use Rattle.uc_tree.specs.Nodes.{pattern_nodes, patterns_nodes}
use Rattle.uc_tree.specs.Patterns.{Pattern, Patterns}
use Rattle.uc_tree.specs.Types.{Ty}
use Rattle.uc_kinds.specs.PatternTyping.{Known}
use Rattle.uc_kinds.specs.WellFormed.{Arity}
use Rattle.uc_typing.specs.Fronts.{front_count, behind_front, existentials}
use Rattle.uc_typing.specs.PatternMatching.{MatchesPattern, MatchesPatterns}
use Rattle.uc_typing.specs.Stops.{PatternOutcome, matched}
use Rattle.uc_patterns.specs.declared.state.State.{State}
use Rattle.uc_patterns.specs.Asking.{IsKnown}
use Rattle.uc_patterns.specs.Spots.{passed}

-- what is known and the context are well-formed, and what is in sight stands in the context
pub record IsReady (of : Known) (state : State) : Type 0 where
  pub known : IsKnown of
  pub context : IsWellFormedContext of.arity state.context
  pub seen : IsSeen state.context state.sight

-- a type that is written, with new existentials in place of the variables of the quantifiers at its front, and the context that has them
pub record IsFreshInstance (old new : ContextEntries) (ty : Ty) (t : Open) : Type 0 where
  pub type : t ≡ behind_front (existentials (fresh_numbers (front_count (open_from ty)) old)) (open_from ty)
  pub context : new ≡ old ++ map (λ n. Exists n) (fresh_numbers (front_count (open_from ty)) old)

-- each type is well-formed in a context
abbrev pub AreTypes : Arity → ContextEntries → Opens → Type 0
AreTypes arity es none = Unit {0}
AreTypes arity es (more t ts) = IsTypeIn arity es 0 t × AreTypes arity es ts

-- in a state a pattern stands against a type
abbrev pub Matches : Known → State → Pattern → Open → PatternOutcome → Type 0
Matches known state p t o = MatchesPattern known state.spot.node state.sight.variables state.context p t o

-- and patterns stand against as many types
abbrev pub MatchesAll : Known → State → Patterns → Opens → PatternOutcome → Type 0
MatchesAll known state ps ts o = MatchesPatterns known state.spot.node state.sight.variables state.context ps ts o

-- a pattern is matched, and the walk stands behind it
pub record IsMatched (known : Known) (old new : State) (p : Pattern) (t : Open) : Type 0 where
  pub outcome : Matches known old p t (matched new.sight.variables new.context)
  pub seen : new.sight.seen ≡ old.sight.seen
  pub spot : new.spot ≡ passed old.spot (length (pattern_nodes p))

-- patterns are matched, and the walk stands behind them
pub record AreMatched (known : Known) (old new : State) (ps : Patterns) (ts : Opens) : Type 0 where
  pub outcome : MatchesAll known old ps ts (matched new.sight.variables new.context)
  pub seen : new.sight.seen ≡ old.sight.seen
  pub spot : new.spot ≡ passed old.spot (length (patterns_nodes ps))
