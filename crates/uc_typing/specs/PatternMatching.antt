-- Patterns against types, by the algorithm.
use Rattle.std.specs.Prelude.{◌≡◌, ℕ, zero, suc, ◌+◌, List, [], ◌∷◌, ◌++◌, map, length, Option, Some, None}
use Rattle.uc_tree.specs.Nodes.{pattern_nodes}
use Rattle.uc_tree.specs.Patterns.{Pattern, Patterns}
use Rattle.uc_tree.specs.Patterns as patterns
use Rattle.uc_tree.specs.Types.{Ty}
use Rattle.uc_kinds.specs.PatternTyping.{Known, target_type}
use Rattle.uc_context.specs.declared.entry.Entry.TheVariants.{Exists, Binder}
use Rattle.uc_context.specs.Closing.{open_from}
use Rattle.uc_context.specs.Entries.{ContextEntries}
use Rattle.uc_context.specs.Fresh.{fresh_number, fresh_numbers}
use Rattle.uc_context.specs.Opens.{Open, existential, unit, tuple, Opens, none, more, opens_of}
use Rattle.uc_subtyping.specs.Instances.{opens_count}
use Rattle.uc_subtyping.specs.Outcomes.{done, refused, Refusal}
use Rattle.uc_subtyping.specs.Subtyping.{SolvesSubtypes}
use Rattle.uc_typing.specs.Fronts.{front_count, behind_front, existentials, arguments_of, result_of, repeated, list_of, literal_type}
use Rattle.uc_typing.specs.Stops.{Stop, ill_typed, stop_at, Variables, PatternOutcome, matched, unmatched}

-- how many patterns a list has
abbrev pub patterns_count : Patterns → ℕ
patterns_count patterns.none = zero
patterns_count (patterns.more p ps) = suc (patterns_count ps)

-- What a pattern expects of the type that it stands against: with new existentials in the context the type is a subtype of this one, and the parts of the pattern stand against as many types.
pub record Expectation : Type 0 where
  pub context : ContextEntries
  pub type : Open
  pub parts : Patterns
  pub types : Opens

-- a pattern without parts expects a type
abbrev pub expects_type : ContextEntries → Open → Expectation
expects_type es t = record { context = es; type = t; parts = patterns.none; types = none }

-- a tuple has a type for each part
abbrev pub expects_tuple : ContextEntries → Patterns → List ℕ → Expectation
expects_tuple es ps numbers = record { context = es ++ map (λ n. Exists n) numbers; type = tuple (opens_of (existentials numbers)); parts = ps; types = opens_of (existentials numbers) }

-- a list has one type for all
abbrev pub expects_list : ContextEntries → Patterns → (Open → Opens) → ℕ → Expectation
expects_list es ps types n = record { context = es ++ Exists n ∷ []; type = list_of (existential n); parts = ps; types = types (existential n) }

-- a constructor has its fields, at existentials for its parameters
abbrev pub expects_fields : ContextEntries → Patterns → Open → List ℕ → Expectation
expects_fields es ps t numbers = record { context = es ++ map (λ n. Exists n) numbers; type = result_of (behind_front (existentials numbers) t); parts = ps; types = arguments_of (behind_front (existentials numbers) t) }

-- a constructor that has a type
abbrev pub expects_constructor : ContextEntries → Patterns → Option Ty → Option Expectation
expects_constructor es ps None = None
expects_constructor es ps (Some ty) = Some (expects_fields es ps (open_from ty) (fresh_numbers (front_count (open_from ty)) es))

-- what patterns expect that don't fit every type
abbrev pub expected : Known → ContextEntries → Pattern → Option Expectation
expected known es patterns.any = None
expected known es patterns.variable = None
expected known es (patterns.alias p) = None
expected known es (patterns.literal l) = Some (expects_type es (literal_type l))
expected known es patterns.unit = Some (expects_type es unit)
expected known es (patterns.tuple ps) = Some (expects_tuple es ps (fresh_numbers (patterns_count ps) es))
expected known es (patterns.list ps) = Some (expects_list es ps (repeated (patterns_count ps)) (fresh_number es))
expected known es (patterns.constructor x ps) = expects_constructor es ps (target_type known x)
expected known es (patterns.cons p q) = Some (expects_list es (patterns.more p (patterns.more q patterns.none)) (λ t. more t (more (list_of t) none)) (fresh_number es))
expected known es (patterns.snoc p q) = Some (expects_list es (patterns.more p (patterns.more q patterns.none)) (λ t. more (list_of t) (more t none)) (fresh_number es))

mutual
  -- From a context, and with variables in scope, a pattern at a node stands against a type.
  pub data MatchesPattern : Known → ℕ → Variables → ContextEntries → Pattern → Open → PatternOutcome → Type 0 where
    matches_any : {known : Known} {at : ℕ} {vars : Variables} {es : ContextEntries} {s : Open} → MatchesPattern known at vars es patterns.any s (matched vars es)
    matches_variable : {known : Known} {at n : ℕ} {vars vars' : Variables} {es fs : ContextEntries} {s : Open}
        → n ≡ fresh_number es → vars' ≡ Some n ∷ vars → fs ≡ es ++ Binder n s ∷ [] → MatchesPattern known at vars es patterns.variable s (matched vars' fs)
    matches_alias : {known : Known} {at n : ℕ} {vars : Variables} {es : ContextEntries} {p : Pattern} {s : Open} {o : PatternOutcome}
        → n ≡ fresh_number es → MatchesPattern known (at + 1) (Some n ∷ vars) (es ++ Binder n s ∷ []) p s o → MatchesPattern known at vars es (patterns.alias p) s o
    matches_expected : {known : Known} {at : ℕ} {vars : Variables} {es : ContextEntries} {p : Pattern} {s : Open} {x : Expectation} {o : PatternOutcome}
        → expected known es p ≡ Some x → MeetsExpectation known at vars x s o → MatchesPattern known at vars es p s o

  -- a type meets what a pattern at a node expects; the pattern stops at itself where the type isn't below that, and where it has not as many parts
  pub data MeetsExpectation : Known → ℕ → Variables → Expectation → Open → PatternOutcome → Type 0 where
    meets_parts : {known : Known} {at : ℕ} {vars : Variables} {x : Expectation} {fs : ContextEntries} {s : Open} {o : PatternOutcome}
        → SolvesSubtypes x.context (more s none) (more x.type none) (done fs)
        → patterns_count x.parts ≡ opens_count x.types → MatchesPatterns known (at + 1) vars fs x.parts x.types o
        → MeetsExpectation known at vars x s o
    meets_other_count : {known : Known} {at : ℕ} {vars : Variables} {x : Expectation} {fs : ContextEntries} {s : Open}
        → SolvesSubtypes x.context (more s none) (more x.type none) (done fs)
        → (patterns_count x.parts ≡ opens_count x.types → ⊥) → MeetsExpectation known at vars x s (unmatched (ill_typed at))
    meets_refused : {known : Known} {at : ℕ} {vars : Variables} {x : Expectation} {s : Open} {why : Refusal} {stop : Stop}
        → SolvesSubtypes x.context (more s none) (more x.type none) (refused why)
        → stop ≡ stop_at at why → MeetsExpectation known at vars x s (unmatched stop)

  -- patterns against as many types, one after another; the first has a number
  pub data MatchesPatterns : Known → ℕ → Variables → ContextEntries → Patterns → Opens → PatternOutcome → Type 0 where
    patterns_done : {known : Known} {at : ℕ} {vars : Variables} {es : ContextEntries} → MatchesPatterns known at vars es patterns.none none (matched vars es)
    patterns_next : {known : Known} {at : ℕ} {vars ws : Variables} {es fs : ContextEntries} {p : Pattern} {ps : Patterns} {t : Open} {ts : Opens} {o : PatternOutcome}
        → MatchesPattern known at vars es p t (matched ws fs) → MatchesPatterns known (at + length (pattern_nodes p)) ws fs ps ts o
        → MatchesPatterns known at vars es (patterns.more p ps) (more t ts) o
    patterns_stop : {known : Known} {at : ℕ} {vars : Variables} {es : ContextEntries} {p : Pattern} {ps : Patterns} {t : Open} {ts : Opens} {stop : Stop}
        → MatchesPattern known at vars es p t (unmatched stop) → MatchesPatterns known at vars es (patterns.more p ps) (more t ts) (unmatched stop)
