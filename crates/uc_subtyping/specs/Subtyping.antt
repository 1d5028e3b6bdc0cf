-- Algorithmic subtyping: Dunfield and Krishnaswami 2013, figure 9, with data types and tuples. The first rule that fits is the only one.
use Rattle.std.specs.Prelude.{◌≡◌, ℕ, ◌⊎◌, Bool, true, false, [], ◌∷◌, ◌++◌}
use Rattle.uc_tree.specs.declared.target.Target.{Target}
use Rattle.uc_context.specs.declared.entry.Entry.TheVariants.{Rigid, Exists, Mark}
use Rattle.uc_context.specs.Opens.{Open, bound, rigid, existential, quantified, arrow, unit, tuple, applied, Opens, none, more}
use Rattle.uc_context.specs.Contexts.{type_under}
use Rattle.uc_context.specs.Counts.{IsSmall}
use Rattle.uc_context.specs.Entries.{ContextEntries}
use Rattle.uc_context.specs.Fresh.{fresh_number}
use Rattle.uc_context.specs.Variables.{opened_at, mentions}
use Rattle.uc_subtyping.specs.declared.side.Side.TheVariants.{Below, Above}
use Rattle.uc_subtyping.specs.Instances.{opens_count}
use Rattle.uc_subtyping.specs.Instantiation.{SolvesInstance}
use Rattle.uc_subtyping.specs.Outcomes.{Outcome, done, refused, ill, large, Refusal, without}

abbrev pub is_quantified : Open → Bool
is_quantified (quantified t) = true
is_quantified _ = false

abbrev pub is_existential : Open → Bool
is_existential (existential x) = true
is_existential _ = false

-- a rule fits two types of which neither is quantified
abbrev pub HasRule : Open → Open → Type 0
HasRule (existential x) (existential y) = Unit {0}
HasRule (existential x) u = mentions x u ≡ false
HasRule t (existential y) = mentions y t ≡ false
HasRule (rigid x) (rigid y) = x ≡ y
HasRule unit unit = Unit {0}
HasRule (arrow a b) (arrow c d) = Unit {0}
HasRule (tuple ts) (tuple us) = opens_count ts ≡ opens_count us
HasRule (applied h ts) (applied k us) = (h ≡ k) × (opens_count ts ≡ opens_count us)
HasRule t u = ⊥

-- both types with the solutions put in are within limits
abbrev pub AreSmall : ContextEntries → Open → Open → Type 0
AreSmall es t u = IsSmall (type_under es t) × IsSmall (type_under es u)

mutual
  -- From a context the first type becomes a subtype of the second.
  pub data SolvesSubtype : ContextEntries → Open → Open → Outcome → Type 0 where
    subtype_right : {es : ContextEntries} {n : ℕ} {a b : Open} {o p : Outcome}
        → n ≡ fresh_number es
        → SolvesSubtype (es ++ Rigid n ∷ []) a (opened_at 0 (rigid n) b) o
        → p ≡ without (Rigid n) o → SolvesSubtype es a (quantified b) p
    subtype_left : {es : ContextEntries} {n : ℕ} {a b : Open} {o p : Outcome}
        → is_quantified b ≡ false → n ≡ fresh_number es
        → SolvesSubtype (es ++ Mark n ∷ Exists n ∷ []) (opened_at 0 (existential n) a) b o
        → p ≡ without (Mark n) o → SolvesSubtype es (quantified a) b p
    subtype_rigid : {es : ContextEntries} {x : ℕ} → SolvesSubtype es (rigid x) (rigid x) (done es)
    subtype_existential : {es : ContextEntries} {x : ℕ} → SolvesSubtype es (existential x) (existential x) (done es)
    subtype_unit : {es : ContextEntries} → SolvesSubtype es unit unit (done es)
    subtype_arrow : {es : ContextEntries} {a b c d : Open} {o : Outcome}
        → SolvesSubtypes es (more c (more b none)) (more a (more d none)) o → SolvesSubtype es (arrow a b) (arrow c d) o
    subtype_tuple : {es : ContextEntries} {ts us : Opens} {o : Outcome}
        → opens_count ts ≡ opens_count us → SolvesSubtypes es ts us o → SolvesSubtype es (tuple ts) (tuple us) o
    subtype_data : {es : ContextEntries} {h : Target} {ts us : Opens} {o : Outcome}
        → opens_count ts ≡ opens_count us → SolvesSubtypes es ts us o → SolvesSubtype es (applied h ts) (applied h us) o
    subtype_below : {es : ContextEntries} {x : ℕ} {b : Open} {o : Outcome}
        → is_quantified b ≡ false → mentions x b ≡ false
        → SolvesInstance Below es x b o → SolvesSubtype es (existential x) b o
    subtype_above : {es : ContextEntries} {y : ℕ} {a : Open} {o : Outcome}
        → is_quantified a ≡ false → is_existential a ≡ false → mentions y a ≡ false
        → SolvesInstance Above es y a o → SolvesSubtype es a (existential y) o
    subtype_ill : {es : ContextEntries} {a b : Open}
        → is_quantified a ≡ false → is_quantified b ≡ false → (HasRule a b → ⊥)
        → SolvesSubtype es a b (refused ill)

  -- Types of two lists become subtypes one after another, each with the solutions put in that there are by then. A type that is too large is refused.
  pub data SolvesSubtypes : ContextEntries → Opens → Opens → Outcome → Type 0 where
    subtypes_done : {es : ContextEntries} → SolvesSubtypes es none none (done es)
    subtypes_next : {es fs : ContextEntries} {t u : Open} {ts us : Opens} {o : Outcome}
        → AreSmall es t u → SolvesSubtype es (type_under es t) (type_under es u) (done fs)
        → SolvesSubtypes fs ts us o → SolvesSubtypes es (more t ts) (more u us) o
    subtypes_refused : {es : ContextEntries} {t u : Open} {ts us : Opens} {why : Refusal}
        → AreSmall es t u → SolvesSubtype es (type_under es t) (type_under es u) (refused why)
        → SolvesSubtypes es (more t ts) (more u us) (refused why)
    subtypes_large : {es : ContextEntries} {t u : Open} {ts us : Opens}
        → (AreSmall es t u → ⊥) → SolvesSubtypes es (more t ts) (more u us) (refused large)
