-- What a component of definitions comes to.
use Rattle.std.specs.Prelude.{◌≡◌, ℕ, suc, ◌+◌, Bool, true, false, if◌then◌else◌, List, [], ◌∷◌, ◌++◌, map, length, Option, Some, None}
use Rattle.std.specs.List.{list_any}
use Rattle.uc_base.specs.declared.place.Spot.{Spot}
use Rattle.uc_tree.specs.declared.definition.Definition.{Definition}
use Rattle.uc_tree.specs.declared.target.Target.{Target}
use Rattle.uc_tree.specs.declared.target.Target.TheVariants.{Stored, Own, OwnCtor}
use Rattle.uc_tree.specs.Nodes.{ty_nodes}
use Rattle.uc_tree.specs.Targets.{term_targets}
use Rattle.uc_tree.specs.Terms.{Term}
use Rattle.uc_tree.specs.Types.{Ty}
use Rattle.uc_kinds.specs.PatternTyping.{Known}
use Rattle.uc_context.specs.Closing.{open_from}
use Rattle.uc_context.specs.Counts.{IsSmall}
use Rattle.uc_context.specs.Entries.{ContextEntries}
use Rattle.uc_context.specs.Generalising.{generalised}
use Rattle.uc_context.specs.Occurring.{existentials_of}
use Rattle.uc_context.specs.Opens.{Open}
use Rattle.uc_typing.specs.Checking.{Synthesizes, Meets}
use Rattle.uc_typing.specs.Scopes.{no_sight}
use Rattle.uc_typing.specs.Stops.{Stop, needs_signature, ill_typed, too_large, leaves, stops, gives, gives_none}

-- a term without a signature has a type, whose existentials are quantified at its front in the order of their first occurrence; or it stops
pub data HasTypeFound : Known → Term → Open → Type 0 where
  type_found : {known : Known} {e : Term} {t u : Open} {es : ContextEntries}
      → Synthesizes known no_sight 1 [] e (gives t es) → u ≡ generalised (existentials_of t) t → IsSmall u → HasTypeFound known e u

-- why a term without a signature has no type
pub data HasNoTypeFound : Known → Term → Stop → Type 0 where
  no_type_found : {known : Known} {e : Term} {stop : Stop} → Synthesizes known no_sight 1 [] e (gives_none stop) → HasNoTypeFound known e stop
  type_too_large : {known : Known} {e : Term} {t : Open} {es : ContextEntries}
      → Synthesizes known no_sight 1 [] e (gives t es) → (IsSmall (generalised (existentials_of t) t) → ⊥) → HasNoTypeFound known e (too_large 1)

-- what a member comes to: a type, or a stop
pub data MemberOutcome : Type 0 where
  member_type : Ty → MemberOutcome
  member_stop : Stop → MemberOutcome

-- a member with a signature has that as its type, where its body meets it; without one it has the type that is found
pub data HasMemberOutcome : Known → Definition → MemberOutcome → Type 0 where
  signed_member : {known : Known} {ty : Ty} {e : Term} {es : ContextEntries}
      → Meets known no_sight (1 + length (ty_nodes ty)) [] e (open_from ty) (leaves es) → HasMemberOutcome known (record { signature = Some ty; body = e }) (member_type ty)
  signed_stop : {known : Known} {ty : Ty} {e : Term} {stop : Stop}
      → Meets known no_sight (1 + length (ty_nodes ty)) [] e (open_from ty) (stops stop) → HasMemberOutcome known (record { signature = Some ty; body = e }) (member_stop stop)
  unsigned_member : {known : Known} {ty : Ty} {e : Term} → HasTypeFound known e (open_from ty) → HasMemberOutcome known (record { signature = None; body = e }) (member_type ty)
  unsigned_stop : {known : Known} {e : Term} {stop : Stop} → HasNoTypeFound known e stop → HasMemberOutcome known (record { signature = None; body = e }) (member_stop stop)

-- what a component comes to: the types of its members, or a spot where a signature is wanting, where no rule fits, or where a type is too large
pub data CheckOutcome : Type 0 where
  types : List Ty → CheckOutcome
  needs : Spot → CheckOutcome
  ill : Spot → CheckOutcome
  large : Spot → CheckOutcome

-- a stop of a member
abbrev pub stopped_at : ℕ → Stop → CheckOutcome
stopped_at k (needs_signature n) = needs (record { member = k; node = n })
stopped_at k (ill_typed n) = ill (record { member = k; node = n })
stopped_at k (too_large n) = large (record { member = k; node = n })

-- the members from a number on, behind members with types, have types one after another up to the first that stops
pub data HaveOutcomes : Known → ℕ → List Definition → List Ty → CheckOutcome → Type 0 where
  all_have_types : {known : Known} {k : ℕ} {found : List Ty} → HaveOutcomes known k [] found (types found)
  member_has_type : {known : Known} {k : ℕ} {d : Definition} {ds : List Definition} {found after : List Ty} {ty : Ty} {o : CheckOutcome}
      → HasMemberOutcome known d (member_type ty) → after ≡ found ++ ty ∷ [] → HaveOutcomes known (suc k) ds after o
      → HaveOutcomes known k (d ∷ ds) found o
  member_stops : {known : Known} {k : ℕ} {d : Definition} {ds : List Definition} {found : List Ty} {stop : Stop} {o : CheckOutcome}
      → HasMemberOutcome known d (member_stop stop) → o ≡ stopped_at k stop → HaveOutcomes known k (d ∷ ds) found o

-- whether a target is a member of the same component
abbrev pub is_own : Target → Bool
is_own (Stored r) = false
is_own (Own k) = true
is_own (OwnCtor k c) = false

-- whether the members refer to each other in a cycle, which one alone does where it refers to itself
abbrev pub is_cycle : List Definition → Bool
is_cycle [] = false
is_cycle (d ∷ []) = list_any is_own (term_targets d.body)
is_cycle (d ∷ e ∷ ds) = true

-- a number where there is no signature, or else what is found behind
abbrev pub number_or : ℕ → Option Ty → Option ℕ → Option ℕ
number_or k None behind = Some k
number_or k (Some ty) behind = behind

-- the number of the first member without a signature, counted from one on
abbrev pub first_unsigned : ℕ → List Definition → Option ℕ
first_unsigned k [] = None
first_unsigned k (d ∷ ds) = number_or k d.signature (first_unsigned (suc k) ds)

-- the first member that needs a signature
abbrev pub missing_signature : List Definition → Option ℕ
missing_signature ds = if is_cycle ds then first_unsigned 0 ds else None

-- with the signatures of members known
abbrev pub with_members : Known → List Definition → Known
with_members known ds = record { arity = known.arity; type_of = known.type_of; signatures = map (λ (d : Definition). d.signature) ds }

-- A component comes to what its members come to, once no signature is missing. The spot of a missing one is the name of the member.
pub data HasOutcome : Known → List Definition → CheckOutcome → Type 0 where
  missing : {known : Known} {ds : List Definition} {k : ℕ} {o : CheckOutcome}
      → missing_signature ds ≡ Some k → o ≡ needs (record { member = k; node = 0 }) → HasOutcome known ds o
  by_members : {known : Known} {ds : List Definition} {o : CheckOutcome}
      → missing_signature ds ≡ None → HaveOutcomes (with_members known ds) 0 ds [] o → HasOutcome known ds o

-- what a term that stands alone comes to: its type, or where it stops
pub data HasWatchOutcome : Known → Term → CheckOutcome → Type 0 where
  watch_type : {known : Known} {e : Term} {ty : Ty} → HasTypeFound (with_members known []) e (open_from ty) → HasWatchOutcome known e (types (ty ∷ []))
  watch_stop : {known : Known} {e : Term} {stop : Stop} {o : CheckOutcome} → HasNoTypeFound (with_members known []) e stop → o ≡ stopped_at 0 stop → HasWatchOutcome known e o
