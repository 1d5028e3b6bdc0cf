-- How the checking of patterns and terms ends.
use Rattle.std.specs.Prelude.{ℕ, List, Option}
use Rattle.uc_context.specs.declared.entry.Entry.{Entry}
use Rattle.uc_context.specs.Entries.{ContextEntries, dropped_from}
use Rattle.uc_context.specs.Opens.{Open}
use Rattle.uc_subtyping.specs.Outcomes.{Refusal, ill, large}

-- why it stops, and the number of the node where: a signature is wanting, no rule fits or what the first that fits asks for doesn't hold, or a type is too large
pub data Stop : Type 0 where
  needs_signature : ℕ → Stop
  ill_typed : ℕ → Stop
  too_large : ℕ → Stop

-- a refusal at a node
abbrev pub stop_at : ℕ → Refusal → Stop
stop_at n ill = ill_typed n
stop_at n large = too_large n

-- the numbers of the binders of the variables in scope, the innermost first; a variable that isn't used has none
abbrev pub Variables : Type 0
Variables = List (Option ℕ)

-- a pattern is matched, with its variables in scope, and leaves a context; or it stops
pub data PatternOutcome : Type 0 where
  matched : Variables → ContextEntries → PatternOutcome
  unmatched : Stop → PatternOutcome

-- a term is checked, and leaves a context; or it stops
pub data TermOutcome : Type 0 where
  leaves : ContextEntries → TermOutcome
  stops : Stop → TermOutcome

-- a term has a type found, and leaves a context; or it stops
pub data TypeOutcome : Type 0 where
  gives : Open → ContextEntries → TypeOutcome
  gives_none : Stop → TypeOutcome

-- an outcome whose context is dropped from an entry on
abbrev pub left_before : Entry → TermOutcome → TermOutcome
left_before e (leaves es) = leaves (dropped_from e es)
left_before e (stops s) = stops s

-- a term that was checked gives a type
abbrev pub giving : Open → TermOutcome → TypeOutcome
giving t (leaves es) = gives t es
giving t (stops s) = gives_none s
