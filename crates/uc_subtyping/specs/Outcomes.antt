-- How a judgement of the algorithm ends.
use Rattle.uc_context.specs.declared.entry.Entry.{Entry}
use Rattle.uc_context.specs.Entries.{ContextEntries, dropped_from}

-- why it is refused: no rule fits, or what the first that fits asks for doesn't hold; or a type is larger than types in the checker may be
pub data Refusal : Type 0 where
  ill : Refusal
  large : Refusal

-- it leaves a context, or it is refused
pub data Outcome : Type 0 where
  done : ContextEntries → Outcome
  refused : Refusal → Outcome

-- the same with the context dropped from an entry on
abbrev pub without : Entry → Outcome → Outcome
without e (done es) = done (dropped_from e es)
without e (refused why) = refused why
