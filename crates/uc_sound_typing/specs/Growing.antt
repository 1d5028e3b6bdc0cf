-- Contexts that patterns leave.
use Rattle.std.specs.Prelude.{◌≡◌, false, [], ◌∷◌, ◌++◌}
use Rattle.std.specs.List.{list_any}
use Rattle.uc_context.specs.declared.entry.Entry.{Entry}
use Rattle.uc_context.specs.declared.entry.Entry.TheVariants.{Rigid, Exists, Solved, Mark, Binder}
use Rattle.uc_context.specs.Entries.{ContextEntries, is_binder}
use Rattle.uc_soundness.specs.Extending.{Extends}

-- an existential, or a binder with a number that no binder of a context has
abbrev pub IsNewEntry : ContextEntries → Entry → Type 0
IsNewEntry es (Rigid x) = ⊥
IsNewEntry es (Exists x) = Unit {0}
IsNewEntry es (Solved x t) = Unit {0}
IsNewEntry es (Mark x) = ⊥
IsNewEntry es (Binder x t) = list_any (is_binder x) es ≡ false

abbrev pub AreNewEntries : ContextEntries → ContextEntries → Type 0
AreNewEntries es [] = Unit {0}
AreNewEntries es (d ∷ ds) = IsNewEntry es d × AreNewEntries es ds

-- the second context extends the first, with new existentials and binders behind, so that each binder of the first keeps its type
pub record Grows (es fs : ContextEntries) : Type 0 where
  pub front : ContextEntries
  pub new : ContextEntries
  pub whole : fs ≡ front ++ new
  pub extends : Extends es front
  pub behind : AreNewEntries es new
