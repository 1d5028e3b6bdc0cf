-- Contexts that have what others have: Dunfield and Krishnaswami 2013, figure 15, where solutions stay as they are.
use Rattle.std.specs.Prelude.{ℕ, [], ◌∷◌}
use Rattle.uc_context.specs.declared.entry.Entry.{Entry}
use Rattle.uc_context.specs.declared.entry.Entry.TheVariants.{Exists, Solved}
use Rattle.uc_context.specs.Entries.{ContextEntries}
use Rattle.uc_context.specs.Opens.{Open}

-- the second context has the entries of the first, in order, of which existentials may be solved, and new existentials between them
pub data Extends : ContextEntries → ContextEntries → Type 0 where
  extends_none : Extends [] []
  extends_same : {e : Entry} {es fs : ContextEntries} → Extends es fs → Extends (e ∷ es) (e ∷ fs)
  extends_solved : {x : ℕ} {t : Open} {es fs : ContextEntries} → Extends es fs → Extends (Exists x ∷ es) (Solved x t ∷ fs)
  extends_new : {x : ℕ} {es fs : ContextEntries} → Extends es fs → Extends es (Exists x ∷ fs)
  extends_new_solved : {x : ℕ} {t : Open} {es fs : ContextEntries} → Extends es fs → Extends es (Solved x t ∷ fs)
