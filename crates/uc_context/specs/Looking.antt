-- Looking for entries.
use Rattle.std.specs.Prelude.{◌≡◌, ℕ, Bool, true, Option, Some, None, get_or}
use Rattle.uc_context.specs.declared.entry.Entry.{Entry}
use Rattle.uc_context.specs.declared.entry.Entry.TheVariants.{Rigid, Exists, Solved, Mark, Binder}
use Rattle.uc_context.specs.Entries.{ContextEntries, is_variable}
use Rattle.uc_context.specs.Index.{last_place}
use Rattle.uc_context.specs.Opens.{Open}

-- a test passes only the rigid variable or the existential with a number
abbrev pub TestsVariable : ℕ → (Entry → Bool) → Type 0
TestsVariable x test = (e : Entry) → test e ≡ true → is_variable x e ≡ true

-- the last entry that passes a test, with its place
pub record HasAt (test : Entry → Bool) (es : ContextEntries) (place : ℕ) (e : Entry) : Type 0 where
  pub found : last_place test es ≡ Some place
  pub entry : e ≡ get_or es place e

-- what the existential stands for that an entry declares
abbrev pub solution_in : Entry → Option Open
solution_in (Rigid x) = None
solution_in (Exists x) = None
solution_in (Solved x t) = Some t
solution_in (Mark x) = None
solution_in (Binder x t) = None

-- the type of the variable that an entry binds
abbrev pub type_in : Entry → Option Open
type_in (Rigid x) = None
type_in (Exists x) = None
type_in (Solved x t) = None
type_in (Mark x) = None
type_in (Binder x t) = Some t
