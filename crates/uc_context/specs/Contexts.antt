-- Contexts, and types under them.
use Rattle.std.specs.Prelude.{◌≡◌, ℕ, false, ◌==◌, if◌then◌else◌, [], ◌∷◌, ◌++◌, IsTrue, Option, Some, None}
use Rattle.std.specs.List.{list_any}
use Rattle.std.specs.Option.{option_or}
use Rattle.uc_context.specs.declared.entry.Entry.{Entry}
use Rattle.uc_context.specs.declared.entry.Entry.TheVariants.{Rigid, Exists, Solved, Mark, Binder}
use Rattle.uc_context.specs.Opens.{Open, Opens, none, more}
use Rattle.uc_context.specs.Entries.{ContextEntries, is_variable, before}
use Rattle.uc_context.specs.Variables.{replaced, declares_all}

-- an entry can follow others: no variable is declared twice, and a solution has only existentials that stand before it
abbrev pub CanFollow : ContextEntries → Entry → Type 0
CanFollow es (Rigid x) = list_any (is_variable x) es ≡ false
CanFollow es (Exists x) = list_any (is_variable x) es ≡ false
CanFollow es (Solved x t) = (list_any (is_variable x) es ≡ false) × IsTrue (declares_all es t)
CanFollow es (Mark x) = Unit {0}
CanFollow es (Binder x t) = Unit {0}

-- each entry can follow these and those before it
abbrev pub AreInOrder : ContextEntries → ContextEntries → Type 0
AreInOrder front [] = Unit {0}
AreInOrder front (e ∷ es) = CanFollow front e × AreInOrder (front ++ e ∷ []) es

-- each entry can follow those before it
abbrev pub IsContext : ContextEntries → Type 0
IsContext es = AreInOrder [] es

-- each existential of a type stands before a variable
abbrev pub AreDeclaredBefore : ContextEntries → Open → ℕ → Type 0
AreDeclaredBefore es t x = IsTrue (declares_all (before x es) t)

-- a type with the solution of an entry put in, where it has one
abbrev pub put_in : Entry → Open → Open
put_in (Rigid x) t = t
put_in (Exists x) t = t
put_in (Solved x s) t = replaced x s t
put_in (Mark x) t = t
put_in (Binder x s) t = t

-- a type with the solutions put in, the newest first
abbrev pub type_under : ContextEntries → Open → Open
type_under [] t = t
type_under (e ∷ es) t = put_in e (type_under es t)

-- types with the solutions put in
abbrev pub types_under : ContextEntries → Opens → Opens
types_under es none = none
types_under es (more t ts) = more (type_under es t) (types_under es ts)

-- what an existential stands for, where it is solved
abbrev pub solution_of : ContextEntries → ℕ → Option Open
solution_of [] x = None
solution_of (Rigid y ∷ es) x = solution_of es x
solution_of (Exists y ∷ es) x = solution_of es x
solution_of (Solved y t ∷ es) x = if y == x then Some t else solution_of es x
solution_of (Mark y ∷ es) x = solution_of es x
solution_of (Binder y t ∷ es) x = solution_of es x

-- the type of the last binder with a number
abbrev pub binder_type : ContextEntries → ℕ → Option Open
binder_type [] x = None
binder_type (Rigid y ∷ es) x = binder_type es x
binder_type (Exists y ∷ es) x = binder_type es x
binder_type (Solved y t ∷ es) x = binder_type es x
binder_type (Mark y ∷ es) x = binder_type es x
binder_type (Binder y t ∷ es) x = option_or (binder_type es x) (if y == x then Some t else None)
