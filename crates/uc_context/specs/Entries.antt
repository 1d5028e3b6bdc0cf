-- The entries of a context, the oldest first.
use Rattle.std.specs.Prelude.{ℕ, ◌<◌, Bool, false, ◌==◌, ◌&&◌, if◌then◌else◌, List, [], ◌∷◌, IsTrue}
use Rattle.std.specs.List.{list_any}
use Rattle.uc_tree.specs.Same.{same_code}
use Rattle.uc_context.specs.declared.entry.Entry.{Entry}
use Rattle.uc_context.specs.declared.entry.Entry.TheVariants.{Rigid, Exists, Solved, Mark, Binder}
use Rattle.uc_context.specs.OpenCodes.{coded_open}

abbrev pub ContextEntries : Type 0
ContextEntries = List Entry

-- the number of an entry
abbrev pub number_of : Entry → ℕ
number_of (Rigid x) = x
number_of (Exists x) = x
number_of (Solved x t) = x
number_of (Mark x) = x
number_of (Binder x t) = x

-- whether it has this number
abbrev pub is_numbered : ℕ → Entry → Bool
is_numbered x e = number_of e == x

-- whether it is the rigid variable with this number
abbrev pub is_rigid : ℕ → Entry → Bool
is_rigid x (Rigid y) = y == x
is_rigid x (Exists y) = false
is_rigid x (Solved y t) = false
is_rigid x (Mark y) = false
is_rigid x (Binder y t) = false

-- whether it is the existential with this number, and not solved
abbrev pub is_unsolved : ℕ → Entry → Bool
is_unsolved x (Rigid y) = false
is_unsolved x (Exists y) = y == x
is_unsolved x (Solved y t) = false
is_unsolved x (Mark y) = false
is_unsolved x (Binder y t) = false

-- whether it is the existential with this number, solved or not
abbrev pub declares : ℕ → Entry → Bool
declares x (Rigid y) = false
declares x (Exists y) = y == x
declares x (Solved y t) = y == x
declares x (Mark y) = false
declares x (Binder y t) = false

-- whether it is the rigid variable or the existential with this number
abbrev pub is_variable : ℕ → Entry → Bool
is_variable x (Rigid y) = y == x
is_variable x (Exists y) = y == x
is_variable x (Solved y t) = y == x
is_variable x (Mark y) = false
is_variable x (Binder y t) = false

-- whether it is a binder with this number
abbrev pub is_binder : ℕ → Entry → Bool
is_binder x (Rigid y) = false
is_binder x (Exists y) = false
is_binder x (Solved y t) = false
is_binder x (Mark y) = false
is_binder x (Binder y t) = y == x

-- whether two entries are the same
abbrev pub is_same_entry : Entry → Entry → Bool
is_same_entry (Rigid x) (Rigid y) = x == y
is_same_entry (Exists x) (Exists y) = x == y
is_same_entry (Solved x s) (Solved y t) = x == y && same_code coded_open s t
is_same_entry (Mark x) (Mark y) = x == y
is_same_entry (Binder x s) (Binder y t) = x == y && same_code coded_open s t
is_same_entry _ _ = false

-- what stands before the variable with this number, or all where there is none
abbrev pub before : ℕ → ContextEntries → ContextEntries
before x [] = []
before x (e ∷ es) = if is_variable x e then [] else e ∷ before x es

-- an existential stands before a variable
abbrev pub IsDeclaredBefore : ContextEntries → ℕ → ℕ → Type 0
IsDeclaredBefore es x y = IsTrue (list_any (declares x) (before y es))

-- what stands before the last entry that is this one, or all where there is none
abbrev pub dropped_from : Entry → ContextEntries → ContextEntries
dropped_from d [] = []
dropped_from d (e ∷ es) = if list_any (is_same_entry d) es then e ∷ dropped_from d es else (if is_same_entry d e then [] else e ∷ es)

-- a number that no entry has, where each lower one is that of an entry
pub record IsFresh (es : ContextEntries) (n : ℕ) : Type 0 where
  pub unused : IsTrue (list_any (is_numbered n) es) → ⊥
  pub least : (m : ℕ) → m < n → IsTrue (list_any (is_numbered m) es)
