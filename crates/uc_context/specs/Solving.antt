-- Contexts in which an existential is solved.
use Rattle.std.specs.Prelude.{ℕ, if◌then◌else◌, List, [], ◌∷◌, ◌++◌, map}
use Rattle.uc_tree.specs.declared.target.Target.{Target}
use Rattle.uc_context.specs.declared.entry.Entry.TheVariants.{Exists, Solved}
use Rattle.uc_context.specs.Opens.{Open, existential, arrow, tuple, applied, opens_of}
use Rattle.uc_context.specs.Entries.{ContextEntries, is_unsolved}

-- other entries in place of an unsolved existential
abbrev pub exchanged : ℕ → ContextEntries → ContextEntries → ContextEntries
exchanged x new [] = []
exchanged x new (e ∷ es) = if is_unsolved x e then new ++ es else e ∷ exchanged x new es

-- an existential solved by a type
abbrev pub solved : ContextEntries → ℕ → Open → ContextEntries
solved es x t = exchanged x (Solved x t ∷ []) es

-- an existential solved by a type of new ones, which stand before it
abbrev pub solved_with : ContextEntries → ℕ → List ℕ → Open → ContextEntries
solved_with es x numbers t = exchanged x (map (λ n. Exists n) numbers ++ Solved x t ∷ []) es

-- an existential solved by an arrow; the new one of the result stands before that of the argument
abbrev pub solved_with_arrow : ContextEntries → ℕ → ℕ → ℕ → ContextEntries
solved_with_arrow es x argument result = solved_with es x (result ∷ argument ∷ []) (arrow (existential argument) (existential result))

-- an existential solved by a declared type; the new ones of its arguments stand in their order
abbrev pub solved_with_data : ContextEntries → ℕ → Target → List ℕ → ContextEntries
solved_with_data es x head numbers = solved_with es x numbers (applied head (opens_of (map (λ n. existential n) numbers)))

-- an existential solved by a tuple; the new ones of its parts stand in their order
abbrev pub solved_with_tuple : ContextEntries → ℕ → List ℕ → ContextEntries
solved_with_tuple es x numbers = solved_with es x numbers (tuple (opens_of (map (λ n. existential n) numbers)))
