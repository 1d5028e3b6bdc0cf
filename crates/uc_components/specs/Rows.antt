-- Rows of rows, as lists of lists.
use Rattle.std.specs.Prelude.{ℕ, List, [], ◌∷◌, ◌++◌, map, slice_set, slice_index_or, Vec}
use Rattle.std.specs.declared.alloc.Global.{Global}

-- the lists that the rows are
abbrev pub lists : {X : Type 0} → Vec (Vec X Global) Global → List (List X)
lists rows = map (λ row. row.items) rows.items

-- the lists with one item more at the end of the list at a place
abbrev pub pushed : {X : Type 0} → List (List X) → ℕ → X → List (List X)
pushed lists at item = slice_set lists at (slice_index_or lists at [] ++ item ∷ [])
