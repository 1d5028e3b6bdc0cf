-- Places of entries by their numbers.
use Rattle.std.specs.Prelude.{ℕ, ◌+◌, Bool, if◌then◌else◌, List, [], ◌∷◌, Option, Some, None, slice_index_or}
use Rattle.std.specs.Option.{option_map, option_or}
use Rattle.uc_context.specs.declared.entry.Entry.{Entry}
use Rattle.uc_context.specs.Entries.{ContextEntries}

-- the place that is noted for a number
abbrev pub place_at : List (Option ℕ) → ℕ → Option ℕ
place_at places x = slice_index_or places x None

-- the place of the last entry that passes a test
abbrev pub last_place : (Entry → Bool) → ContextEntries → Option ℕ
last_place test [] = None
last_place test (e ∷ es) = option_or (option_map (λ k. k + 1) (last_place test es)) (if test e then Some 0 else None)
