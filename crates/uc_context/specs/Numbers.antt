-- Uses of numbers, with the least unused ones in a tree.
use Rattle.std.specs.Prelude.{◌≡◌, ℕ, ◌+◌, ◌*◌, ◌==◌, if◌then◌else◌, min, List, map, slice_index, slice_index_or}
use Rattle.uc_context.specs.declared.numbers.Tally.{Tally}

-- how often each number is used
abbrev pub uses_of : List Tally → List ℕ
uses_of ts = map (λ t. t.uses) ts

-- how often a number is used
abbrev pub uses_at : List ℕ → ℕ → ℕ
uses_at uses x = slice_index uses x

-- the tally of a number; past the end a number is unused, and the least below it is the number
abbrev pub tally_at : List Tally → ℕ → Tally
tally_at ts x = slice_index_or ts x (record { uses = 0; least = x })

-- the least unused one of a number and those below it in the tree
abbrev pub winner_at : List Tally → ℕ → ℕ
winner_at ts x = if (tally_at ts x).uses == 0 then x else min (tally_at ts (2 * x + 1)).least (tally_at ts (2 * x + 2)).least

-- the tally of a number has the least unused one below it
abbrev pub IsPlayed : List Tally → ℕ → Type 0
IsPlayed ts x = (tally_at ts x).least ≡ winner_at ts x

abbrev pub IsTournament : List Tally → Type 0
IsTournament ts = (x : ℕ) → IsPlayed ts x
