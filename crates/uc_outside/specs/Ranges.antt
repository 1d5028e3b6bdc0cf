-- The ranges of a record.
use Rattle.std.specs.Prelude.{ℕ, List, [], ◌∷◌}
use Rattle.uc_outside.specs.declared.done.Done.{Done}
use Rattle.uc_outside.specs.declared.done.Done.TheVariants as done

-- the ranges that the calls of a record wrote
abbrev pub ranges_of : List Done → List (ℕ × ℕ)
ranges_of [] = []
ranges_of (done.Wrote at len ∷ calls) = (at, len) ∷ ranges_of calls
ranges_of (done.Spoilt at len ∷ calls) = (at, len) ∷ ranges_of calls
ranges_of (done.Synced ∷ calls) = ranges_of calls
