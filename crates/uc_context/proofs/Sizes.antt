-- A part of a list is smaller than the list.
use Rattle.std.proofs.Common.{ℕ, zero, suc, ◌<◌, ◌≤◌, List, [], ◌∷◌, length, get_or, arith}
use Rattle.uc_context.specs.Opens.{Open, opens_of, open_size, opens_size}
use Rattle.uc_context.specs.Counts.{levels_of_open, levels_of_opens}

pub open_at : (ts : List Open) (k : ℕ) (t : Open) → k < length ts → open_size (get_or ts k t) < opens_size (opens_of ts)
open_at [] k t h = omega arith
open_at (u ∷ ts) zero t h = omega arith
open_at (u ∷ ts) (suc k) t h = omega (arith, open_at ts k t (omega arith))

-- a part of a list has no more levels than the list
pub levels_at : (ts : List Open) (k : ℕ) (t : Open) → k < length ts → levels_of_open (get_or ts k t) ≤ levels_of_opens (opens_of ts)
levels_at [] k t h = omega arith
levels_at (u ∷ ts) zero t h = omega arith
levels_at (u ∷ ts) (suc k) t h = omega (arith, levels_at ts k t (omega arith))

-- what each walk over types uses to end
pub ruleset parts = (open_at, levels_at)
