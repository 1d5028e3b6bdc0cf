-- Variables that patterns bind.
use Rattle.std.specs.Prelude.{◌≡◌, ℕ, List, ◌++◌, map, length, Some}
use Rattle.uc_typing.specs.Stops.{Variables}

-- the second variables are the first with so many more in front, each of which has a binder
pub record Binds (vars ws : Variables) (count : ℕ) : Type 0 where
  pub numbers : List ℕ
  pub whole : ws ≡ map (λ n. Some n) numbers ++ vars
  pub many : length numbers ≡ count
