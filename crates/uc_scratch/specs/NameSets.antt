-- Names as sets.
use Rattle.std.specs.Prelude.{◌≡◌, ℕ, List}
use Rattle.uc_base.specs.Name.{is_one_of}

-- the same names stand in both
pub record SameNames (xs ys : List (List ℕ)) : Type 0 where
  pub same : (text : List ℕ) → is_one_of xs text ≡ is_one_of ys text
