-- What was read of an input.
use Rattle.std.specs.Prelude.{◌≡◌, ℕ, ◌≤◌, List, [], ◌++◌, length, Bool, false}

-- at most so many bytes were taken from what was left
pub record Consumes (old new : List ℕ) (most : ℕ) : Type 0 where
  pub read : List ℕ
  pub left : old ≡ read ++ new
  pub few : length read ≤ most

-- a piece was read and appended to the text; where the input doesn't go on nothing was left
pub record HasRead (old new text_old text_new : List ℕ) (more : Bool) : Type 0 where
  pub piece : List ℕ
  pub left : old ≡ piece ++ new
  pub text : text_new ≡ text_old ++ piece
  pub ended : more ≡ false → (piece ≡ []) × (old ≡ [])
