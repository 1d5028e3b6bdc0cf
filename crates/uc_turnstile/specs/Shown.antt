-- What a pass and a turnstile show of themselves.
use Rattle.std.specs.Prelude.{◌≡◌, ℕ, List}
use Rattle.uc_base.specs.declared.worked.Worked.{Ghosts}
use Rattle.uc_turnstile.specs.declared.turnstile.Pass.{Pass}
use Rattle.uc_turnstile.specs.declared.turnstile.Turnstile.{Turnstile}
use Rattle.uc_turnstile.specs.Passes.{PassView}
use Rattle.uc_turnstile.specs.Rule.{pass_view}

module _ {S E Q R : Type 0} {W : Ghosts S E Q R} where
  -- what the pass has seen, its name, splits and turns, and whom it met
  abbrev pub view_of : Pass S E Q R W → PassView E Q R
  view_of pass = pass_view pass.seat.me.0

  -- how many turns the pass may still make
  abbrev pub turns_left_of : Pass S E Q R W → ℕ
  turns_left_of pass = pass.turns_left

  -- how many times the pass may still be split
  abbrev pub splits_left_of : Pass S E Q R W → ℕ
  splits_left_of pass = pass.splits_left

  -- the pass is one of this turnstile
  abbrev pub IsPassOf : Turnstile S E Q R → Pass S E Q R W → Type 0
  IsPassOf turnstile pass = pass.seat.table_id ≡ turnstile.table.shared.table_id

module _ {S E Q R : Type 0} where
  -- how many passes the turnstile was made with
  abbrev pub passes_of : Turnstile S E Q R → ℕ
  passes_of turnstile = turnstile.table.shared.key.passes

  -- the history at the opening, by the list of entries that a state has
  abbrev pub opening_of : (S → List E) → Turnstile S E Q R → List E
  opening_of entries turnstile = entries turnstile.table.shared.key.state.value
