-- Tokens that have no text and no place of their own.
use Rattle.std.specs.Prelude.{Option, Some, None}
use Rattle.uc_base.specs.declared.place.Place.{Place}
use Rattle.uc_scratch.specs.declared.front.Mark.{Mark}
use Rattle.uc_scratch.specs.declared.front.Mark.TheVariants as mark
use Rattle.uc_scratch.specs.declared.terminal.Terminal.{Terminal}
use Rattle.uc_scratch.specs.declared.terminal.Terminal.TheVariants.{Left, Right, RightSquare, Comma, Dot, At, Equals, Arrow, Colon, Bar, Then, Else, With, Use, Opens, Closes, Item}

abbrev pub mark_terminal : Mark → Terminal
mark_terminal mark.Right = Right
mark_terminal mark.RightSquare = RightSquare
mark_terminal mark.Comma = Comma
mark_terminal mark.Dot = Dot
mark_terminal mark.At = At
mark_terminal mark.Equals = Equals
mark_terminal mark.Arrow = Arrow
mark_terminal mark.Colon = Colon
mark_terminal mark.Bar = Bar
mark_terminal mark.Then = Then
mark_terminal mark.Else = Else
mark_terminal mark.With = With
mark_terminal mark.Opens = Opens
mark_terminal mark.Closes = Closes

abbrev pub mark_of : Terminal → Option Mark
mark_of Right = Some mark.Right
mark_of RightSquare = Some mark.RightSquare
mark_of Comma = Some mark.Comma
mark_of Dot = Some mark.Dot
mark_of At = Some mark.At
mark_of Equals = Some mark.Equals
mark_of Arrow = Some mark.Arrow
mark_of Colon = Some mark.Colon
mark_of Bar = Some mark.Bar
mark_of Then = Some mark.Then
mark_of Else = Some mark.Else
mark_of With = Some mark.With
mark_of Opens = Some mark.Opens
mark_of Closes = Some mark.Closes
mark_of _ = None

-- the place of `(`, of `use`, and of the beginning of an item

abbrev pub left_of : Terminal → Option Place
left_of (Left p) = Some p
left_of _ = None

abbrev pub use_of : Terminal → Option Place
use_of (Use p) = Some p
use_of _ = None

abbrev pub item_of : Terminal → Option Place
item_of (Item p) = Some p
item_of _ = None

-- the closing brackets
pub data IsRight : Terminal → Type 0 where
  round : IsRight Right
  square : IsRight RightSquare
