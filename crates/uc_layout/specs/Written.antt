-- What plain recursion promises of the rest of a region.
use Rattle.std.specs.Prelude.{◌≡◌, List, [], ◌++◌}
use Rattle.uc_layout.specs.declared.piece.Piece.{Piece}
use Rattle.uc_layout.specs.declared.piece.Mark.{Mark}
use Rattle.uc_layout.specs.declared.piece.Region.{Region}
use Rattle.uc_layout.specs.declared.piece.Container.TheVariants.{File}
use Rattle.uc_layout.specs.Layout.{Move, Runs}

-- what was written between the two lists marks the tokens up to the rest, whatever is written behind it
pub record Marks (before after : List Mark) (m : Move) (r : Region) (ts rest : List Piece) : Type 0 where
  pub written : List Mark
  pub whole : after ≡ before ++ written
  pub runs : (tail : List Mark) → Runs m r ts (written ++ tail) rest tail

-- the file ends where the text ends
abbrev pub ends_file : Region → List Piece → Type 0
ends_file r rest = r.container ≡ File → rest ≡ []
