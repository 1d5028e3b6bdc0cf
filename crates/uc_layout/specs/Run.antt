-- What is left to mark, while the tokens are read forward.
use Rattle.std.specs.Prelude.{◌≡◌, Bool, true, false, List, [], ◌∷◌, ◌++◌, ◌&&◌}
use Rattle.uc_layout.specs.declared.piece.Role.{Role}
use Rattle.uc_layout.specs.declared.piece.Role.TheVariants.{Left}
use Rattle.uc_layout.specs.declared.piece.Piece.{Piece}
use Rattle.uc_layout.specs.declared.piece.Mark.{Mark}
use Rattle.uc_layout.specs.declared.piece.Mark.TheVariants.{Opens, Closes, Token}
use Rattle.uc_layout.specs.declared.piece.Region.{Region}
use Rattle.uc_layout.specs.declared.piece.Container.{Container}
use Rattle.uc_layout.specs.declared.piece.Container.TheVariants.{Bracket, Block, Inline}
use Rattle.uc_layout.specs.Layout.{Move, Act, hollow, block, move, first_move, the_file, ends_at, Runs}

-- the innermost of some regions; the file where there is none
abbrev pub innermost : List Region → Region
innermost [] = the_file
innermost (r ∷ rs) = r

-- the regions around the innermost one
abbrev pub outer : List Region → List Region
outer [] = []
outer (r ∷ rs) = rs

-- a block, with or without a column
abbrev pub is_block : Container → Bool
is_block Block = true
is_block Inline = true
is_block _ = false

-- an opening bracket
abbrev pub is_left : Role → Bool
is_left Left = true
is_left _ = false

-- whether a token ends a block
abbrev pub ends_a_block : Region → Piece → Bool
ends_a_block r t = is_block r.container && ends_at r.container r t

-- Where the innermost of these regions ends, the tokens from there on are marked so.
pub data Around : List Region → List Piece → List Mark → Type 0 where
  around_file : Around [] [] []
  around_block : {r : Region} {rs : List Region} {ts us : List Piece} {ms ns : List Mark} → is_block r.container ≡ true
      → Runs (move (innermost rs) ts) (innermost rs) ts ms us ns → Around rs us ns → Around (r ∷ rs) ts (Closes ∷ ms)
  around_bracket : {r : Region} {t : Piece} {rs : List Region} {ts us : List Piece} {ms ns : List Mark} → r.container ≡ Bracket
      → Runs (move (innermost rs) ts) (innermost rs) ts ms us ns → Around rs us ns → Around (r ∷ rs) (t ∷ ts) (Token t ∷ ms)
  around_open : {r : Region} {rs : List Region} {ms : List Mark} → is_block r.container ≡ false → Around rs [] ms → Around (r ∷ rs) [] ms

-- In the innermost of these regions, where this happens next, the tokens are marked so.
pub record Ahead (m : Move) (rs : List Region) (ts : List Piece) (ms : List Mark) : Type 0 where
  pub us : List Piece
  pub ns : List Mark
  pub runs : Runs m (innermost rs) ts ms us ns
  pub around : Around rs us ns

-- These are all the marks, where these are there already.
pub record Completes (out : List Mark) (m : Move) (rs : List Region) (ts : List Piece) (all : List Mark) : Type 0 where
  pub marks : List Mark
  pub whole : all ≡ out ++ marks
  pub ahead : Ahead m rs ts marks

-- what happens next, by whether the next token begins an item in any case
abbrev pub next_move : Bool → Region → List Piece → Move
next_move true r ts = first_move r ts
next_move false r ts = move r ts

-- What completes one marking completes the other, for the tokens from t on.
abbrev pub Leads : List Mark → List Region → List Mark → List Region → Piece → Type 0
Leads out rs out' rs' t = (ts : List Piece) (all : List Mark) → Completes out' (move (innermost rs') (t ∷ ts)) rs' (t ∷ ts) all → Completes out (move (innermost rs) (t ∷ ts)) rs (t ∷ ts) all

-- What completes the marks behind an opener, by the block that it opens in the innermost region.
pub data Opened : List Mark → Act → List Region → List Piece → List Mark → Type 0 where
  opened_hollow : {out all : List Mark} {rs : List Region} {ts : List Piece}
      → Completes (out ++ Opens ∷ Closes ∷ []) (move (innermost rs) ts) rs ts all → Opened out hollow rs ts all
  opened_block : {out all : List Mark} {s : Region} {rs : List Region} {ts : List Piece} → is_block s.container ≡ true
      → Completes (out ++ Opens ∷ []) (first_move s ts) (s ∷ rs) ts all → Opened out (block s) rs ts all
