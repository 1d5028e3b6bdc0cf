-- Which marks stand among tokens.
use Rattle.std.specs.Prelude.{◌≡◌, ℕ, Bool, true, false, List, [], ◌∷◌, ◌==◌, ◌&&◌, ◌||◌, ◌+◌, ◌-◌, not, nat_lt, nat_le, if◌then◌else◌}
use Rattle.uc_layout.specs.declared.piece.Role.{Role}
use Rattle.uc_layout.specs.declared.piece.Role.TheVariants.{Opener, If, Then, Else, Match, With, Bar, Colon, Declares, Left, Right, Comma}
use Rattle.uc_layout.specs.declared.piece.Piece.{Piece}
use Rattle.uc_layout.specs.declared.piece.Mark.{Mark}
use Rattle.uc_layout.specs.declared.piece.Mark.TheVariants.{Opens, Closes, Item, Token}
use Rattle.uc_layout.specs.declared.piece.Container.{Container}
use Rattle.uc_layout.specs.declared.piece.Container.TheVariants.{File, Bracket, Block, Inline}
use Rattle.uc_layout.specs.declared.piece.Region.{Region}
use Rattle.uc_layout.specs.declared.piece.Waiting.{Waiting}
use Rattle.uc_layout.specs.declared.piece.Outside.{Outside}

-- a closing bracket
abbrev pub is_right : Role → Bool
is_right Right = true
is_right _ = false

-- a closing bracket or a comma, which ends the blocks inside its bracket
abbrev pub is_punctuation : Role → Bool
is_punctuation Right = true
is_punctuation Comma = true
is_punctuation _ = false

-- before which a block is empty
abbrev pub is_closing : Role → Bool
is_closing Right = true
is_closing Comma = true
is_closing Then = true
is_closing Else = true
is_closing With = true
is_closing _ = false

-- what begins no item, and goes on with the one that it stands in
abbrev pub goes_on : Role → Bool
goes_on Bar = true
goes_on k = is_closing k

-- `type`, `structural` or `unique`, which make a file item type text
abbrev pub declares : Role → Bool
declares Declares = true
declares _ = false

-- no word waits
abbrev pub nothing : Waiting
nothing = record { thens = 0; elses = 0; withs = 0 }

-- no word waits outside a block
abbrev pub nothing_outside : Outside
nothing_outside = record { thens = false; elses = false; withs = false }

-- what waits outside a block: outside the item that it stands in, or in that item
abbrev pub more : Outside → Waiting → Outside
more out w = record { thens = out.thens || nat_lt 0 w.thens; elses = out.elses || nat_lt 0 w.elses; withs = out.withs || nat_lt 0 w.withs }

-- whether the word belongs to one that waits outside the block, and to none inside
abbrev pub ends_word : Outside → Waiting → Role → Bool
ends_word out w Then = w.thens == 0 && out.thens
ends_word out w Else = w.elses == 0 && out.elses
ends_word out w With = w.withs == 0 && out.withs
ends_word out w _ = false

-- whether a token ends a block: by its bracket, by a word outside, or by a line left of the block's column
abbrev pub ends_block : Region → Piece → Bool
ends_block r t = (r.bracketed && is_punctuation t.role) || (ends_word r.outside r.waiting t.role || (t.first && nat_lt t.column r.column))

-- whether a token that is the first of its line stands in the region's column, and begins an item
abbrev pub in_column : Region → Piece → Bool
in_column r t = t.first && (t.column == r.column && not (goes_on t.role))

-- whether a token ends the region
abbrev pub ends_at : Container → Region → Piece → Bool
ends_at File r t = false
ends_at Bracket r t = is_right t.role
ends_at Block r t = ends_block r t
ends_at Inline r t = ends_block r t || in_column r t

-- whether a token that doesn't end the region begins an item of it
abbrev pub begins_at : Container → Region → Piece → Bool
begins_at File r t = in_column r t
begins_at Bracket r t = false
begins_at Block r t = in_column r t
begins_at Inline r t = false

-- the file itself
abbrev pub is_file : Container → Bool
is_file File = true
is_file _ = false

-- the region where an item begins with this token
abbrev pub at_start : Region → Role → Region
at_start r k = record r { waiting = nothing; types = (if declares k then is_file r.container else false) }

-- what waits behind a word
abbrev pub waits : Waiting → Role → Waiting
waits w If = record w { thens = w.thens + 1 }
waits w Then = if w.thens == 0 then w else record { thens = w.thens - 1; elses = w.elses + 1; withs = w.withs }
waits w Else = record w { elses = w.elses - 1 }
waits w Match = record w { withs = w.withs + 1 }
waits w With = record w { withs = w.withs - 1 }
waits w _ = w

-- `:`, behind which type text begins
abbrev pub is_colon : Role → Bool
is_colon Colon = true
is_colon _ = false

-- the region behind a token
abbrev pub behind : Region → Role → Region
behind r k = record r { waiting = waits r.waiting k; types = r.types || is_colon k }

-- the bracket that is opened in a region: blocks outside it have no column in it
abbrev pub inside_bracket : Region → Region
inside_bracket r = record { container = Bracket; column = 0; bracketed = true; outside = nothing_outside; waiting = nothing; types = r.types }

-- the block that is opened in a region
abbrev pub inside_block : Container → ℕ → Region → Region
inside_block p c r = record { container = p; column = c; bracketed = r.bracketed; outside = more r.outside r.waiting; waiting = nothing; types = false }

-- the file before its first token: a block of column 1
abbrev pub the_file : Region
the_file = record { container = File; column = 1; bracketed = false; outside = nothing_outside; waiting = nothing; types = false }

-- what a token does in a region: nothing, a bracket, an empty block, or a block
pub data Act : Type 0 where
  word : Act
  bracket : Act
  hollow : Act
  block : Region → Act

-- the block behind an opener
abbrev pub block_before : Region → List Piece → Act
block_before r [] = hollow
block_before r (t ∷ ts) =
    if is_closing t.role || (t.first && nat_le t.column r.column) then hollow
    else (if t.first then block (inside_block Block t.column r) else block (inside_block Inline r.column r))

-- behind which a block stands
abbrev pub opens : Role → Bool
opens Opener = true
opens Then = true
opens Else = true
opens With = true
opens _ = false

-- what a token does, where this is the region behind it: in type text it opens no block
abbrev pub act_of : Region → List Piece → Role → Act
act_of r after Left = bracket
act_of r after k = if opens k && not r.types then block_before r after else word

-- what happens at a place of a region: it ends, an item begins, or a token is taken
pub data Move : Type 0 where
  stop : Move
  item : Act → Move
  take : Act → Move

-- what a token does in a region
abbrev pub taken : Region → List Piece → Role → Act
taken r after k = act_of (behind r k) after k

-- a token of a region ends it, begins an item of it, or is taken in it
abbrev pub move : Region → List Piece → Move
move r [] = stop
move r (t ∷ ts) = if ends_at r.container r t then stop else (if begins_at r.container r t then item (taken (at_start r t.role) ts t.role) else take (taken r ts t.role))

-- the first token of a block, or of the file, begins an item and isn't compared
abbrev pub first_move : Region → List Piece → Move
first_move r [] = stop
first_move r (t ∷ ts) = item (taken (at_start r t.role) ts t.role)

-- In a region, where this happens next, these tokens are marked so up to where the region ends. The last two are
-- the tokens and marks from there on.
pub data Runs : Move → Region → List Piece → List Mark → List Piece → List Mark → Type 0 where
  at_end : {r : Region} {ts : List Piece} {ms : List Mark} → Runs stop r ts ms ts ms
  at_item : {a : Act} {r : Region} {t : Piece} {ts end : List Piece} {ms tail : List Mark}
      → Runs (take a) (at_start r t.role) (t ∷ ts) ms end tail → Runs (item a) r (t ∷ ts) (Item ∷ ms) end tail
  at_word : {r : Region} {t : Piece} {ts end : List Piece} {ms tail : List Mark}
      → Runs (move (behind r t.role) ts) (behind r t.role) ts ms end tail
      → Runs (take word) r (t ∷ ts) (Token t ∷ ms) end tail
  at_bracket : {r : Region} {t right : Piece} {ts us end : List Piece} {ms ns tail : List Mark}
      → Runs (move (inside_bracket r) ts) (inside_bracket r) ts ms (right ∷ us) (Token right ∷ ns)
      → Runs (move r us) r us ns end tail
      → Runs (take bracket) r (t ∷ ts) (Token t ∷ ms) end tail
  at_open_bracket : {r : Region} {t : Piece} {ts : List Piece} {ms tail : List Mark}
      → Runs (move (inside_bracket r) ts) (inside_bracket r) ts ms [] tail
      → Runs (take bracket) r (t ∷ ts) (Token t ∷ ms) [] tail
  at_hollow : {r : Region} {t : Piece} {ts end : List Piece} {ms tail : List Mark}
      → Runs (move (behind r t.role) ts) (behind r t.role) ts ms end tail
      → Runs (take hollow) r (t ∷ ts) (Token t ∷ Opens ∷ Closes ∷ ms) end tail
  at_block : {r s : Region} {t : Piece} {ts us end : List Piece} {ms ns tail : List Mark}
      → Runs (first_move s ts) s ts ms us (Closes ∷ ns)
      → Runs (move (behind r t.role) us) (behind r t.role) us ns end tail
      → Runs (take (block s)) r (t ∷ ts) (Token t ∷ Opens ∷ ms) end tail

-- the pieces of a text, marked
abbrev pub LaysPieces : List Piece → List Mark → Type 0
LaysPieces ts ms = Runs (first_move the_file ts) the_file ts ms [] []

-- Pieces are marked in one way.
abbrev pub PiecesAreUnique : Type 0
PiecesAreUnique = (ts : List Piece) (ms ns : List Mark) → LaysPieces ts ms → LaysPieces ts ns → ms ≡ ns

-- the tokens among marks
abbrev pub tokens_of : List Mark → List Piece
tokens_of [] = []
tokens_of (Opens ∷ ms) = tokens_of ms
tokens_of (Closes ∷ ms) = tokens_of ms
tokens_of (Item ∷ ms) = tokens_of ms
tokens_of (Token t ∷ ms) = t ∷ tokens_of ms

-- The marks stand among the pieces, in their order.
abbrev pub PiecesAreKept : Type 0
PiecesAreKept = (ts : List Piece) (ms : List Mark) → LaysPieces ts ms → tokens_of ms ≡ ts
