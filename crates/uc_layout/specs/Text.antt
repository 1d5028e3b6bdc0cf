-- The layout of a whole text, and the first fault of a text that has none.
use Rattle.std.specs.Prelude.{◌≡◌, ℕ, ◌<◌, ◌≤◌, ◌==◌, ◌||◌, not, Bool, true, false, List, [], ◌∷◌, ◌++◌, length, bytes_eq, codes, IsUtf8, if◌then◌else◌}
use Rattle.std.specs.List.{filter}
use Rattle.uc_base.specs.declared.place.Place.{Place}
use Rattle.uc_base.specs.declared.fault.Fault.{Fault}
use Rattle.uc_base.specs.declared.fault.Fault.TheVariants.{TextTooLong, NotUtf8, BadToken, LeftOut}
use Rattle.uc_layout.specs.declared.token.Kind.{Kind}
use Rattle.uc_layout.specs.declared.token.Kind.TheVariants as kind
use Rattle.uc_layout.specs.declared.start.Wrong.TheVariants as wrong
use Rattle.uc_layout.specs.declared.piece.Role.{Role}
use Rattle.uc_layout.specs.declared.piece.Role.TheVariants as role
use Rattle.uc_layout.specs.declared.piece.Piece.{Piece}
use Rattle.uc_layout.specs.declared.piece.Mark.{Mark}
use Rattle.uc_layout.specs.declared.piece.Mark.TheVariants as mark
use Rattle.uc_layout.specs.Tokens.{Seen, ended, failed, IsTokenized}
use Rattle.uc_layout.specs.Layout.{LaysPieces}

-- what layout sees of a keyword
abbrev pub keyword_role : List ℕ → Role
keyword_role text =
    if bytes_eq text (codes "if") then role.If
    else (if bytes_eq text (codes "then") then role.Then
    else (if bytes_eq text (codes "else") then role.Else
    else (if bytes_eq text (codes "match") then role.Match
    else (if bytes_eq text (codes "with") then role.With
    else (if bytes_eq text (codes "cases") || bytes_eq text (codes "let") then role.Opener
    else (if bytes_eq text (codes "type") || (bytes_eq text (codes "structural") || bytes_eq text (codes "unique")) then role.Declares
    else role.Plain))))))

-- what layout sees of a symbol
abbrev pub symbol_role : List ℕ → Role
symbol_role text =
    if bytes_eq text (codes "=") || bytes_eq text (codes "->") then role.Opener
    else (if bytes_eq text (codes ":") then role.Colon
    else (if bytes_eq text (codes "|") then role.Bar
    else (if bytes_eq text (codes "(") || bytes_eq text (codes "[") then role.Left
    else (if bytes_eq text (codes ")") || bytes_eq text (codes "]") then role.Right
    else (if bytes_eq text (codes ",") then role.Comma
    else role.Plain)))))

-- what layout sees of a token: only keywords and symbols have a role
abbrev pub role_of : Kind → List ℕ → Role
role_of kind.Keyword text = keyword_role text
role_of kind.Symbol text = symbol_role text
role_of _ text = role.Plain

-- what layout sees of tokens, behind a token of this line
abbrev pub pieces_of : ℕ → List Seen → List Piece
pieces_of line [] = []
pieces_of line (t ∷ ts) =
    (record { role = role_of t.kind t.text; first = not (t.place.line == line); column = t.place.column }) ∷ pieces_of t.place.line ts

-- the place of the next token, or the end of the text
abbrev pub next_place : List Seen → Place → Place
next_place [] end = end
next_place (t ∷ ts) end = t.place

-- a mark at a place
abbrev pub mark_at : Kind → Place → Seen
mark_at k p = record { kind = k; text = []; place = p }

-- tokens with the marks among them
abbrev pub joined : List Mark → List Seen → Place → List Seen
joined [] ts end = []
joined (mark.Opens ∷ ms) ts end = mark_at kind.Opens (next_place ts end) ∷ joined ms ts end
joined (mark.Closes ∷ ms) ts end = mark_at kind.Closes (next_place ts end) ∷ joined ms ts end
joined (mark.Item ∷ ms) ts end = mark_at kind.Item (next_place ts end) ∷ joined ms ts end
joined (mark.Token p ∷ ms) [] end = joined ms [] end
joined (mark.Token p ∷ ms) (t ∷ ts) end = t ∷ joined ms ts end

-- These are tokens with the marks of their blocks and items, where a text ends at a place. Line 0 stands before it.
pub record IsMarked (tokens : List Seen) (end : Place) (blocks : List Seen) : Type 0 where
  pub marks : List Mark
  pub laid : LaysPieces (pieces_of 0 tokens) marks
  pub whole : blocks ≡ joined marks tokens end

-- These are the tokens of a text with the marks of its blocks and items.
pub record Lays (text : List ℕ) (blocks : List Seen) : Type 0 where
  pub short : length text ≤ 262144
  pub utf8 : IsUtf8 text
  pub tokens : List Seen
  pub end : Place
  pub tokenized : IsTokenized text tokens (ended end)
  pub marked : IsMarked tokens end blocks

-- This is the first fault of a text: its size, its encoding, or its first place at which something is no token.
pub data IsFirstFault : List ℕ → Fault → Type 0 where
  too_long : {text : List ℕ} → 262144 < length text → IsFirstFault text TextTooLong
  not_utf8 : {text : List ℕ} → length text ≤ 262144 → ¬ IsUtf8 text → IsFirstFault text NotUtf8
  bad_token : {text : List ℕ} {ts : List Seen} {p : Place} → length text ≤ 262144 → IsUtf8 text → IsTokenized text ts (failed wrong.Bad p) → IsFirstFault text (BadToken p)
  left_out : {text : List ℕ} {ts : List Seen} {p : Place} → length text ≤ 262144 → IsUtf8 text → IsTokenized text ts (failed wrong.LeftOut p) → IsFirstFault text (LeftOut p)

-- A text has at most one layout.
abbrev pub LayoutIsUnique : Type 0
LayoutIsUnique = (text : List ℕ) (a b : List Seen) → Lays text a → Lays text b → a ≡ b

-- A text has at most one first fault.
abbrev pub FaultIsUnique : Type 0
FaultIsUnique = (text : List ℕ) (a b : Fault) → IsFirstFault text a → IsFirstFault text b → a ≡ b

-- A text with a layout has no fault.
abbrev pub LayoutHasNoFault : Type 0
LayoutHasNoFault = (text : List ℕ) (blocks : List Seen) (fault : Fault) → Lays text blocks → IsFirstFault text fault → ⊥

-- The texts of these tokens stand in a text, one behind the other. A mark's text is empty.
pub data AreSlices : List ℕ → List Seen → Type 0 where
  no_slice : {text : List ℕ} → AreSlices text []
  behind_byte : {c : ℕ} {text : List ℕ} {ts : List Seen} → AreSlices text ts → AreSlices (c ∷ text) ts
  next_slice : {t : Seen} {text rest : List ℕ} {ts : List Seen} → text ≡ t.text ++ rest → AreSlices rest ts → AreSlices text (t ∷ ts)

-- Each token's text is a slice of the source, in order.
abbrev pub TokensAreSlices : Type 0
TokensAreSlices = (text : List ℕ) (blocks : List Seen) → Lays text blocks → AreSlices text blocks

-- whether a kind is none of the three marks
abbrev pub is_word : Kind → Bool
is_word kind.Opens = false
is_word kind.Closes = false
is_word kind.Item = false
is_word _ = true

-- whether a token is no mark
abbrev pub is_no_mark : Seen → Bool
is_no_mark t = is_word t.kind

-- The tokens of a layout that are no marks are the tokens of the text, all of them.
abbrev pub TokensAreKept : Type 0
TokensAreKept = (text : List ℕ) (blocks tokens : List Seen) (end : Place) → Lays text blocks → IsTokenized text tokens (ended end) → filter is_no_mark blocks ≡ tokens
