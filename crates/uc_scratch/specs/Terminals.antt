-- Tokens as the grammar sees them, and its classes of names.
use Rattle.std.specs.Prelude.{ℕ, Bool, true, false, List, [], ◌∷◌, Option, Some, None, ◌==◌, ◌||◌, ◌&&◌, nat_le, map, bytes_eq, codes, if◌then◌else◌}
use Rattle.uc_base.specs.declared.place.Place.{Place}
use Rattle.uc_base.specs.Name.{is_operator, segments_of}
use Rattle.uc_layout.specs.declared.token.Kind.{Kind}
use Rattle.uc_layout.specs.declared.token.Kind.TheVariants as kind
use Rattle.uc_layout.specs.Tokens.{Seen}
use Rattle.uc_scratch.specs.declared.written.Written.{Written}
use Rattle.uc_scratch.specs.declared.written.Reference as reference_type
use Rattle.uc_scratch.specs.declared.written.Reference.TheVariants as reference
use Rattle.uc_scratch.specs.declared.written.Con.{Con}
use Rattle.uc_scratch.specs.declared.written.Con.TheVariants as con
use Rattle.uc_scratch.specs.declared.written.LiteralSort.{LiteralSort}
use Rattle.uc_scratch.specs.declared.written.LiteralSort.TheVariants as sort
use Rattle.uc_scratch.specs.declared.written.Param.{Param}
use Rattle.uc_scratch.specs.declared.written.Param.TheVariants as param
use Rattle.uc_scratch.specs.declared.terminal.Terminal.{Terminal}
use Rattle.uc_scratch.specs.declared.terminal.Terminal.TheVariants.{Small, Capital, Dotted, Cons, Snoc, Greater, Operator, Wildcard, Literal, Reference, Left, Right, LeftSquare, RightSquare, Comma, Dot, At, Equals, Arrow, Colon, Bar, AndAnd, OrOr, If, Then, Else, Match, With, Cases, Let, Use, TypeWord, Structural, Unique, Forall, Opens, Closes, Item, Other}

-- the last of some segments
abbrev pub last_of : List (List ℕ) → List ℕ
last_of [] = []
last_of (s ∷ []) = s
last_of (s ∷ t ∷ ss) = last_of (t ∷ ss)

-- whether there is one segment
abbrev pub is_one : List (List ℕ) → Bool
is_one (s ∷ []) = true
is_one _ = false

-- whether a text has no dot
abbrev pub is_single : List ℕ → Bool
is_single text = is_one (segments_of text)

-- whether a segment is an operator, by its first character
abbrev pub begins_operator : List ℕ → Bool
begins_operator [] = false
begins_operator (c ∷ cs) = is_operator c

-- whether a text begins with `a` to `z` or `_`
abbrev pub begins_small : List ℕ → Bool
begins_small [] = false
begins_small (c ∷ cs) = (nat_le 97 c && nat_le c 122) || c == 95

-- an operator by its class
abbrev pub operator_terminal : Written → Terminal
operator_terminal w =
    if bytes_eq w.text (codes "+:") then Cons w
    else (if bytes_eq w.text (codes ":+") then Snoc w
    else (if bytes_eq w.text (codes ">") then Greater w
    else Operator w))

-- a path by its class
abbrev pub path_terminal : Written → Terminal
path_terminal w = if is_single w.text then (if begins_small w.text then Small w else Capital w) else Dotted w

-- a name by its class: an operator where its last segment is one, else a path
abbrev pub name_terminal : Written → Terminal
name_terminal w = if begins_operator (last_of (segments_of w.text)) then operator_terminal w else path_terminal w

-- a literal
abbrev pub literal_terminal : LiteralSort → Written → Terminal
literal_terminal s w = Literal (record { sort = s; written = w })

-- a keyword by its class
abbrev pub keyword_terminal : Written → Terminal
keyword_terminal w =
    if bytes_eq w.text (codes "if") then If w.place
    else (if bytes_eq w.text (codes "then") then Then
    else (if bytes_eq w.text (codes "else") then Else
    else (if bytes_eq w.text (codes "match") then Match w.place
    else (if bytes_eq w.text (codes "with") then With
    else (if bytes_eq w.text (codes "cases") then Cases w.place
    else (if bytes_eq w.text (codes "let") then Let w.place
    else (if bytes_eq w.text (codes "true") then literal_terminal sort.True w
    else (if bytes_eq w.text (codes "false") then literal_terminal sort.False w
    else (if bytes_eq w.text (codes "use") then Use w.place
    else (if bytes_eq w.text (codes "type") then TypeWord w.place
    else (if bytes_eq w.text (codes "structural") then Structural w.place
    else (if bytes_eq w.text (codes "unique") then Unique w.place
    else (if bytes_eq w.text (codes "forall") then Forall w.place
    else Other)))))))))))))

-- a symbol by its class
abbrev pub symbol_terminal : Written → Terminal
symbol_terminal w =
    if bytes_eq w.text (codes "(") then Left w.place
    else (if bytes_eq w.text (codes ")") then Right
    else (if bytes_eq w.text (codes "[") then LeftSquare w.place
    else (if bytes_eq w.text (codes "]") then RightSquare
    else (if bytes_eq w.text (codes ",") then Comma
    else (if bytes_eq w.text (codes ".") then Dot
    else (if bytes_eq w.text (codes "@") then At
    else (if bytes_eq w.text (codes "=") then Equals
    else (if bytes_eq w.text (codes "->") then Arrow
    else (if bytes_eq w.text (codes ":") then Colon
    else (if bytes_eq w.text (codes "|") then Bar
    else (if bytes_eq w.text (codes "&&") then AndAnd
    else (if bytes_eq w.text (codes "||") then OrOr
    else Other))))))))))))

-- a token or a mark of a kind by its class
abbrev pub terminal_by : Kind → Written → Terminal
terminal_by kind.Name w = name_terminal w
terminal_by kind.Wildcard w = Wildcard w.place
terminal_by kind.Keyword w = keyword_terminal w
terminal_by kind.Symbol w = symbol_terminal w
terminal_by kind.Nat w = literal_terminal sort.Nat w
terminal_by kind.Int w = literal_terminal sort.Int w
terminal_by kind.Text w = literal_terminal sort.Text w
terminal_by kind.Char w = literal_terminal sort.Char w
terminal_by kind.Hash w = Reference (reference.Hash w)
terminal_by kind.Builtin w = Reference (reference.Builtin w)
terminal_by kind.Opens w = Opens
terminal_by kind.Closes w = Closes
terminal_by kind.Item w = Item w.place

-- a token or a mark by its class
abbrev pub terminal_of : Seen → Terminal
terminal_of t = terminal_by t.kind (record { text = t.text; place = t.place })

-- tokens and marks by their classes
abbrev pub terminals_of : List Seen → List Terminal
terminals_of ts = map terminal_of ts

-- The classes of the grammar. A `var` is a `Small` name.

-- a `word`: one wordy segment
pub data IsWord : Terminal → Written → Type 0 where
  small_word : {w : Written} → IsWord (Small w) w
  capital_word : {w : Written} → IsWord (Capital w) w

-- a `path`: a name whose last segment is wordy
pub data IsPath : Terminal → Written → Type 0 where
  small_path : {w : Written} → IsPath (Small w) w
  capital_path : {w : Written} → IsPath (Capital w) w
  dotted_path : {w : Written} → IsPath (Dotted w) w

-- an `op`: a name whose last segment is an operator
pub data IsOperator : Terminal → Written → Type 0 where
  cons_operator : {w : Written} → IsOperator (Cons w) w
  snoc_operator : {w : Written} → IsOperator (Snoc w) w
  greater_operator : {w : Written} → IsOperator (Greater w) w
  other_operator : {w : Written} → IsOperator (Operator w) w

-- a `con`: a path that has a dot or a capital first letter, or a reference
pub data IsCon : Terminal → Con → Type 0 where
  capital_con : {w : Written} → IsCon (Capital w) (con.Path w)
  dotted_con : {w : Written} → IsCon (Dotted w) (con.Path w)
  reference_con : {r : reference_type.Reference} → IsCon (Reference r) (con.Reference r)

-- a `param`: one wordy segment, or `_`
pub data IsParam : Terminal → Param → Type 0 where
  small_param : {w : Written} → IsParam (Small w) (param.Name w)
  capital_param : {w : Written} → IsParam (Capital w) (param.Name w)
  any_param : {p : Place} → IsParam (Wildcard p) (param.Any p)

-- the name that a token is as a path, as a word, as an operator, as a parameter

abbrev pub path_of : Terminal → Option Written
path_of (Small w) = Some w
path_of (Capital w) = Some w
path_of (Dotted w) = Some w
path_of _ = None

abbrev pub word_of : Terminal → Option Written
word_of (Small w) = Some w
word_of (Capital w) = Some w
word_of _ = None

abbrev pub operator_of : Terminal → Option Written
operator_of (Cons w) = Some w
operator_of (Snoc w) = Some w
operator_of (Greater w) = Some w
operator_of (Operator w) = Some w
operator_of _ = None

abbrev pub param_of : Terminal → Option Param
param_of (Small w) = Some (param.Name w)
param_of (Capital w) = Some (param.Name w)
param_of (Wildcard p) = Some (param.Any p)
param_of _ = None
