-- How a text is cut into tokens.
use Rattle.std.specs.Prelude.{◌≡◌, ℕ, ◌+◌, ◌-◌, List, [], ◌∷◌, take, drop, slice_index, map}
use Rattle.uc_base.specs.declared.place.Place.{Place}
use Rattle.uc_layout.specs.declared.token.Kind.{Kind}
use Rattle.uc_layout.specs.declared.token.Token.{Token}
use Rattle.uc_layout.specs.declared.automaton.Form.{Form}
use Rattle.uc_layout.specs.declared.start.Wrong.{Wrong}
use Rattle.uc_layout.specs.declared.start.Start.{Start}
use Rattle.uc_layout.specs.declared.start.Start.TheVariants as start
use Rattle.uc_layout.specs.declared.judge.Judgement.TheVariants as judgement
use Rattle.uc_layout.specs.Lexeme.{initial, IsLongest}
use Rattle.uc_layout.specs.Start.{line_len, characters, start_at}
use Rattle.uc_layout.specs.Judgement.{judged}

-- a token or a mark, by its text and not by where that lies in memory
pub record Seen : Type 0 where
  pub kind : Kind
  pub text : List ℕ
  pub place : Place

-- a token by its text
abbrev pub seen_one : Token → Seen
seen_one t = record { kind = t.kind; text = t.text.now; place = t.place }

-- tokens by their texts
abbrev pub seen : List Token → List Seen
seen tokens = map seen_one tokens

-- how a text ends: where it ends, or with the first place at which something is no token
pub data Ending : Type 0 where
  ended : Place → Ending
  failed : Wrong → Place → Ending

-- where a text begins
abbrev pub first_place : Place
first_place = record { line = 1; column = 1 }

-- where the next line begins
abbrev pub next_line : Place → Place
next_line p = record { line = p.line + 1; column = 1 }

-- the place behind some bytes of a line
abbrev pub moved : Place → ℕ → List ℕ → Place
moved p n text = record { line = p.line; column = p.column + characters (take n text) }

-- the last of some bytes
abbrev pub last_byte : ℕ → List ℕ → ℕ
last_byte n text = slice_index text (n - 1)

-- From a place on, where this begins, and this byte stands before the rest of the text, these are the tokens, and the
-- text ends so.
pub data Scans : Start → Place → ℕ → List ℕ → List Seen → Ending → Type 0 where
  at_text_end : {p : Place} {b : ℕ} {text : List ℕ} → Scans start.TextEnd p b text [] (ended p)
  at_fold : {p : Place} {b : ℕ} {text : List ℕ} → Scans start.Fold p b text [] (ended p)
  at_wrong : {w : Wrong} {p : Place} {b : ℕ} {text : List ℕ} → Scans (start.Wrong w) p b text [] (failed w p)
  at_line_feed : {p : Place} {b : ℕ} {text : List ℕ} {ts : List Seen} {e : Ending}
      → Scans (start_at 1 10 (drop 1 text)) (next_line p) 10 (drop 1 text) ts e
      → Scans start.LineFeed p b text ts e
  at_white : {p : Place} {b : ℕ} {text : List ℕ} {ts : List Seen} {e : Ending}
      → Scans (start_at (moved p 1 text).column (last_byte 1 text) (drop 1 text)) (moved p 1 text) (last_byte 1 text) (drop 1 text) ts e
      → Scans start.White p b text ts e
  at_comment : {n b : ℕ} {p : Place} {text : List ℕ} {ts : List Seen} {e : Ending}
      → n ≡ line_len text
      → Scans (start_at (moved p n text).column (last_byte n text) (drop n text)) (moved p n text) (last_byte n text) (drop n text) ts e
      → Scans start.Comment p b text ts e
  at_token : {f : Form} {k : Kind} {n b : ℕ} {p : Place} {text : List ℕ} {ts : List Seen} {e : Ending}
      → IsLongest (initial f) text n → judged f (take n text) ≡ judgement.Token k
      → Scans (start_at (moved p n text).column (last_byte n text) (drop n text)) (moved p n text) (last_byte n text) (drop n text) ts e
      → Scans (start.Lexeme f) p b text (record { kind = k; text = take n text; place = p } ∷ ts) e
  at_no_token : {f : Form} {w : Wrong} {n b : ℕ} {p : Place} {text : List ℕ}
      → IsLongest (initial f) text n → judged f (take n text) ≡ judgement.Wrong w
      → Scans (start.Lexeme f) p b text [] (failed w p)

-- from a place between lexemes on
abbrev pub ScansFrom : Place → ℕ → List ℕ → List Seen → Ending → Type 0
ScansFrom p b text ts e = Scans (start_at p.column b text) p b text ts e

-- the tokens of a whole text, and how it ends; a line feed stands for what is before its first line
abbrev pub IsTokenized : List ℕ → List Seen → Ending → Type 0
IsTokenized text ts e = ScansFrom first_place 10 text ts e

-- A text has one cut into tokens.
abbrev pub TokensAreUnique : Type 0
TokensAreUnique = (text : List ℕ) (ts us : List Seen) (e f : Ending) → IsTokenized text ts e → IsTokenized text us f → (ts ≡ us) × (e ≡ f)
