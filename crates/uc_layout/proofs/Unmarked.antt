-- The tokens of a layout without its marks are those of the text.
use Rattle.std.proofs.Common.{◌≡◌, ℕ, Bool, true, false, List, [], ◌∷◌, refl, subst, sym, ap, ◌∙◌, if◌then◌else◌, ◌==◌, ◌||◌, nat_le, drop, is_some}
use Rattle.std.specs.Prelude.{bytes_eq, codes}
use Rattle.std.specs.List.{filter, list_any}
use Rattle.uc_base.specs.declared.place.Place.{Place}
use Rattle.uc_base.specs.Name.{is_letter, is_keyword, is_left_out, is_reserved, is_name}
use Rattle.uc_base.specs.Builtin.{builtin_number}
use Rattle.uc_layout.specs.declared.automaton.Form.{Form}
use Rattle.uc_layout.specs.declared.token.Kind.{Kind}
use Rattle.uc_layout.specs.declared.token.Kind.TheVariants as kind
use Rattle.uc_layout.specs.declared.piece.Piece.{Piece}
use Rattle.uc_layout.specs.declared.piece.Mark.{Mark}
use Rattle.uc_layout.specs.declared.piece.Mark.TheVariants as mark
use Rattle.uc_layout.specs.Tokens.{Seen, Ending, Scans, at_text_end, at_fold, at_wrong, at_line_feed, at_white, at_comment, at_token, at_no_token}
use Rattle.uc_layout.specs.declared.start.Start.{Start}
use Rattle.uc_layout.specs.declared.start.Wrong.{Wrong}
use Rattle.uc_layout.specs.declared.start.Wrong.TheVariants.{Bad, LeftOut}
use Rattle.uc_layout.specs.declared.automaton.Form.TheVariants as form
use Rattle.uc_layout.specs.declared.judge.Judgement.{Judgement}
use Rattle.uc_layout.specs.Judgement.{judged, judged_some, token_if, ranged, value_from}
use Rattle.uc_layout.specs.declared.judge.Judgement.TheVariants as judgement
use Rattle.uc_layout.specs.Layout.{tokens_of}
use Rattle.uc_layout.specs.Text.{pieces_of, joined, is_word, is_no_mark, TokensAreKept}
use Rattle.uc_layout.proofs.Cut.{tokens_unique}
use Rattle.uc_layout.proofs.Marked.{kept}

-- no token is a mark
pub data NoMarks : List Seen → Type 0 where
  no_token : NoMarks []
  next_token : {t : Seen} {ts : List Seen} → is_no_mark t ≡ true → NoMarks ts → NoMarks (t ∷ ts)

-- where a judgement is a token, that is no mark
data NoMark : Judgement → Type 0 where
  no_mark : {k : Kind} → is_word k ≡ true → NoMark (judgement.Token k)
  no_meaning : {w : Wrong} → NoMark (judgement.Wrong w)

either : (b : Bool) (x y : Judgement) → NoMark x → NoMark y → NoMark (if b then x else y)
either true x y p q = p
either false x y p q = q

checked : (b : Bool) (k : Kind) → is_word k ≡ true → NoMark (token_if b k)
checked true k p = no_mark p
checked false k p = no_meaning

number_in_range : (text : List ℕ) → NoMark (ranged text)
number_in_range [] = no_meaning
number_in_range (c ∷ cs) =
    either (c == 43) _ _ (checked (nat_le (value_from 0 cs) 9223372036854775807) kind.Int refl)
    (either (c == 45) _ _ (checked (nat_le (value_from 0 cs) 9223372036854775808) kind.Int refl)
    (checked (nat_le (value_from 0 (c ∷ cs)) 18446744073709551615) kind.Nat refl))

word_no_mark : (wild keyword reserved left named : Bool)
    → NoMark (if wild then judgement.Token kind.Wildcard
    else (if keyword then judgement.Token kind.Keyword
    else (if reserved then judgement.Token kind.Symbol
    else (if left then judgement.Wrong LeftOut else token_if named kind.Name))))
word_no_mark true b c d e = no_mark refl
word_no_mark false true c d e = no_mark refl
word_no_mark false false true d e = no_mark refl
word_no_mark false false false true e = no_meaning
word_no_mark false false false false e = checked e kind.Name refl

digits_no_mark : (letter point : Bool) (j : Judgement) → NoMark j → NoMark (if letter then judgement.Wrong Bad else (if point then judgement.Wrong LeftOut else j))
digits_no_mark true b j h = no_meaning
digits_no_mark false true j h = no_meaning
digits_no_mark false false j h = h

lexeme_no_mark : (f : Form) (text : List ℕ) → NoMark (judged_some f text)
lexeme_no_mark form.Dotted text =
    word_no_mark (bytes_eq text (codes "_")) (is_keyword text) (is_reserved text) (is_left_out text || bytes_eq text (codes "!")) (is_name text)
lexeme_no_mark form.Number text = digits_no_mark (list_any is_letter text) (list_any (λ c. c == 46) text) (ranged text) (number_in_range text)
lexeme_no_mark form.Text text = no_mark refl
lexeme_no_mark form.Character text = no_mark refl
lexeme_no_mark form.Hash text = no_mark refl
lexeme_no_mark form.Builtin text = checked (is_some (builtin_number (drop 2 text))) kind.Builtin refl
lexeme_no_mark form.Single text = no_mark refl

judged_no_mark : (f : Form) (text : List ℕ) → NoMark (judged f text)
unfolding judged
judged_no_mark f [] = no_meaning
judged_no_mark f (c ∷ cs) = lexeme_no_mark f (c ∷ cs)

token_no_mark : (k : Kind) → NoMark (judgement.Token k) → is_word k ≡ true
token_no_mark k (no_mark p) = p

kind_is_no_mark : (f : Form) (k : Kind) (text : List ℕ) → judged f text ≡ judgement.Token k → is_word k ≡ true
kind_is_no_mark f k text h = token_no_mark k (subst NoMark h (judged_no_mark f text))

pub scanned : {s : Start} {p : Place} {b : ℕ} {text : List ℕ} {ts : List Seen} {e : Ending} → Scans s p b text ts e → NoMarks ts
scanned at_text_end = no_token
scanned at_fold = no_token
scanned at_wrong = no_token
scanned (at_line_feed h) = scanned h
scanned (at_white h) = scanned h
scanned (at_comment n h) = scanned h
scanned (at_token l j h) = next_token (kind_is_no_mark _ _ _ j) (scanned h)
scanned (at_no_token l j) = no_token

same_count : (t u : Piece) (ts us : List Piece) → t ∷ ts ≡ u ∷ us → ts ≡ us
same_count t u ts us h = cc

none_left : (t : Piece) (ts : List Piece) → t ∷ ts ≡ [] → ⊥
none_left t ts h = cc

with_token : (t : Seen) (xs ys : List Seen) → is_no_mark t ≡ true → filter is_no_mark xs ≡ ys → filter is_no_mark (t ∷ xs) ≡ t ∷ ys
with_token t xs ys h e = rw h (ap (λ z. t ∷ z) e)

pub unmarked : (ms : List Mark) (line : ℕ) (ts : List Seen) (end : Place) → tokens_of ms ≡ pieces_of line ts → NoMarks ts → filter is_no_mark (joined ms ts end) ≡ ts
unmarked [] line [] end e n = refl
unmarked [] line (t ∷ ts) end e n = absurd (none_left _ _ (sym e))
unmarked (mark.Opens ∷ ms) line ts end e n = unmarked ms line ts end e n
unmarked (mark.Closes ∷ ms) line ts end e n = unmarked ms line ts end e n
unmarked (mark.Item ∷ ms) line ts end e n = unmarked ms line ts end e n
unmarked (mark.Token p ∷ ms) line [] end e n = absurd (none_left _ _ e)
unmarked (mark.Token p ∷ ms) line (t ∷ ts) end e (next_token h n) = with_token t (joined ms ts end) ts h (unmarked ms t.place.line ts end (same_count _ _ _ _ e) n)

pub tokens_kept : TokensAreKept
tokens_kept text blocks tokens end h t =
    let e : h.tokens ≡ tokens = (tokens_unique text _ _ _ _ h.tokenized t).0 in
    ap (filter is_no_mark) h.marked.whole ∙ unmarked h.marked.marks 0 h.tokens h.end (kept _ _ h.marked.laid) (scanned h.tokenized) ∙ e
