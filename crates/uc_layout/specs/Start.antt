-- What begins at a place between lexemes.
use Rattle.std.specs.Prelude.{ℕ, Bool, false, List, [], ◌∷◌, ◌==◌, ◌&&◌, ◌||◌, not, nat_eq, length, drop, take_while, count_by, codes, Option, Some, None, unwrap_or, if◌then◌else◌}
use Rattle.std.specs.List.{list_all, starts_with}
use Rattle.uc_base.specs.Name.{is_letter, is_digit, is_wordy, is_operator, begins_comment}
use Rattle.uc_layout.specs.declared.automaton.Form.TheVariants as form
use Rattle.uc_layout.specs.declared.start.Wrong.TheVariants.{Bad, LeftOut}
use Rattle.uc_layout.specs.declared.start.Start.{Start}
use Rattle.uc_layout.specs.declared.start.Start.TheVariants as start
use Rattle.uc_layout.specs.Lexeme.{is_continuation, is_single}

-- the space, the tab and the carriage return
abbrev pub is_white : ℕ → Bool
is_white c = c == 32 || (c == 9 || c == 13)

-- white characters alone
abbrev pub are_white : List ℕ → Bool
are_white text = list_all is_white text

-- the text before the first line feed
abbrev pub line_of : List ℕ → List ℕ
line_of text = take_while (λ c. not (c == 10)) text

-- how many bytes there are before the first line feed
abbrev pub line_len : List ℕ → ℕ
line_len text = length (line_of text)

-- how many characters a UTF-8 text has: one for each byte that begins one
abbrev pub characters : List ℕ → ℕ
characters text = count_by (λ c. not (is_continuation c)) text

-- whether the first line is three hyphens, with at most white characters behind
abbrev pub is_fold : List ℕ → Bool
is_fold text = starts_with nat_eq (line_of text) (codes "---") && are_white (drop 3 (line_of text))

-- whether a text begins with a digit
abbrev pub begins_digit : List ℕ → Bool
begins_digit [] = false
begins_digit (c ∷ cs) = is_digit c

-- `+` and `-`
abbrev pub is_sign : ℕ → Bool
is_sign c = c == 43 || c == 45

-- `{`, `}` and `'`
abbrev pub is_unused : ℕ → Bool
is_unused c = c == 123 || (c == 125 || c == 39)

-- a hash sign behind a wordy character begins nothing, and two begin a builtin
abbrev pub hash_start : ℕ → List ℕ → Start
hash_start before after =
    if is_wordy before then start.Wrong Bad
    else (if starts_with nat_eq after (codes "#") then start.Lexeme form.Builtin else start.Lexeme form.Hash)

-- three quotes are left out
abbrev pub text_start : List ℕ → Start
text_start after = if starts_with nat_eq after (34 ∷ 34 ∷ []) then start.Wrong LeftOut else start.Lexeme form.Text

-- what a character begins that belongs to no word, operator or number
abbrev pub other_start : ℕ → ℕ → List ℕ → Start
other_start before c after =
    if is_single c then start.Lexeme form.Single
    else (if c == 63 then start.Lexeme form.Character
    else (if c == 34 then text_start after
    else (if c == 35 then hash_start before after
    else (if is_unused c then start.Wrong LeftOut else start.Wrong Bad))))

-- digits, with or without a sign, begin a number; a letter or an operator character begins dotted segments
abbrev pub lexeme_start : ℕ → ℕ → List ℕ → Start
lexeme_start before c after =
    if is_digit c || (is_sign c && begins_digit after) then start.Lexeme form.Number
    else (if is_letter c || is_operator c then start.Lexeme form.Dotted else other_start before c after)

-- what the first column of a line alone may begin: the line that ends the text, and a test watch, which is left out
abbrev pub first_start : List ℕ → Option Start
first_start text =
    if is_fold text then Some start.Fold
    else (if starts_with nat_eq text (codes "test>") then Some (start.Wrong LeftOut) else None)

-- what any column may begin
abbrev pub plain_start : ℕ → ℕ → List ℕ → Start
plain_start before c cs =
    if is_white c then start.White
    else (if begins_comment (c ∷ cs) then start.Comment else lexeme_start before c cs)

-- what begins at a column between lexemes, where this byte stands before the rest of the text
unfoldable pub start_at : ℕ → ℕ → List ℕ → Start
start_at column before [] = start.TextEnd
start_at column before (c ∷ cs) =
    if c == 10 then start.LineFeed
    else (if column == 1 then unwrap_or (first_start (c ∷ cs)) (plain_start before c cs) else plain_start before c cs)
