-- What a whole lexeme is.
use Rattle.std.specs.Prelude.{ℕ, ◌+◌, ◌-◌, ◌*◌, Bool, List, [], ◌∷◌, ◌==◌, ◌||◌, nat_le, drop, bytes_eq, codes, is_some, if◌then◌else◌}
use Rattle.std.specs.List.{list_any}
use Rattle.uc_base.specs.Name.{is_letter, is_keyword, is_left_out, is_reserved, is_name}
use Rattle.uc_base.specs.Builtin.{builtin_number}
use Rattle.uc_layout.specs.declared.token.Kind.{Kind}
use Rattle.uc_layout.specs.declared.token.Kind.TheVariants as kind
use Rattle.uc_layout.specs.declared.automaton.Form.{Form}
use Rattle.uc_layout.specs.declared.automaton.Form.TheVariants as form
use Rattle.uc_layout.specs.declared.start.Wrong.TheVariants.{Bad, LeftOut}
use Rattle.uc_layout.specs.declared.judge.Judgement.{Judgement}
use Rattle.uc_layout.specs.declared.judge.Judgement.TheVariants as judgement

-- a token of a kind, or nothing that has a meaning
abbrev pub token_if : Bool → Kind → Judgement
token_if test k = if test then judgement.Token k else judgement.Wrong Bad

-- the number that decimal digits stand for, behind a number
abbrev pub value_from : ℕ → List ℕ → ℕ
value_from n [] = n
value_from n (c ∷ cs) = value_from (n * 10 + (c - 48)) cs

-- a natural number of 64 bits, or a signed one
abbrev pub ranged : List ℕ → Judgement
ranged [] = judgement.Wrong Bad
ranged (c ∷ cs) =
    if c == 43 then token_if (nat_le (value_from 0 cs) 9223372036854775807) kind.Int
    else (if c == 45 then token_if (nat_le (value_from 0 cs) 9223372036854775808) kind.Int
    else token_if (nat_le (value_from 0 (c ∷ cs)) 18446744073709551615) kind.Nat)

-- digits with a letter behind are none, a fraction is left out, and only then the range counts
abbrev pub judged_number : List ℕ → Judgement
judged_number text =
    if list_any is_letter text then judgement.Wrong Bad
    else (if list_any (λ c. c == 46) text then judgement.Wrong LeftOut else ranged text)

-- the wildcard, a keyword, a reserved operator, a word or a lone `!` that is left out, or a name
abbrev pub judged_word : List ℕ → Judgement
judged_word text =
    if bytes_eq text (codes "_") then judgement.Token kind.Wildcard
    else (if is_keyword text then judgement.Token kind.Keyword
    else (if is_reserved text then judgement.Token kind.Symbol
    else (if is_left_out text || bytes_eq text (codes "!") then judgement.Wrong LeftOut else token_if (is_name text) kind.Name)))

-- two hash signs and a name of the table
abbrev pub judged_builtin : List ℕ → Judgement
judged_builtin text = token_if (is_some (builtin_number (drop 2 text))) kind.Builtin

-- what a lexeme of a form is
abbrev pub judged_some : Form → List ℕ → Judgement
judged_some form.Dotted text = judged_word text
judged_some form.Number text = judged_number text
judged_some form.Text text = judgement.Token kind.Text
judged_some form.Character text = judgement.Token kind.Char
judged_some form.Hash text = judgement.Token kind.Hash
judged_some form.Builtin text = judged_builtin text
judged_some form.Single text = judgement.Token kind.Symbol

-- what the longest lexeme of a form is; where there is none, the text has no meaning
unfoldable pub judged : Form → List ℕ → Judgement
judged f [] = judgement.Wrong Bad
judged f (c ∷ cs) = judged_some f (c ∷ cs)
