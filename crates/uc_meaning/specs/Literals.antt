-- The values of literals.
use Rattle.std.specs.Prelude.{ℕ, ◌^◌, ℤ, pos, Bool, true, false, ◌==◌, ◌&&◌, List, [], ◌∷◌, drop, nat_lt, nat_le, neg_ℤ, slice_get, unwrap_or, if◌then◌else◌}
use Rattle.std.specs.List.{list_all}
use Rattle.std.specs.Str.{chars, is_utf8}
use Rattle.std.specs.Str.Parse.{digits_value}
use Rattle.uc_base.specs.Name.{is_digit}
use Rattle.uc_tree.specs.declared.literal.Literal.{Literal}
use Rattle.uc_tree.specs.declared.literal.Literal.TheVariants.{Nat, Int, Boolean, Text, Char}
use Rattle.uc_scratch.specs.declared.written.Literal as written
use Rattle.uc_scratch.specs.declared.written.LiteralSort.{LiteralSort}
use Rattle.uc_scratch.specs.declared.written.LiteralSort.TheVariants as sort

-- whether a text is one digit or more
abbrev pub are_digits : List ℕ → Bool
are_digits [] = false
are_digits (c ∷ cs) = list_all is_digit (c ∷ cs)

-- the number that digits spell, where it is below 2 ^ bits; 0 for every other text, as no token has one
abbrev pub number_written : ℕ → List ℕ → ℕ
number_written bits text = if are_digits text && nat_lt (digits_value 10 text) (2 ^ bits) then digits_value 10 text else 0

-- the integer of a sign and a number, from -2 ^ 63 to 2 ^ 63 - 1; 0 for all others
abbrev pub signed : ℕ → ℕ → ℤ
signed sign number =
    if sign == 45 then (if nat_le number (2 ^ 63) then neg_ℤ (pos number) else pos 0) else (if nat_lt number (2 ^ 63) then pos number else pos 0)

-- the integer that a sign and digits spell
abbrev pub integer_written : List ℕ → ℤ
integer_written [] = pos 0
integer_written (c ∷ cs) = signed c (number_written 64 cs)

-- the character that stands for itself or that is escaped
abbrev pub escaped : ℕ → ℕ
escaped c = if c == 110 then 10 else (if c == 116 then 9 else (if c == 114 then 13 else (if c == 48 then 0 else (if c == 115 then 32 else c))))

-- the bytes of a text up to its closing quote, with its escapes replaced
abbrev pub unescaped : List ℕ → List ℕ
unescaped [] = []
unescaped (c ∷ []) = if c == 34 then [] else c ∷ []
unescaped (c ∷ d ∷ cs) = if c == 34 then [] else (if c == 92 then escaped d ∷ unescaped cs else c ∷ unescaped (d ∷ cs))

-- the character that a text in UTF-8 begins with; 0 for every other text
abbrev pub character_in : List ℕ → ℕ
character_in text = if is_utf8 text then unwrap_or (slice_get (chars text) 0) 0 else 0

-- the character behind `?`: itself, or what a backslash and a character stand for
abbrev pub character_written : List ℕ → ℕ
character_written (c ∷ d ∷ cs) = if c == 92 then escaped d else character_in (c ∷ d ∷ cs)
character_written text = character_in text

-- the value that is written
abbrev pub value_written : LiteralSort → List ℕ → Literal
value_written sort.Nat text = Nat (number_written 64 text)
value_written sort.Int text = Int (integer_written text)
value_written sort.Text text = Text (unescaped (drop 1 text))
value_written sort.Char text = Char (character_written (drop 1 text))
value_written sort.True text = Boolean true
value_written sort.False text = Boolean false

-- the value of a literal
abbrev pub literal_value : written.Literal → Literal
literal_value l = value_written l.sort l.written.text
