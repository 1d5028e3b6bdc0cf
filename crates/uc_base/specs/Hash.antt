-- The text of a hash.
use Rattle.std.specs.Prelude.{◌≡◌, ℕ, ◌&&◌, ◌||◌, nat_le, Bool, List, length}
use Rattle.std.specs.List.{AllPass}

-- 0 to 9, and a to f
abbrev pub is_lower_digit : ℕ → Bool
is_lower_digit c = (nat_le 48 c && nat_le c 57) || (nat_le 97 c && nat_le c 102)

-- 128 lower-case hexadecimal digits
abbrev pub IsHashText : List ℕ → Type 0
IsHashText text = (length text ≡ 128) × AllPass is_lower_digit text
