-- Decimal numbers.
use Rattle.std.specs.Prelude.{ℕ, ◌<◌, ◌^◌, List}
use Rattle.std.specs.Str.Parse.{IsNumeral, digits_value}

-- one digit or more, of a value below 2 ^ 64
abbrev pub IsDecimal : List ℕ → Type 0
IsDecimal digits = IsNumeral 10 digits × (digits_value 10 digits < 2 ^ 64)
