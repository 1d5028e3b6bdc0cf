-- Reading from left to right: numbers, hashes, texts and literals.
use Rattle.std.specs.Prelude.{◌≡◌, ℕ, zero, suc, ◌+◌, ◌-◌, ◌*◌, ◌&&◌, List, [], ◌∷◌, ◌++◌, length, take, drop, Option, Some, None, option_and_then, Result, Ok, Err, ℤ, pos, negsuc, Bool, true, false, nat_lt, nat_le, ◌==◌, if◌then◌else◌}
use Rattle.std.specs.Char.{is_ascii_digit}
use Rattle.std.specs.List.{list_all}
use Rattle.std.specs.Result.{result_unwrap_or}
use Rattle.std.specs.Str.{is_utf8}
use lib.Utf8.{scalar}
use Rattle.hex.specs.Hex.{decode_sized}
use Rattle.uc_base.specs.declared.hash.Hash.{Hash}
use Rattle.uc_base.specs.Hash.{is_lower_digit}
use Rattle.uc_tree.specs.declared.literal.Literal.{Literal}
use Rattle.uc_tree.specs.declared.literal.Literal.TheVariants.{Nat, Int, Boolean, Text, Char}
use Rattle.uc_canon.specs.declared.read_error.ReadError.{ReadError}
use Rattle.uc_canon.specs.declared.read_error.ReadError.TheVariants.{Memory, Absent}

-- a value and the bytes after it, or nothing
abbrev pub Read : Type 0 → Type 0
Read A = Option (A × List ℕ)

infixl 10 ◌>>=◌
abbrev pub ◌>>=◌ : {A B : Type 0} → Option A → (A → Option B) → Option B
o >>= f = option_and_then f o

-- nothing is read, unless memory ran out
abbrev pub Fails : {Y : Type 0} → ReadError → Option Y → Type 0
Fails Memory read = Unit {0}
Fails Absent read = read ≡ None

-- what a reader returned, seen by view, is what is read, unless memory ran out
abbrev pub Gives : {X Y : Type 0} → (X → Y) → Result X ReadError → Option Y → Type 0
Gives view (Ok x) read = read ≡ Some (view x)
Gives view (Err e) read = Fails e read

-- so many items, after those that are done
abbrev pub items_from : {A : Type 0} → (List ℕ → Read A) → List A → ℕ → List ℕ → Read (List A)
items_from next done zero bytes = Some (done, bytes)
items_from next done (suc n) bytes = next bytes >>= λ x. items_from next (done ++ x.0 ∷ []) n x.1

-- ---- numbers

-- a digit behind a number, where that is at most `most`
unfoldable pub pushed : ℕ → ℕ → ℕ → Option ℕ
pushed most n c = if is_ascii_digit c && nat_le (n * 10 + (c - 48)) most then Some (n * 10 + (c - 48)) else None

-- the digits up to a semicolon, behind a number
abbrev pub number_from : ℕ → ℕ → List ℕ → Read ℕ
number_from most n [] = None
number_from most n (c ∷ cs) = if c == 59 then Some (n, cs) else (pushed most n c >>= λ m. number_from most m cs)

-- a number that a semicolon ends at once
abbrev pub ended : ℕ → List ℕ → Read ℕ
ended n [] = None
ended n (c ∷ cs) = if c == 59 then Some (n, cs) else None

-- a number of at most `most`, without leading zeros
unfoldable pub number_at : ℕ → List ℕ → Read ℕ
number_at most [] = None
number_at most (c ∷ cs) = if c == 48 then ended 0 cs else (if c == 59 then None else number_from most 0 (c ∷ cs))

-- a number of parts, of which there are at least so many
unfoldable pub count_at : ℕ → List ℕ → Read ℕ
count_at least bytes = do
  n ← number_at 4294967295 bytes
  if nat_lt n.0 least then None else Some n

-- how many, and then each
unfoldable pub counted_at : {A : Type 0} → (List ℕ → Read A) → ℕ → List ℕ → Read (List A)
counted_at next least bytes = do
  n ← count_at least bytes
  items_from next [] n.0 n.1

-- ---- hashes and texts

-- 128 lower-case digits
abbrev pub is_hash_text : List ℕ → Bool
is_hash_text digits = (length digits == 128) && list_all is_lower_digit digits

-- the hash that digits spell
abbrev pub hash_of : List ℕ → Hash
hash_of digits = record { 0 = result_unwrap_or (decode_sized digits 64) [] }

unfoldable pub hash_at : List ℕ → Read Hash
hash_at bytes = if is_hash_text (take 128 bytes) then Some (hash_of (take 128 bytes), drop 128 bytes) else None

-- so many bytes
unfoldable pub bytes_at : List ℕ → Read (List ℕ)
bytes_at bytes = do
  n ← number_at 18446744073709551615 bytes
  if nat_lt (length n.1) n.0 then None else Some (take n.0 n.1, drop n.0 n.1)

-- ---- literals

unfoldable pub nat_at : List ℕ → Read Literal
nat_at bytes = do
  n ← number_at 18446744073709551615 bytes
  Some (Nat n.0, n.1)

-- behind a `+`
unfoldable pub plus_at : List ℕ → Read Literal
plus_at bytes = do
  n ← number_at 9223372036854775807 bytes
  Some (Int (pos n.0), n.1)

-- zero has no minus
abbrev pub minus : ℕ → Option ℤ
minus zero = None
minus (suc n) = Some (negsuc n)

-- behind a `-`
unfoldable pub minus_at : List ℕ → Read Literal
minus_at bytes = do
  n ← number_at 9223372036854775808 bytes
  z ← minus n.0
  Some (Int z, n.1)

unfoldable pub int_at : List ℕ → Read Literal
int_at [] = None
int_at (c ∷ rest) = if c == 43 then plus_at rest else (if c == 45 then minus_at rest else None)

unfoldable pub text_at : List ℕ → Read Literal
text_at bytes = do
  text ← bytes_at bytes
  if is_utf8 text.0 then Some (Text text.0, text.1) else None

unfoldable pub char_at : List ℕ → Read Literal
char_at bytes = do
  n ← number_at 1114111 bytes
  if scalar n.0 then Some (Char n.0, n.1) else None

-- the literal of a kind
unfoldable pub literal_by : ℕ → List ℕ → Read Literal
literal_by c rest =
    if c == 110 then nat_at rest
    else (if c == 105 then int_at rest
    else (if c == 121 then Some (Boolean true, rest)
    else (if c == 122 then Some (Boolean false, rest)
    else (if c == 120 then text_at rest
    else (if c == 99 then char_at rest else None)))))
