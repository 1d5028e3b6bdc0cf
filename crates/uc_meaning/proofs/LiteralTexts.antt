-- Digits, escapes and characters.
use Rattle.std.proofs.Common.{◌≡◌, ℕ, ◌<◌, ◌^◌, Bool, true, false, cond, ◌&&◌, List, [], ◌∷◌, refl, sym, ap, ◌∙◌, arith}
use Rattle.std.specs.Prelude.{nat_lt, slice_get, unwrap_or}
use Rattle.std.specs.List.{list_all}
use Rattle.std.specs.Char.{digit_value}
use Rattle.std.specs.Str.{chars, is_utf8, IsUtf8}
use Rattle.std.specs.Str.Parse.{AllDigits, digits_value}
use borrow.Author.Tests.{ltb-true, lt-ltb}
use Rattle.std.proofs.lemmas.Bool.Decides.{nat_tests}
use Rattle.std.proofs.lemmas.Str.{is_utf8-from_IsUtf8, IsUtf8-from_is_utf8}
use Rattle.uc_base.specs.Name.{is_digit}
use Rattle.uc_base.specs.Decimal.{IsDecimal}
use Rattle.uc_meaning.specs.Literals.{number_written, character_in}

-- a digit by its value
digit_test : (c : ℕ) → is_digit c ≡ nat_lt (digit_value c) 10
digit_test c = grind (arith, nat_tests)

digit_small : (c : ℕ) → is_digit c ≡ true → digit_value c < 10
digit_small c h = let e = digit_test c in grind (arith, nat_tests)

small_digit : (c : ℕ) → digit_value c < 10 → is_digit c ≡ true
small_digit c h = let e = digit_test c in grind (arith, nat_tests)

all_digits : (cs : List ℕ) → AllDigits 10 cs → list_all is_digit cs ≡ true
all_digits [] d = refl
all_digits (c ∷ cs) d = ap (λ b. b && list_all is_digit cs) (small_digit c d.0) ∙ all_digits cs d.1

first_true : (a b : Bool) → a && b ≡ true → a ≡ true
first_true true b e = refl
first_true false b e = e

second_true : (a b : Bool) → a && b ≡ true → b ≡ true
second_true true b e = e
second_true false b e = cc

digits_all : (cs : List ℕ) → list_all is_digit cs ≡ true → AllDigits 10 cs
digits_all [] e = tt
digits_all (c ∷ cs) e = (digit_small c (first_true (is_digit c) (list_all is_digit cs) e), digits_all cs (second_true (is_digit c) (list_all is_digit cs) e))

pub number_some : (text : List ℕ) → IsDecimal text → digits_value 10 text ≡ number_written 64 text
number_some [] d = absurd (omega (arith, d.0.0))
number_some (c ∷ cs) d =
    let e = all_digits (c ∷ cs) d.0.1 in
    let f : nat_lt (digits_value 10 (c ∷ cs)) (2 ^ 64) ≡ true = lt-ltb _ _ d.1 in
    sym (ap (λ b. cond (b && nat_lt (digits_value 10 (c ∷ cs)) (2 ^ 64)) (digits_value 10 (c ∷ cs)) 0) e ∙ ap (λ b. cond b (digits_value 10 (c ∷ cs)) 0) f)

number_by : (b d : Bool) (n : ℕ) → (b ≡ true → d ≡ true → ⊥) → 0 ≡ cond (b && d) n 0
number_by true true n h = absurd (h refl refl)
number_by true false n h = refl
number_by false d n h = refl

pub number_none : (text : List ℕ) → (IsDecimal text → ⊥) → 0 ≡ number_written 64 text
number_none [] h = refl
number_none (c ∷ cs) h =
    number_by (list_all is_digit (c ∷ cs)) (nat_lt (digits_value 10 (c ∷ cs)) (2 ^ 64)) (digits_value 10 (c ∷ cs))
    (λ e f. h ((omega arith, digits_all (c ∷ cs) e), ltb-true _ _ f))

pub character_none : (text : List ℕ) → ¬ (IsUtf8 text) → 0 ≡ character_in text
character_none text h = by (is_utf8 text) refl
  where
    by : (b : Bool) → is_utf8 text ≡ b → 0 ≡ cond b (unwrap_or (slice_get (chars text) 0) 0) 0
    by true e = absurd (h (IsUtf8-from_is_utf8 text e))
    by false e = refl

pub character_some : (text : List ℕ) → IsUtf8 text → unwrap_or (slice_get (chars text) 0) 0 ≡ character_in text
character_some text u = sym (ap (λ b. cond b (unwrap_or (slice_get (chars text) 0) 0) 0) (is_utf8-from_IsUtf8 text u))
