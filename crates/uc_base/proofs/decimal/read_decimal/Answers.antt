use Rattle.std.proofs.Common.{ℕ, ◌<◌, inl, inr, List, length, get_or, arith}
use Rattle.std.proofs.lemmas.Bool.{cases_lt}
use Rattle.std.proofs.lemmas.List.{get_or_past}
use Rattle.std.proofs.lemmas.Str.{IsUtf8-from_ascii}
use Rattle.std.proofs.lemmas.Str.Parse.{digit_at}
use Rattle.std.specs.Str.Parse.{AllDigits}
use Rattle.uc_base.proofs.decimal.read_decimal.Goals as goal

digits_ascii : (ds : List ℕ) → AllDigits 10 ds → (i : ℕ) → get_or ds i 0 < 128
digits_ascii ds h i =
    elim (cases_lt i (length ds)) [
      | inl inside ↦ let r = digit_at ds i h inside in omega (arith, r)
      | inr past ↦ let none = get_or_past ds i 0 past in omega (arith, none)
    ]

pub returns-in-Err : goal.returns-in-Err
returns-in-Err c = λ h. c.in-Err.ensures.cases.0 (IsUtf8-from_ascii c.args.digits.now (digits_ascii c.args.digits.now h.0.1))
