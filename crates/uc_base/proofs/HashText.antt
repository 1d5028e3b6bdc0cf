-- Lower-case digits that are read are the digits that would be written.
use Rattle.std.proofs.Common.{◌≡◌, ℕ, zero, suc, ◌+◌, ◌*◌, ◌/◌, ◌%◌, ◌<◌, ◌==◌, Bool, true, false, not, ◌&&◌, ◌||◌, nat_lt, inl, inr, List, [], ◌∷◌, length, slice_index, slice_index_or, Option, Some, None, is_some, Result, Ok, Err, refl, sym, ap, ◌∙◌, arith, rules, eqb-true, ltb-true}
use Rattle.std.proofs.lemmas.Bool.{and_parts, cases_lt}
use Rattle.std.proofs.lemmas.List.Elements.{All-head, All-tail}
use Rattle.std.specs.List.{AllPass}
use Rattle.std.specs.Result.{result_unwrap_or, MatchResult}
use Rattle.hex.specs.Hex.{decode_pairs, decode_sized, digit_or_error, hex_digit_value, encode_lower, encode_with, is_hex_digit, lower_digits, pair_value, value_at, ◌>>=◌}
use Rattle.hex.specs.declared.error.FromHexError.{FromHexError}
use Rattle.hex.proofs.HexLemmas.{decode_sized-twice, decode_of-even, decode_of-digits}
use Rattle.uc_base.specs.Hash.{is_lower_digit}

-- the digit of a value is that character
abbrev digit_back : Option ℕ → ℕ → Bool
digit_back (Some v) c = nat_lt v 16 && (slice_index lower_digits v == c)
digit_back None c = false

abbrev reads_back : ℕ → Bool
reads_back c = not (is_lower_digit c) || digit_back (hex_digit_value c) c

abbrev all_below : ℕ → Bool
all_below zero = true
all_below (suc n) = reads_back n && all_below n

all_below-at : (n c : ℕ) → all_below n ≡ true → c < n → reads_back c ≡ true
all_below-at zero c h lt = absurd (omega arith)
all_below-at (suc n) c h lt =
    let parts = and_parts (reads_back n) (all_below n) h in
    elim (cases_lt c n) [
      | inl below ↦ all_below-at n c parts.1 below
      | inr top ↦ let e : c ≡ n = omega arith in rw e parts.0
    ]

or_true : (a b : Bool) → a ≡ true → (not a || b) ≡ true → b ≡ true
or_true true b e h = h
or_true false b e h = absurd cc

some_back : (o : Option ℕ) (c v : ℕ) → digit_back o c ≡ true → o ≡ Some v → (v < 16) × (slice_index lower_digits v ≡ c)
some_back None c v h e = absurd cc
some_back (Some w) c v h e =
    let is : w ≡ v = cc in
    let parts = and_parts (nat_lt w 16) (slice_index lower_digits w == c) h in
    rw (← is) (ltb-true w 16 parts.0, eqb-true _ _ parts.1)

small : (c : ℕ) → is_lower_digit c ≡ true → c < 103
small c h = grind (arith, rules)

value_back : (c v : ℕ) → is_lower_digit c ≡ true → hex_digit_value c ≡ Some v → (v < 16) × (slice_index lower_digits v ≡ c)
value_back c v lower e =
    some_back (hex_digit_value c) c v (or_true (is_lower_digit c) _ lower (all_below-at 103 c refl (small c lower))) e

read_is : (c i v : ℕ) (o : Option ℕ) → digit_or_error c i o ≡ Ok v → o ≡ Some v
read_is c i v (Some w) e = ap Some (ap (λ (r : Result ℕ FromHexError). result_unwrap_or r 0) e)
read_is c i v None e = absurd cc

bound : {A B : Type 0} (r : Result A FromHexError) (f : A → Result B FromHexError) (y : B) → (r >>= f) ≡ Ok y → (x : A) × (r ≡ Ok x) × (f x ≡ Ok y)
bound (Ok x) f y e = (x, refl, e)
bound (Err e) f y h = absurd cc

abbrev Lower : List ℕ → Type 0
Lower = AllPass is_lower_digit

pairs_back : (i : ℕ) (s bytes : List ℕ) → Lower s → decode_pairs i s ≡ Ok bytes → s ≡ encode_with lower_digits bytes
unfolding decode_pairs encode_with
pairs_back i [] bytes low h =
    let e : [] ≡ bytes = ap (λ (r : Result (List ℕ) FromHexError). result_unwrap_or r []) h in
    rw (← e) refl
pairs_back i (a ∷ []) bytes low h = absurd cc
pairs_back i (a ∷ b ∷ rest) bytes low h =
    let digit : ℕ → Type 0 = λ c. is_lower_digit c ≡ true in
    let p0 = bound (pair_value a b i) _ bytes h in
    let p1 = bound (value_at a i) _ p0.0 p0.1 in
    let p2 = bound (value_at b (i + 1)) _ p0.0 p1.2 in
    let p3 = bound (decode_pairs (i + 2) rest) _ bytes p0.2 in
    let tail = All-tail digit a (b ∷ rest) low in
    let ih = pairs_back (i + 2) rest p3.0 (All-tail digit b rest tail) p3.1 in
    let e : p0.0 ∷ p3.0 ≡ bytes = ap (λ (r : Result (List ℕ) FromHexError). result_unwrap_or r []) p3.2 in
    let va = value_back a p1.0 (All-head digit a (b ∷ rest) low) (read_is a i p1.0 (hex_digit_value a) p1.1) in
    let vb = value_back b p2.0 (All-head digit b rest tail) (read_is b (i + 1) p2.0 (hex_digit_value b) p2.1) in
    let byte : p1.0 * 16 + p2.0 ≡ p0.0 = ap (λ (r : Result ℕ FromHexError). result_unwrap_or r 0) p2.2 in
    let high : p0.0 / 16 ≡ p1.0 = omega arith in
    let low4 : p0.0 % 16 ≡ p2.0 = omega arith in
    rw (← e) (rw (high, low4, va.1, vb.1) (ap (λ (l : List ℕ). a ∷ b ∷ l) ih))

pub text_back : (s bytes : List ℕ) → length s ≡ 128 → Lower s → decode_sized s 64 ≡ Ok bytes → s ≡ encode_lower bytes
text_back s bytes len low h =
    pairs_back 0 s bytes low (sym (decode_of-even s (omega arith)) ∙ sym (decode_sized-twice s 64 (omega arith)) ∙ h)

hex_digit : (c : ℕ) → is_lower_digit c ≡ true → is_hex_digit c ≡ true
hex_digit c lower = some (hex_digit_value c) (or_true (is_lower_digit c) _ lower (all_below-at 103 c refl (small c lower)))
  where
    some : (o : Option ℕ) → digit_back o c ≡ true → is_some o ≡ true
    some (Some v) h = refl
    some None h = absurd cc

-- lower-case digits decode
pub text_decodes : (s : List ℕ) → length s ≡ 128 → Lower s → (bytes : List ℕ) × (decode_sized s 64 ≡ Ok bytes)
text_decodes s len low =
    let found = decode_of-digits s (omega arith) (λ k d lt. hex_digit (slice_index_or s k d) (low k d lt)) in
    (found.0, decode_sized-twice s 64 (omega arith) ∙ found.1)

-- what decoding into room for 64 bytes left there
pub decoded : (d : Result (List ℕ) FromHexError) (r : Result Unit FromHexError) (out bytes : List ℕ)
    → MatchResult d (λ b. (r ≡ Ok tt) × (out ≡ b)) (λ e. r ≡ Err e) → d ≡ Ok bytes → (r ≡ Ok tt) × (out ≡ bytes)
decoded (Ok b) r out bytes h e = let is : b ≡ bytes = ap (λ (r : Result (List ℕ) FromHexError). result_unwrap_or r []) e in (h.0, h.1 ∙ is)
decoded (Err x) r out bytes h e = absurd cc
