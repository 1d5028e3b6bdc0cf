-- A hash that is read is spelled so, and a hash that is spelled is read.
use Rattle.std.proofs.Common.{◌≡◌, ℕ, zero, suc, ◌/◌, ◌%◌, ◌<◌, Bool, true, false, ◌&&◌, List, [], ◌∷◌, ◌++◌, length, slice_index, take, drop, Some, None, Result, refl, sym, ap, subst, ◌∙◌, arith, inl, inr, lit<}
use Rattle.std.proofs.lemmas.Bool.{and_parts, eq-eqb, eqb-true, cases_lt}
use Rattle.std.proofs.lemmas.List.{take-append-drop, length-take, get_or_past}
use Rattle.std.proofs.lemmas.List.Sums.{AllPass-from_list_all, list_all-from_AllPass}
use Rattle.std.proofs.Math.Seq.{take-append_seam, drop-append_seam}
use Rattle.std.specs.Cmp.Derive.{both_true}
use Rattle.std.specs.List.{list_all}
use Rattle.std.specs.Result.{result_unwrap_or}
use Rattle.hex.specs.Hex.{encode_lower, encode_with, lower_digits, IsBytes}
use Rattle.hex.specs.declared.error.FromHexError.{FromHexError}
use Rattle.hex.proofs.HexLemmas.{length-encode_with, decode_sized-encode_lower, decode_sized-twice, decode_of-ok}
use Rattle.uc_base.specs.declared.hash.Hash.{Hash}
use Rattle.uc_base.specs.Hash.{is_lower_digit, IsHashText}
use Rattle.uc_base.proofs.HashText.{text_back, text_decodes}
use Rattle.uc_canon.specs.Bounds.{IsHash}
use Rattle.uc_canon.specs.Reading.{is_hash_text, hash_of, hash_at}
use Rattle.uc_canon.proofs.ReadSteps.{passed, untested, Takes, answered}

abbrev pub hash_text : Hash → List ℕ
hash_text hash = encode_lower hash.0

-- ---- digits

abbrev all_lower : ℕ → Bool
all_lower zero = true
all_lower (suc n) = is_lower_digit (slice_index lower_digits n) && all_lower n

all_lower-at : (n d : ℕ) → all_lower n ≡ true → d < n → is_lower_digit (slice_index lower_digits d) ≡ true
all_lower-at zero d h lt = absurd (omega arith)
all_lower-at (suc n) d h lt =
    let parts = and_parts (is_lower_digit (slice_index lower_digits n)) (all_lower n) h in
    elim (cases_lt d n) [
      | inl below ↦ all_lower-at n d parts.1 below
      | inr top ↦ let e : d ≡ n = omega arith in rw e parts.0
    ]

lower_digit : (d : ℕ) → d < 16 → is_lower_digit (slice_index lower_digits d) ≡ true
lower_digit d lt = all_lower-at 16 d refl lt

lower_text : (bytes : List ℕ) → IsBytes bytes → list_all is_lower_digit (encode_lower bytes) ≡ true
unfolding encode_with
lower_text [] h = refl
lower_text (b ∷ bs) h =
    both_true (lower_digit (b / 16) (omega (arith, h 0))) (both_true (lower_digit (b % 16) (omega arith)) (lower_text bs (λ i. h (suc i))))

digit_back : (d : ℕ) → is_lower_digit (slice_index lower_digits d) ≡ true → d < 16
digit_back d lower =
    elim (cases_lt d 16) [
      | inl below ↦ below
      | inr past ↦ let zero_is : slice_index lower_digits d ≡ 0 = get_or_past lower_digits d 0 past in
          let none : false ≡ true = ap is_lower_digit (sym zero_is) ∙ lower in cc
    ]

bytes_cons : (b : ℕ) (bytes : List ℕ) → b < 256 → IsBytes bytes → IsBytes (b ∷ bytes)
bytes_cons b bytes lt h zero = lt
bytes_cons b bytes lt h (suc i) = h i

-- what has a text of lower-case digits is bytes
bytes_back : (bytes : List ℕ) → list_all is_lower_digit (encode_lower bytes) ≡ true → IsBytes bytes
unfolding encode_with
bytes_back [] lower = λ i. lit< tt
bytes_back (b ∷ bs) lower =
    let high = and_parts (is_lower_digit (slice_index lower_digits (b / 16))) _ lower in
    let low = and_parts (is_lower_digit (slice_index lower_digits (b % 16))) _ high.1 in
    let small : b / 16 < 16 = digit_back (b / 16) high.0 in
    bytes_cons b bs (omega arith) (bytes_back bs low.1)

-- ---- hashes

written_is_text : (hash : Hash) → IsHash hash → is_hash_text (hash_text hash) ≡ true
written_is_text hash is =
    let len : length (hash_text hash) ≡ 128 = omega (arith, length-encode_with lower_digits hash.0, is.length) in
    both_true (eq-eqb _ _ len) (lower_text hash.0 is.bytes)

hash_back : (hash : Hash) → IsHash hash → hash_of (hash_text hash) ≡ hash
hash_back hash is = rw (decode_sized-encode_lower hash.0 64 is.length is.bytes) refl

-- which texts are of hashes
pub text_test : (digits : List ℕ) → is_hash_text digits ≡ true → IsHashText digits
text_test digits e = let t = and_parts _ _ e in (eqb-true _ _ t.0, AllPass-from_list_all _ digits t.1)

pub text_passes : (digits : List ℕ) → IsHashText digits → is_hash_text digits ≡ true
text_passes digits is = both_true (eq-eqb _ _ is.0) (list_all-from_AllPass _ digits is.1)

pub hash_takes : (bytes : List ℕ) (x : Hash × List ℕ) → hash_at bytes ≡ Some x → Takes hash_text IsHash bytes x
unfolding hash_at
hash_takes bytes x e =
    let digits = take 128 bytes in
    let g = passed (is_hash_text digits) (Some (hash_of digits, drop 128 bytes)) x e in
    let text = text_test digits g.0 in
    let found = text_decodes digits text.0 text.1 in
    let back : digits ≡ encode_lower found.0 = text_back digits found.0 text.0 text.1 found.1 in
    let whole = decode_of-ok digits found.0 (sym (decode_sized-twice digits 64 (omega (arith, text.0))) ∙ found.1) in
    let value : record { 0 = found.0 } ≡ hash_of digits = ap (λ (r : Result (List ℕ) FromHexError). record { 0 = result_unwrap_or r [] }) (sym found.1) in
    answered hash_text IsHash bytes (hash_of digits, drop 128 bytes) x g.1
    (subst (λ (h : Hash). Takes hash_text IsHash bytes (h, drop 128 bytes)) value (record {
      parts = sym (take-append-drop 128 bytes) ∙ ap (λ (l : List ℕ). l ++ drop 128 bytes) back;
      fits = record { length = omega (arith, whole.2, text.0); bytes = whole.3 };
    }))

pub hash_again : (hash : Hash) (rest : List ℕ) → IsHash hash → hash_at (hash_text hash ++ rest) ≡ Some (hash, rest)
unfolding hash_at
hash_again hash rest is =
    let len : length (hash_text hash) ≡ 128 = omega (arith, length-encode_with lower_digits hash.0, is.length) in
    let front : take 128 (hash_text hash ++ rest) ≡ hash_text hash = ap (λ (n : ℕ). take n (hash_text hash ++ rest)) (sym len) ∙ take-append_seam (hash_text hash) rest in
    let back : drop 128 (hash_text hash ++ rest) ≡ rest = ap (λ (n : ℕ). drop n (hash_text hash ++ rest)) (sym len) ∙ drop-append_seam (hash_text hash) rest in
    rw (front, back, written_is_text hash is, hash_back hash is) refl

-- ---- what a reader of hashes meets

pub hash_short : (bytes : List ℕ) → length bytes < 128 → hash_at bytes ≡ None
unfolding hash_at
hash_short bytes lt = untested _ _ (λ (is : is_hash_text (take 128 bytes) ≡ true). omega (arith, (text_test (take 128 bytes) is).0, length-take 128 bytes))

pub hash_other : (bytes : List ℕ) → (IsHashText (take 128 bytes) → ⊥) → hash_at bytes ≡ None
unfolding hash_at
hash_other bytes other = untested _ _ (λ is. other (text_test (take 128 bytes) is))

pub hash_found : (bytes : List ℕ) (hash : Hash) → IsHashText (take 128 bytes) → take 128 bytes ≡ hash_text hash → hash_at bytes ≡ Some (hash, drop 128 bytes)
hash_found bytes hash text front =
    let lower : list_all is_lower_digit (hash_text hash) ≡ true = ap (list_all is_lower_digit) (sym front) ∙ list_all-from_AllPass _ (take 128 bytes) text.1 in
    let size : length hash.0 ≡ 64 = omega (arith, length-encode_with lower_digits hash.0, ap length front, text.0) in
    ap hash_at (sym (take-append-drop 128 bytes) ∙ ap (λ (l : List ℕ). l ++ drop 128 bytes) front)
    ∙ hash_again hash (drop 128 bytes) (record { length = size; bytes = bytes_back hash.0 lower })
