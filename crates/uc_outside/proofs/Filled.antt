-- A fill that is laid over ranges of a file.
use Rattle.std.proofs.Common.{◌≡◌, ◌≢◌, ◌⊎◌, inl, inr, ℕ, zero, suc, ◌+◌, ◌-◌, ◌<◌, ◌≤◌, ◌%◌, List, [], ◌∷◌, ◌++◌, length, get_or, set, take, drop, Bool, true, false, refl, sym, ◌∙◌, ap, arith, length-take}
use Rattle.std.specs.Prelude.{nat_le, nat_lt, ◌&&◌, if◌then◌else◌, slice_index}
use Rattle.std.proofs.lemmas.Bool.{cases_lt, cases_eq, le-leb, lt-ltb, lt-leb, le-ltb}
use Rattle.std.proofs.lemmas.List.{ext_get_or, get_or-set_same, get_or-set_other}
use Rattle.std.proofs.Math.ListN.{length-set}
use Rattle.uc_outside.specs.Disk.{Torn}
use Rattle.uc_outside.specs.Image.{filled_byte, filled}

pub length-filled : (fill : List ℕ) (laid : List (ℕ × ℕ)) (i : ℕ) (file : List ℕ) → length (filled fill laid i file) ≡ length file
length-filled fill laid i [] = refl
length-filled fill laid i (b ∷ file) = ap suc (length-filled fill laid (i + 1) file)

filled_byte-append : (fill : List ℕ) (laid more : List (ℕ × ℕ)) (i b : ℕ) → filled_byte fill (laid ++ more) i b ≡ filled_byte fill more i (filled_byte fill laid i b)
filled_byte-append fill [] more i b = refl
filled_byte-append fill (range ∷ laid) more i b = filled_byte-append fill laid more i _

-- one range after others
pub filled-append : (fill : List ℕ) (laid more : List (ℕ × ℕ)) (i : ℕ) (file : List ℕ) → filled fill (laid ++ more) i file ≡ filled fill more i (filled fill laid i file)
filled-append fill laid more i [] = refl
filled-append fill laid more i (b ∷ file) =
    ap (λ (l : List ℕ). filled_byte fill (laid ++ more) i b ∷ l) (filled-append fill laid more (i + 1) file)
    ∙ ap (λ (x : ℕ). x ∷ filled fill more (i + 1) (filled fill laid (i + 1) file)) (filled_byte-append fill laid more i b)

pub filled-none : (fill : List ℕ) (i : ℕ) (file : List ℕ) → filled fill [] i file ≡ file
filled-none fill i [] = refl
filled-none fill i (b ∷ file) = ap (λ (l : List ℕ). b ∷ l) (filled-none fill (i + 1) file)

-- a byte of a filled file
pub get_or-filled : (fill : List ℕ) (laid : List (ℕ × ℕ)) (i : ℕ) (file : List ℕ) (j : ℕ) → j < length file → get_or (filled fill laid i file) j 0 ≡ filled_byte fill laid (i + j) (get_or file j 0)
get_or-filled fill laid i [] j inside = absurd (omega arith)
get_or-filled fill laid i (b ∷ file) zero inside = ap (λ (k : ℕ). filled_byte fill laid k b) (let e : i ≡ i + 0 = omega arith in e)
get_or-filled fill laid i (b ∷ file) (suc j) inside =
    get_or-filled fill laid (i + 1) file j (omega arith) ∙ ap (λ (k : ℕ). filled_byte fill laid k (get_or file j 0)) (let e : i + 1 + j ≡ i + suc j = omega arith in e)

-- where one range holds an offset, and where it doesn't
pub byte_inside : (fill : List ℕ) (at n i b : ℕ) → at ≤ i → i < at + n → filled_byte fill ((at, n) ∷ []) i b ≡ slice_index fill ((i - at) % length fill)
byte_inside fill at n i b above below =
    let low : nat_le at i ≡ true = le-leb at i above in
    let high : nat_lt i (at + n) ≡ true = lt-ltb i (at + n) below in
    rw (low, high) refl

pub byte_before : (fill : List ℕ) (at n i b : ℕ) → i < at → filled_byte fill ((at, n) ∷ []) i b ≡ b
byte_before fill at n i b below =
    let low : nat_le at i ≡ false = lt-leb at i below in
    rw low refl

and_false : (x : Bool) → (x && false) ≡ false
and_false true = refl
and_false false = refl

pub byte_behind : (fill : List ℕ) (at n i b : ℕ) → at + n ≤ i → filled_byte fill ((at, n) ∷ []) i b ≡ b
byte_behind fill at n i b above =
    let high : nat_lt i (at + n) ≡ false = le-ltb i (at + n) above in
    ap (λ (t : Bool). if t then slice_index fill ((i - at) % length fill) else b) (ap (λ (t : Bool). nat_le at i && t) high ∙ and_false (nat_le at i))

-- a fill that has come to a place in its range
pub record IsFilled (fill : List ℕ) (at n : ℕ) (file image : List ℕ) : Type 0 where
  pub same_length : length image ≡ length file
  pub each : (j : ℕ) → j < length file → get_or image j 0 ≡ filled_byte fill ((at, n) ∷ []) j (get_or file j 0)

pub filled_start : (fill : List ℕ) (at : ℕ) (file : List ℕ) → IsFilled fill at 0 file file
filled_start fill at file = record {
  same_length = refl;
  each = λ j inside. elim (cases_lt j at) [
    | inl below ↦ sym (byte_before fill at 0 j (get_or file j 0) below)
    | inr above ↦ sym (byte_behind fill at 0 j (get_or file j 0) (omega arith))
  ];
}

pub filled_step : (fill : List ℕ) (at n : ℕ) (file image : List ℕ) (i x : ℕ) → IsFilled fill at n file image → at + n ≡ i → i < length file → x ≡ slice_index fill ((i - at) % length fill) → IsFilled fill at (n + 1) file (set image i x)
filled_step fill at n file image i x filled here inside is = record {
  same_length = length-set image i x ∙ filled.same_length;
  each = λ j within. elim (cases_eq j i) [
    | inl same ↦ ap (λ (k : ℕ). get_or (set image i x) k 0) same ∙ get_or-set_same image i x 0 (omega (arith, filled.same_length, inside)) ∙ is
        ∙ ap (λ (k : ℕ). slice_index fill ((k - at) % length fill)) (sym same) ∙ sym (byte_inside fill at (n + 1) j (get_or file j 0) (omega arith) (omega arith))
    | inr other ↦ get_or-set_other image i j x 0 other ∙ filled.each j within ∙ elsewhere j other
  ];
}
  where
    elsewhere : (j : ℕ) → j ≢ i → filled_byte fill ((at, n) ∷ []) j (get_or file j 0) ≡ filled_byte fill ((at, n + 1) ∷ []) j (get_or file j 0)
    elsewhere j other = elim (cases_lt j at) [
      | inl below ↦ byte_before fill at n j (get_or file j 0) below ∙ sym (byte_before fill at (n + 1) j (get_or file j 0) below)
      | inr above ↦ elim (cases_lt j (at + n)) [
        | inl held ↦ byte_inside fill at n j (get_or file j 0) above held ∙ sym (byte_inside fill at (n + 1) j (get_or file j 0) above (omega arith))
        | inr behind ↦ byte_behind fill at n j (get_or file j 0) behind ∙ sym (byte_behind fill at (n + 1) j (get_or file j 0) (omega arith))
      ]
    ]

pub filled_end : (fill : List ℕ) (at n len : ℕ) (file image : List ℕ) → IsFilled fill at n file image → n ≤ len → (n ≡ len) ⊎ (length file ≤ at + n) → image ≡ filled fill ((at, len) ∷ []) 0 file
filled_end fill at n len file image is within end =
    ext_get_or 0 image (filled fill ((at, len) ∷ []) 0 file) (is.same_length ∙ sym (length-filled fill ((at, len) ∷ []) 0 file))
    (λ j inside.
    let held : j < length file = omega (arith, is.same_length, inside) in
    is.each j held ∙ all j held end ∙ ap (λ (k : ℕ). filled_byte fill ((at, len) ∷ []) k (get_or file j 0)) (let e : j ≡ 0 + j = omega arith in e)
    ∙ sym (get_or-filled fill ((at, len) ∷ []) 0 file j held))
  where
    all : (j : ℕ) → j < length file → (n ≡ len) ⊎ (length file ≤ at + n) → filled_byte fill ((at, n) ∷ []) j (get_or file j 0) ≡ filled_byte fill ((at, len) ∷ []) j (get_or file j 0)
    all j held (inl same) = ap (λ (k : ℕ). filled_byte fill ((at, k) ∷ []) j (get_or file j 0)) same
    all j held (inr short) = elim (cases_lt j at) [
      | inl below ↦ byte_before fill at n j (get_or file j 0) below ∙ sym (byte_before fill at len j (get_or file j 0) below)
      | inr above ↦ byte_inside fill at n j (get_or file j 0) above (omega arith) ∙ sym (byte_inside fill at len j (get_or file j 0) above (omega arith))
    ]

-- the front and the back of a filled file
pub take-filled : (k : ℕ) (fill : List ℕ) (laid : List (ℕ × ℕ)) (i : ℕ) (file : List ℕ) → take k (filled fill laid i file) ≡ filled fill laid i (take k file)
take-filled zero fill laid i file = refl
take-filled (suc k) fill laid i [] = refl
take-filled (suc k) fill laid i (b ∷ file) = ap (λ (l : List ℕ). filled_byte fill laid i b ∷ l) (take-filled k fill laid (i + 1) file)

pub drop-filled : (k : ℕ) (fill : List ℕ) (laid : List (ℕ × ℕ)) (i : ℕ) (file : List ℕ) → drop k (filled fill laid i file) ≡ filled fill laid (i + k) (drop k file)
drop-filled zero fill laid i file = ap (λ (n : ℕ). filled fill laid n file) (let e : i ≡ i + 0 = omega arith in e)
drop-filled (suc k) fill laid i [] = refl
drop-filled (suc k) fill laid i (b ∷ file) = drop-filled k fill laid (i + 1) file ∙ ap (λ (n : ℕ). filled fill laid n (drop k file)) (let e : i + 1 + k ≡ i + suc k = omega arith in e)

filled_before : (fill : List ℕ) (at n i : ℕ) (file : List ℕ) → i + length file ≤ at → filled fill ((at, n) ∷ []) i file ≡ file
filled_before fill at n i [] below = refl
filled_before fill at n i (b ∷ file) below =
    ap (λ (x : ℕ). x ∷ filled fill ((at, n) ∷ []) (i + 1) file) (byte_before fill at n i b (omega arith)) ∙ ap (λ (l : List ℕ). b ∷ l) (filled_before fill at n (i + 1) file (omega arith))

filled_behind : (fill : List ℕ) (at n i : ℕ) (file : List ℕ) → at + n ≤ i → filled fill ((at, n) ∷ []) i file ≡ file
filled_behind fill at n i [] above = refl
filled_behind fill at n i (b ∷ file) above =
    ap (λ (x : ℕ). x ∷ filled fill ((at, n) ∷ []) (i + 1) file) (byte_behind fill at n i b above) ∙ ap (λ (l : List ℕ). b ∷ l) (filled_behind fill at n (i + 1) file (omega arith))

-- a write tears the image too
pub torn_filled : (fill : List ℕ) (laid : List (ℕ × ℕ)) (at n : ℕ) (old new : List ℕ) → Torn at n old new → Torn at n (filled fill laid 0 old) (filled fill (laid ++ (at, n) ∷ []) 0 new)
torn_filled fill laid at n old new torn = record {
  before = take-filled at fill (laid ++ (at, n) ∷ []) 0 new ∙ filled-append fill laid ((at, n) ∷ []) 0 (take at new)
      ∙ filled_before fill at n 0 (filled fill laid 0 (take at new)) (omega (arith, length-filled fill laid 0 (take at new), length-take at new))
      ∙ ap (λ (l : List ℕ). filled fill laid 0 l) torn.before ∙ sym (take-filled at fill laid 0 old);
  after = drop-filled (at + n) fill (laid ++ (at, n) ∷ []) 0 new ∙ filled-append fill laid ((at, n) ∷ []) (0 + (at + n)) (drop (at + n) new)
      ∙ filled_behind fill at n (0 + (at + n)) (filled fill laid (0 + (at + n)) (drop (at + n) new)) (omega arith)
      ∙ ap (λ (l : List ℕ). filled fill laid (0 + (at + n)) l) torn.after ∙ sym (drop-filled (at + n) fill laid 0 old);
  no_shorter = omega (arith, torn.no_shorter, length-filled fill laid 0 old, length-filled fill (laid ++ (at, n) ∷ []) 0 new);
  no_longer = omega (arith, torn.no_longer, length-filled fill laid 0 old, length-filled fill (laid ++ (at, n) ∷ []) 0 new);
}
