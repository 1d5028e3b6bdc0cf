-- A literal that is read is spelled so, and a literal that is spelled is read.
use Rattle.std.proofs.Common.{◌≡◌, ℕ, zero, suc, ◌<◌, ◌≤◌, ◌^◌, true, false, cond, eqb, ltb, List, [], ◌∷◌, ◌++◌, length, take, drop, pos, negsuc, unsigned_abs, Some, None, refl, sym, ap, subst, ◌∙◌, append_assoc, arith, lit<}
use Rattle.std.proofs.lemmas.Bool.{eqb-true, ltb-false, le-ltb}
use Rattle.std.proofs.lemmas.Bool.Decides.{nat_tests}
use Rattle.std.proofs.lemmas.List.{take-append-drop, length-take, length-append}
use Rattle.std.proofs.lemmas.Str.{IsUtf8-from_is_utf8, is_utf8-from_IsUtf8}
use Rattle.std.proofs.Math.Seq.{take-append_seam, drop-append_seam}
use Rattle.std.specs.Int.{is_negative}
use Rattle.std.specs.Str.{is_utf8}
use lib.Utf8.{scalar}
use Rattle.uc_tree.specs.declared.literal.Literal.{Literal}
use Rattle.uc_tree.specs.declared.literal.Literal.TheVariants.{Nat, Int, Boolean, Text, Char}
use Rattle.uc_canon.specs.Bounds.{IsLiteralInRange}
use Rattle.uc_canon.specs.Spelling.{number_text, bytes_text, sign_text, literal_text}
use Rattle.uc_canon.specs.Reading.{◌>>=◌, number_at, bytes_at, nat_at, plus_at, minus, minus_at, int_at, text_at, char_at, literal_by}
use Rattle.uc_canon.proofs.ReadSteps.{chosen, passed, not_passed, bound, Takes, answered, by_first, joined}
use Rattle.uc_canon.proofs.ReadNumbers.{number_takes, number_again}

abbrev last_u64 : ℕ
last_u64 = 18446744073709551615

-- ---- texts

abbrev pub IsShort : List ℕ → Type 0
IsShort text = length text < 2 ^ 64

pub bytes_take : (bytes : List ℕ) (x : List ℕ × List ℕ) → bytes_at bytes ≡ Some x → Takes bytes_text IsShort bytes x
unfolding bytes_at
bytes_take bytes x e =
    let a = bound (number_at last_u64 bytes) (λ n. cond (ltb (length n.1) n.0) None (Some (take n.0 n.1, drop n.0 n.1))) x e in
    let n = number_takes last_u64 bytes a.0 (lit< tt) a.1 in
    let g = not_passed (ltb (length a.0.1) a.0.0) (Some (take a.0.0 a.0.1, drop a.0.0 a.0.1)) x a.2 in
    let room : a.0.0 ≤ length a.0.1 = ltb-false _ _ g.0 in
    let size : length (take a.0.0 a.0.1) ≡ a.0.0 = omega (arith, length-take a.0.0 a.0.1) in
    answered bytes_text IsShort bytes (take a.0.0 a.0.1, drop a.0.0 a.0.1) x g.1
    (record {
      parts = joined bytes (number_text (length (take a.0.0 a.0.1))) a.0.1 (take a.0.0 a.0.1) (drop a.0.0 a.0.1)
          (n.parts ∙ ap (λ (k : ℕ). number_text k ++ a.0.1) (sym size)) (sym (take-append-drop a.0.0 a.0.1));
      fits = omega (arith, n.fits);
    })

pub bytes_again : (text rest : List ℕ) → IsShort text → bytes_at (bytes_text text ++ rest) ≡ Some (text, rest)
unfolding bytes_at
bytes_again text rest small =
    let test : ltb (length (text ++ rest)) (length text) ≡ false = le-ltb _ _ (omega (arith, length-append text rest)) in
    rw (append_assoc, number_again last_u64 (length text) (text ++ rest) small (omega arith), test, take-append_seam text rest, drop-append_seam text rest) refl

-- ---- literals

nat_takes : (rest : List ℕ) (x : Literal × List ℕ) → nat_at rest ≡ Some x → Takes literal_text IsLiteralInRange (110 ∷ rest) x
unfolding nat_at
nat_takes rest x e =
    let a = bound (number_at last_u64 rest) (λ n. Some (Nat n.0, n.1)) x e in
    let n = number_takes last_u64 rest a.0 (lit< tt) a.1 in
    answered literal_text IsLiteralInRange (110 ∷ rest) (Nat a.0.0, a.0.1) x a.2
    (record { parts = ap (λ (l : List ℕ). 110 ∷ l) n.parts; fits = omega (arith, n.fits) })

plus_takes : (rest : List ℕ) (x : Literal × List ℕ) → plus_at rest ≡ Some x → Takes literal_text IsLiteralInRange (105 ∷ 43 ∷ rest) x
unfolding plus_at
plus_takes rest x e =
    let a = bound (number_at 9223372036854775807 rest) (λ n. Some (Int (pos n.0), n.1)) x e in
    let n = number_takes 9223372036854775807 rest a.0 (lit< tt) a.1 in
    let sign : ltb a.0.0 0 ≡ false = le-ltb a.0.0 0 (omega arith) in
    answered literal_text IsLiteralInRange (105 ∷ 43 ∷ rest) (Int (pos a.0.0), a.0.1) x a.2
    (record { parts = rw sign (ap (λ (l : List ℕ). 105 ∷ 43 ∷ l) n.parts); fits = record { sfits = omega (arith, n.fits) } })

minus_takes : (rest : List ℕ) (x : Literal × List ℕ) → minus_at rest ≡ Some x → Takes literal_text IsLiteralInRange (105 ∷ 45 ∷ rest) x
unfolding minus_at
minus_takes rest x e =
    let a = bound (number_at 9223372036854775808 rest) (λ n. minus n.0 >>= λ z. Some (Int z, n.1)) x e in
    let n = number_takes 9223372036854775808 rest a.0 (lit< tt) a.1 in
    go a.0.0 a.0.1 n.parts n.fits a.2
  where
    go : (n : ℕ) (after : List ℕ) → rest ≡ number_text n ++ after → n ≤ 9223372036854775808 → (minus n >>= λ z. Some (Int z, after)) ≡ Some x → Takes literal_text IsLiteralInRange (105 ∷ 45 ∷ rest) x
    go zero after parts small e = absurd cc
    go (suc n) after parts small e =
        answered literal_text IsLiteralInRange (105 ∷ 45 ∷ rest) (Int (negsuc n), after) x e
        (record { parts = ap (λ (l : List ℕ). 105 ∷ 45 ∷ l) parts; fits = record { sfits = omega arith } })

int_takes : (rest : List ℕ) (x : Literal × List ℕ) → int_at rest ≡ Some x → Takes literal_text IsLiteralInRange (105 ∷ rest) x
unfolding int_at
int_takes [] x e = absurd cc
int_takes (c ∷ rest) x e =
    let T : ℕ → Type 0 = λ d. Takes literal_text IsLiteralInRange (105 ∷ d ∷ rest) x in
    chosen c 43 _ _ x e (λ is e. subst T (sym is) (plus_takes rest x e))
    (λ e. let m = passed (eqb c 45) (minus_at rest) x e in subst T (sym (eqb-true c 45 m.0)) (minus_takes rest x m.1))

text_takes : (rest : List ℕ) (x : Literal × List ℕ) → text_at rest ≡ Some x → Takes literal_text IsLiteralInRange (120 ∷ rest) x
unfolding text_at
text_takes rest x e =
    let a = bound (bytes_at rest) (λ text. cond (is_utf8 text.0) (Some (Text text.0, text.1)) None) x e in
    let text = bytes_take rest a.0 a.1 in
    let g = passed (is_utf8 a.0.0) (Some (Text a.0.0, a.0.1)) x a.2 in
    answered literal_text IsLiteralInRange (120 ∷ rest) (Text a.0.0, a.0.1) x g.1
    (record { parts = ap (λ (l : List ℕ). 120 ∷ l) text.parts; fits = (text.fits, IsUtf8-from_is_utf8 a.0.0 g.0) })

char_takes : (rest : List ℕ) (x : Literal × List ℕ) → char_at rest ≡ Some x → Takes literal_text IsLiteralInRange (99 ∷ rest) x
unfolding char_at
char_takes rest x e =
    let a = bound (number_at 1114111 rest) (λ n. cond (scalar n.0) (Some (Char n.0, n.1)) None) x e in
    let n = number_takes 1114111 rest a.0 (lit< tt) a.1 in
    let g = passed (scalar a.0.0) (Some (Char a.0.0, a.0.1)) x a.2 in
    answered literal_text IsLiteralInRange (99 ∷ rest) (Char a.0.0, a.0.1) x g.1
    (record { parts = ap (λ (l : List ℕ). 99 ∷ l) n.parts; fits = g.0 })

pub literal_takes : (c : ℕ) (rest : List ℕ) (x : Literal × List ℕ) → literal_by c rest ≡ Some x → Takes literal_text IsLiteralInRange (c ∷ rest) x
unfolding literal_by
literal_takes c rest x e =
    by_first _ _ c 110 rest x _ _ e (nat_takes rest x)
    (λ e. by_first _ _ c 105 rest x _ _ e (int_takes rest x)
    (λ e. by_first _ _ c 121 rest x _ _ e (λ e. answered literal_text IsLiteralInRange (121 ∷ rest) (Boolean true, rest) x e (record { parts = refl; fits = tt }))
    (λ e. by_first _ _ c 122 rest x _ _ e (λ e. answered literal_text IsLiteralInRange (122 ∷ rest) (Boolean false, rest) x e (record { parts = refl; fits = tt }))
    (λ e. by_first _ _ c 120 rest x _ _ e (text_takes rest x)
    (λ e. by_first _ _ c 99 rest x _ _ e (char_takes rest x)
    (λ e. absurd cc))))))

-- its first byte, and the others
abbrev pub literal_kind : Literal → ℕ
literal_kind (Nat n) = 110
literal_kind (Int z) = 105
literal_kind (Boolean true) = 121
literal_kind (Boolean false) = 122
literal_kind (Text text) = 120
literal_kind (Char c) = 99

abbrev pub literal_value : Literal → List ℕ
literal_value (Nat n) = number_text n
literal_value (Int z) = sign_text (is_negative z) ∷ number_text (unsigned_abs z)
literal_value (Boolean true) = []
literal_value (Boolean false) = []
literal_value (Text text) = bytes_text text
literal_value (Char c) = number_text c

below_scalars : (c : ℕ) → scalar c ≡ true → c ≤ 1114111
below_scalars c is = grind (arith, nat_tests)

pub literal_again : (l : Literal) (rest : List ℕ) → IsLiteralInRange l → literal_by (literal_kind l) (literal_value l ++ rest) ≡ Some (l, rest)
unfolding literal_by nat_at int_at plus_at minus_at text_at char_at
literal_again (Nat n) rest fits = rw (number_again last_u64 n rest fits (omega arith)) refl
literal_again (Int (pos n)) rest fits =
    let sign : ltb n 0 ≡ false = le-ltb n 0 (omega arith) in
    rw (sign, number_again 9223372036854775807 n rest (omega (arith, fits.sfits)) (omega (arith, fits.sfits))) refl
literal_again (Int (negsuc n)) rest fits =
    rw (number_again 9223372036854775808 (suc n) rest (omega (arith, fits.sfits)) (omega (arith, fits.sfits))) refl
literal_again (Boolean true) rest fits = refl
literal_again (Boolean false) rest fits = refl
literal_again (Text text) rest fits = rw (bytes_again text rest fits.0, is_utf8-from_IsUtf8 text fits.1) refl
literal_again (Char c) rest fits = let le = below_scalars c fits in rw (number_again 1114111 c rest (omega arith) le, fits) refl
