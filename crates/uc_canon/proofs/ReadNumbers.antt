-- A number that is read is the number that was written, and what was written is read again.
use Rattle.std.proofs.Common.{◌≡◌, ℕ, zero, suc, ◌+◌, ◌-◌, ◌*◌, ◌/◌, ◌%◌, ◌^◌, ◌<◌, ◌≤◌, Bool, true, false, cond, eqb, leb, ltb, List, [], ◌∷◌, ◌++◌, length, get_or, Some, None, refl, sym, ap, subst, ◌∙◌, append_assoc, arith, rules, lit<}
use Rattle.std.proofs.lemmas.Bool.{eqb-true, ne_eqb, le-leb, leb-true, eqb-false, le-ltb, ltb-false, and_parts}
use Rattle.std.proofs.lemmas.Fmt.{decimal_by_steps, decimal_digit, first_decimal, digits_decimal, decimal-digits_value}
use Rattle.std.proofs.lemmas.Str.Parse.{IsNumeralModel, numerals_by_fold}
use Rattle.std.specs.Cmp.Derive.{both_true}
use Rattle.std.specs.Fmt.{decimal}
use Rattle.std.specs.List.{AllByRecursion}
use Rattle.std.specs.Str.{all_ascii_digits}
use Rattle.uc_canon.specs.Bounds.{IsCount}
use Rattle.uc_canon.specs.Spelling.{number_text}
use Rattle.uc_canon.specs.Reading.{Read, items_from, pushed, number_from, ended, number_at, count_at, counted_at}
use Rattle.uc_canon.proofs.ReadSteps.{chosen, passed, not_passed, bound, some_is, Takes, answered, laid, items_take, items_again, joined}

-- ---- digits

abbrev pub read_on : ℕ → List ℕ → ℕ
read_on n [] = n
read_on n (c ∷ cs) = read_on (n * 10 + (c - 48)) cs

own : IsNumeralModel (λ ds. all_ascii_digits ds ≡ true) (read_on 0)
own = numerals_by_fold _ (search rules) read_on (search rules)

push_step : (most n d : ℕ) (rest : List ℕ) → d < 10 → n * 10 + d ≤ most → number_from most n ((48 + d) ∷ rest) ≡ number_from most (n * 10 + d) rest
unfolding pushed
push_step most n d rest lt le =
    let back : 48 + d - 48 ≡ d = omega arith in
    let semicolon : eqb (48 + d) 59 ≡ false = ne_eqb _ _ (λ e. absurd (omega arith)) in
    let low : leb 48 (48 + d) ≡ true = le-leb _ _ (omega arith) in
    let high : leb (48 + d) 57 ≡ true = le-leb _ _ (omega arith) in
    let fits : leb (n * 10 + d) most ≡ true = le-leb _ _ le in
    rw (semicolon, low, high, back, fits) refl

-- the digits of n are read as n
digits_read : (most : ℕ) (n : ℕ) → n < 2 ^ 64 → n ≤ most → (rest : List ℕ) → number_from most 0 (decimal n ++ rest) ≡ number_from most n rest
digits_read most n small = decimal_by_steps (λ n ds. n ≤ most → (rest : List ℕ) → number_from most 0 (ds ++ rest) ≡ number_from most n rest)
    (λ n lt le rest. push_step most 0 n rest lt (omega arith) ∙ ap (λ (m : ℕ). number_from most m rest) (omega arith))
    (λ n ds ge ih le rest.
    let regrouped : (ds ++ (48 + n % 10) ∷ []) ++ rest ≡ ds ++ ((48 + n % 10) ∷ rest) = append_assoc ds ((48 + n % 10) ∷ []) rest in
    let whole : n / 10 * 10 + n % 10 ≡ n = omega arith in
    ap (number_from most 0) regrouped ∙ ih (omega arith) ((48 + n % 10) ∷ rest) ∙ push_step most (n / 10) (n % 10) rest (omega arith) (omega arith) ∙ ap (λ (m : ℕ). number_from most m rest) whole)
    n small

-- digits that do not begin with 0
plain : (most : ℕ) (ds rest : List ℕ) → 48 < get_or ds 0 0 → all_ascii_digits ds ≡ true → number_at most (ds ++ (59 ∷ rest)) ≡ number_from most 0 (ds ++ (59 ∷ rest))
unfolding number_at
plain most [] rest above digits = absurd (omega arith)
plain most (c ∷ cs) rest above digits =
    let zero_is : eqb c 48 ≡ false = ne_eqb _ _ (λ e. absurd (omega arith)) in
    let low : c ≤ 57 = leb-true c 57 (and_parts (leb 48 c) (leb c 57) (and_parts _ _ digits).0).1 in
    let semicolon : eqb c 59 ≡ false = ne_eqb _ _ (λ e. absurd (omega arith)) in
    rw (zero_is, semicolon) refl

pub number_again : (most n : ℕ) (rest : List ℕ) → n < 2 ^ 64 → n ≤ most → number_at most (number_text n ++ rest) ≡ Some (n, rest)
unfolding number_text number_at
number_again most n rest small le =
    ap (number_at most) (append_assoc (decimal n) (59 ∷ []) rest) ∙ go n small le
  where
    go : (n : ℕ) → n < 2 ^ 64 → n ≤ most → number_at most (decimal n ++ (59 ∷ rest)) ≡ Some (n, rest)
    go zero small le = rw (decimal_digit 0 (omega arith)) refl
    go (suc n) small le = plain most (decimal (suc n)) rest (first_decimal (suc n) (omega arith) small) (digits_decimal own (suc n) small) ∙ digits_read most (suc n) small le (59 ∷ rest)

-- ---- what was read

record Digits (most n : ℕ) (bytes : List ℕ) (x : ℕ × List ℕ) : Type 0 where
  ds : List ℕ
  digits : all_ascii_digits ds ≡ true
  parts : bytes ≡ ds ++ (59 ∷ x.1)
  value : read_on n ds ≡ x.0
  fits : x.0 ≤ most

from_takes : (most : ℕ) (bytes : List ℕ) (n : ℕ) (x : ℕ × List ℕ) → n ≤ most → number_from most n bytes ≡ Some x → Digits most n bytes x
unfolding pushed
from_takes most [] n x le e = absurd cc
from_takes most (c ∷ cs) n x le e =
    chosen c 59 _ _ x e
    (λ is e. let p = some_is (n, cs) x e in
    subst (λ (y : ℕ × List ℕ). Digits most n (c ∷ cs) y) p (record { ds = []; digits = refl; parts = ap (λ (b : ℕ). b ∷ cs) is; value = refl; fits = le }))
    (λ e. let b = bound (pushed most n c) (λ m. number_from most m cs) x e in
    let g = passed _ _ _ b.1 in
    let m : n * 10 + (c - 48) ≡ b.0 = some_is _ _ g.1 in
    let t = and_parts _ _ g.0 in
    let r = from_takes most cs b.0 x (subst (λ (k : ℕ). k ≤ most) m (leb-true _ _ t.1)) b.2 in
    record { ds = c ∷ r.ds; digits = both_true t.0 r.digits; parts = ap (λ (l : List ℕ). c ∷ l) r.parts; value = subst (λ (k : ℕ). read_on k r.ds ≡ x.0) (sym m) r.value; fits = r.fits })

-- a semicolon after n
after : (n : ℕ) (cs : List ℕ) (x : ℕ × List ℕ) → ended n cs ≡ Some x → (cs ≡ 59 ∷ x.1) × (x.0 ≡ n)
after n [] x e = absurd cc
after n (c ∷ cs) x e =
    chosen c 59 _ _ x e
    (λ is e. let p = some_is (n, cs) x e in (ap (λ (b : ℕ). b ∷ cs) is ∙ ap (λ (y : ℕ × List ℕ). 59 ∷ y.1) p, sym (ap (λ (y : ℕ × List ℕ). y.0) p)))
    (λ e. absurd cc)

-- digits of which the first is not 0
spelled : (most c : ℕ) (cs : List ℕ) (x : ℕ × List ℕ) → most < 2 ^ 64 → (c ≡ 48 → ⊥) → (c ≡ 59 → ⊥) → Digits most 0 (c ∷ cs) x → Takes number_text (λ n. n ≤ most) (c ∷ cs) x
unfolding number_text
spelled most c cs x small nonzero other r = go r.ds r.digits r.parts r.value
  where
    go : (ds : List ℕ) → all_ascii_digits ds ≡ true → (c ∷ cs) ≡ ds ++ (59 ∷ x.1) → read_on 0 ds ≡ x.0 → Takes number_text (λ n. n ≤ most) (c ∷ cs) x
    go [] digits parts value = absurd (other (cc))
    go (d ∷ ds) digits parts value =
        let first : c ≡ d = cc in
        let bounded : read_on 0 (d ∷ ds) < 2 ^ 64 = rw value (omega (arith, r.fits)) in
        let text : decimal (read_on 0 (d ∷ ds)) ≡ d ∷ ds = decimal-digits_value own (d ∷ ds) digits (omega arith) (λ e. absurd (nonzero (first ∙ e))) bounded in
        record { parts = parts ∙ sym (append_assoc (d ∷ ds) (59 ∷ []) x.1) ∙ ap (λ (l : List ℕ). (l ++ 59 ∷ []) ++ x.1) (sym text ∙ ap decimal value); fits = r.fits }

pub number_takes : (most : ℕ) (bytes : List ℕ) (x : ℕ × List ℕ) → most < 2 ^ 64 → number_at most bytes ≡ Some x → Takes number_text (λ n. n ≤ most) bytes x
unfolding number_at number_text
number_takes most [] x small e = absurd cc
number_takes most (c ∷ cs) x small e = go (eqb c 48) refl e
  where
    more : (t : Bool) → eqb c 48 ≡ false → eqb c 59 ≡ t → cond t None (number_from most 0 (c ∷ cs)) ≡ Some x → Takes number_text (λ n. n ≤ most) (c ∷ cs) x
    more true not_zero is e = absurd cc
    more false not_zero is e = spelled most c cs x small (eqb-false c 48 not_zero) (eqb-false c 59 is) (from_takes most (c ∷ cs) 0 x (omega arith) e)

    go : (t : Bool) → eqb c 48 ≡ t → cond t (ended 0 cs) (cond (eqb c 59) None (number_from most 0 (c ∷ cs))) ≡ Some x → Takes number_text (λ n. n ≤ most) (c ∷ cs) x
    go true is e =
        let a = after 0 cs x e in
        let zero_is : decimal x.0 ≡ 48 ∷ [] = rw a.1 (decimal_digit 0 (omega arith)) in
        record { parts = rw (eqb-true c 48 is, a.0, zero_is) refl; fits = omega (arith, a.1) }
    go false is e = more (eqb c 59) is refl e

-- ---- numbers of parts

abbrev pub last_u32 : ℕ
last_u32 = 4294967295

pub count_takes : (least : ℕ) (bytes : List ℕ) (x : ℕ × List ℕ) → count_at least bytes ≡ Some x → Takes number_text (IsCount least) bytes x
unfolding count_at
count_takes least bytes x e =
    let a = bound (number_at last_u32 bytes) (λ n. cond (ltb n.0 least) None (Some n)) x e in
    let n = number_takes last_u32 bytes a.0 (lit< tt) a.1 in
    let g = not_passed (ltb a.0.0 least) (Some a.0) x a.2 in
    let enough : least ≤ a.0.0 = ltb-false _ _ g.0 in
    answered number_text (IsCount least) bytes a.0 x g.1
    (record { parts = n.parts; fits = record { enough = enough; few = omega (arith, n.fits) } })

pub count_again : (least n : ℕ) (rest : List ℕ) → IsCount least n → count_at least (number_text n ++ rest) ≡ Some (n, rest)
unfolding count_at
count_again least n rest fits =
    let test : ltb n least ≡ false = le-ltb _ _ fits.enough in
    rw (number_again last_u32 n rest (omega (arith, fits.few)) (omega (arith, fits.few)), test) refl

-- ---- so many items

module _ {A : Type 0} (text : A → List ℕ) (P : A → Type 0) (next : List ℕ → Read A) where
  -- what was read after a number of parts
  pub record Counts (least : ℕ) (bytes : List ℕ) (x : List A × List ℕ) : Type 0 where
    pub parts : bytes ≡ (number_text (length x.0) ++ laid text x.0) ++ x.1
    pub count : IsCount least (length x.0)
    pub fit : AllByRecursion P x.0

  pub counted_takes : ((bytes : List ℕ) (x : A × List ℕ) → next bytes ≡ Some x → Takes text P bytes x)
      → (least : ℕ) (bytes : List ℕ) (x : List A × List ℕ) → counted_at next least bytes ≡ Some x → Counts least bytes x
  unfolding counted_at
  counted_takes take_one least bytes x e =
      let a = bound (count_at least bytes) (λ n. items_from next [] n.0 n.1) x e in
      let n = count_takes least bytes a.0 a.1 in
      let r = items_take text P next take_one a.0.0 [] a.0.1 x a.2 in
      let all : x.0 ≡ r.more = r.all in
      let number : length x.0 ≡ a.0.0 = ap length all ∙ r.count in
      record {
        parts = joined bytes (number_text (length x.0)) a.0.1 (laid text x.0) x.1
            (n.parts ∙ ap (λ (k : ℕ). number_text k ++ a.0.1) (sym number)) (r.parts ∙ ap (λ (l : List A). laid text l ++ x.1) (sym all));
        count = subst (λ (k : ℕ). IsCount least k) (sym number) n.fits;
        fit = subst (λ (l : List A). AllByRecursion P l) (sym all) r.fit;
      }

  pub counted_again : ((x : A) (rest : List ℕ) → P x → next (text x ++ rest) ≡ Some (x, rest))
      → (least : ℕ) (xs : List A) (rest : List ℕ) → IsCount least (length xs) → AllByRecursion P xs
      → counted_at next least ((number_text (length xs) ++ laid text xs) ++ rest) ≡ Some (xs, rest)
  unfolding counted_at
  counted_again again_one least xs rest count fit =
      rw (append_assoc, count_again least (length xs) (laid text xs ++ rest) count) (items_again text P next again_one xs [] rest fit)
