-- Two lists that are the same as far as a loop has come, and lists of parts seen as lists.
use Rattle.std.proofs.Common.{◌≡◌, ℕ, zero, suc, ◌+◌, ◌<◌, ◌≤◌, List, [], ◌∷◌, Option, Some, None, Vec, length, get_or, take, arith, refl, sym, ap, ◌∙◌, add-one}
use Rattle.uc_tree.specs.declared.term.Case.{Case}
use Rattle.uc_tree.specs.Types.{Ty, tys_of}
use Rattle.uc_tree.specs.Patterns.{Pattern, patterns_of}
use Rattle.uc_tree.specs.Terms.{Term, Cases, terms_of}
use Rattle.uc_tree.specs.TermViews.{case_with, cases_of}
use Rattle.uc_tree.specs.Declarations.{fields_of}

module _ {A : Type 0} where
  take-suc_same : (xs ys : List A) (i : ℕ) (x y : A) → i < length xs → i < length ys → x ≡ get_or xs i x → y ≡ get_or ys i y → x ≡ y → take i xs ≡ take i ys → take (suc i) xs ≡ take (suc i) ys
  take-suc_same [] ys i x y h k p q e f = absurd (omega arith)
  take-suc_same (a ∷ xs) [] i x y h k p q e f = absurd (omega arith)
  take-suc_same (a ∷ xs) (b ∷ ys) zero x y h k p q e f = cc
  take-suc_same (a ∷ xs) (b ∷ ys) (suc i) x y h k p q e f =
      let g : take (suc i) xs ≡ take (suc i) ys = take-suc_same xs ys i x y (omega arith) (omega arith) p q e cc in cc

  -- one place more
  pub same_on : (xs ys : List A) (i : ℕ) (x y : A) → i < length xs → i < length ys → x ≡ get_or xs i x → y ≡ get_or ys i y → x ≡ y → take i xs ≡ take i ys → take (i + 1) xs ≡ take (i + 1) ys
  same_on xs ys i x y h k p q e f = rw add-one (take-suc_same xs ys i x y h k p q e f)

  -- the default does not matter at a place in a list
  pub get_or-in : (xs : List A) (i : ℕ) (d e : A) → i < length xs → get_or xs i d ≡ get_or xs i e
  get_or-in [] i d e h = absurd (omega arith)
  get_or-in (x ∷ xs) zero d e h = refl
  get_or-in (x ∷ xs) (suc i) d e h = get_or-in xs i d e (omega arith)

  -- what two lists that are the same have at a place
  pub same_at : (xs ys : List A) (i : ℕ) (x y : A) → i < length xs → x ≡ get_or xs i x → y ≡ get_or ys i y → xs ≡ ys → x ≡ y
  same_at xs ys i x y h p q e = p ∙ ap (λ (zs : List A). get_or zs i x) e ∙ get_or-in ys i x y (omega (arith, ap length e)) ∙ sym q

  pub same_whole : (xs ys : List A) (i : ℕ) → length xs ≡ length ys → length xs ≤ i → take i xs ≡ take i ys → xs ≡ ys
  same_whole [] [] i e h f = refl
  same_whole [] (y ∷ ys) i e h f = absurd (omega arith)
  same_whole (x ∷ xs) [] i e h f = absurd (omega arith)
  same_whole (x ∷ xs) (y ∷ ys) zero e h f = absurd (omega arith)
  same_whole (x ∷ xs) (y ∷ ys) (suc i) e h f = let g : xs ≡ ys = same_whole xs ys i (omega arith) (omega arith) cc in cc

pub tys_of-injective : (ts us : List Ty) → tys_of ts ≡ tys_of us → ts ≡ us
tys_of-injective [] [] e = refl
tys_of-injective [] (u ∷ us) e = absurd cc
tys_of-injective (t ∷ ts) [] e = absurd cc
tys_of-injective (t ∷ ts) (u ∷ us) e = let f : ts ≡ us = tys_of-injective ts us cc in cc

pub patterns_of-injective : (ts us : List Pattern) → patterns_of ts ≡ patterns_of us → ts ≡ us
patterns_of-injective [] [] e = refl
patterns_of-injective [] (u ∷ us) e = absurd cc
patterns_of-injective (t ∷ ts) [] e = absurd cc
patterns_of-injective (t ∷ ts) (u ∷ us) e = let f : ts ≡ us = patterns_of-injective ts us cc in cc

pub terms_of-injective : (ts us : List Term) → terms_of ts ≡ terms_of us → ts ≡ us
terms_of-injective [] [] e = refl
terms_of-injective [] (u ∷ us) e = absurd cc
terms_of-injective (t ∷ ts) [] e = absurd cc
terms_of-injective (t ∷ ts) (u ∷ us) e = let f : ts ≡ us = terms_of-injective ts us cc in cc

-- a case by its parts
apart : (p : Pattern) (g : Option Term) (b : Term) (cs : Cases) → case_with p g b cs ≡ cases_of [] → ⊥
apart p None b cs e = absurd cc
apart p (Some g) b cs e = absurd cc

same_case : (p q : Pattern) (g h : Option Term) (b d : Term) (cs ds : Cases) → case_with p g b cs ≡ case_with q h d ds → (p ≡ q) × (g ≡ h) × (b ≡ d) × (cs ≡ ds)
same_case p q None None b d cs ds e = (cc, refl, cc, cc)
same_case p q (Some g) (Some h) b d cs ds e = (cc, cc, cc, cc)
same_case p q None (Some h) b d cs ds e = absurd cc
same_case p q (Some g) None b d cs ds e = absurd cc

case_from : (p q : Pattern) (g h : Option Term) (b d : Term) → p ≡ q → g ≡ h → b ≡ d → ◌≡◌ {A = Case} (record { pattern = p; guard = g; body = b }) (record { pattern = q; guard = h; body = d })
case_from p q g h b d e f k = ap (λ (x : Pattern). record { pattern = x; guard = g; body = b }) e
    ∙ ap (λ (x : Option Term). record { pattern = q; guard = x; body = b }) f ∙ ap (λ (x : Term). record { pattern = q; guard = h; body = x }) k

pub cases_of-injective : (cs ds : List Case) → cases_of cs ≡ cases_of ds → cs ≡ ds
cases_of-injective [] [] e = refl
cases_of-injective [] (d ∷ ds) e = absurd (apart d.pattern d.guard d.body (cases_of ds) (sym e))
cases_of-injective (c ∷ cs) [] e = absurd (apart c.pattern c.guard c.body (cases_of cs) e)
cases_of-injective (c ∷ cs) (d ∷ ds) e =
    let s = same_case c.pattern d.pattern c.guard d.guard c.body d.body (cases_of cs) (cases_of ds) e in
    let f : cs ≡ ds = cases_of-injective cs ds s.3 in
    let g : c ≡ d = case_from c.pattern d.pattern c.guard d.guard c.body d.body s.0 s.1 s.2 in cc

module _ {A : Type 0} where
  pub length-fields_of : (xs : List (Vec Ty A)) → length (fields_of xs) ≡ length xs
  length-fields_of [] = refl
  length-fields_of (x ∷ xs) = omega (arith, length-fields_of xs)

  pub get_or-fields_of : (xs : List (Vec Ty A)) (i : ℕ) (v : Vec Ty A) → i < length xs → v ≡ get_or xs i v → tys_of v.items ≡ get_or (fields_of xs) i (tys_of v.items)
  get_or-fields_of [] i v h e = absurd (omega arith)
  get_or-fields_of (x ∷ xs) zero v h e = ap (λ (u : Vec Ty A). tys_of u.items) e
  get_or-fields_of (x ∷ xs) (suc i) v h e = get_or-fields_of xs i v (omega arith) e
