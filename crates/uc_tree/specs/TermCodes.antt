-- How the logic stores a term.
use Rattle.std.specs.Prelude.{◌≡◌, ℕ, refl}
use Rattle.std.proofs.Common.{ap, arith}
use Rattle.std.specs.Coded.{Coded, coded_ℕ, coded_option}
use base.Stored.{Gv, gnil, gnum, gcons}
use Rattle.uc_tree.specs.contracts.target.Target as target
use Rattle.uc_tree.specs.TypeCodes.{coded_ty}
use Rattle.uc_tree.specs.contracts.literal.Literal as literal_row
use Rattle.uc_tree.specs.PatternCodes.{coded_pattern}
use Rattle.uc_tree.specs.Terms.{Term, variable, literal, unit, link, lambda, apply, annotated, tuple, list, conditional, and, or, binding, match, Terms, none, more, Cases, no_case, case, guarded}

-- which constructor a code is of
abbrev tag : Gv → ℕ
tag gnil = 0
tag (gnum n) = 0
tag (gcons gnil g) = 0
tag (gcons (gnum n) g) = n
tag (gcons (gcons f h) g) = 0

abbrev mutual
  pub term_code : Term → Gv
  term_code (variable n) = gcons (gnum 0) (coded_ℕ.code n)
  term_code (literal l) = gcons (gnum 1) (literal_row.the_row.coded.code l)
  term_code unit = gcons (gnum 2) gnil
  term_code (link x) = gcons (gnum 3) (target.the_row.coded.code x)
  term_code (lambda t) = gcons (gnum 4) (term_code t)
  term_code (apply a b) = gcons (gnum 5) (gcons (term_code a) (term_code b))
  term_code (annotated t ty) = gcons (gnum 6) (gcons (term_code t) (coded_ty.code ty))
  term_code (tuple ts) = gcons (gnum 7) (terms_code ts)
  term_code (list ts) = gcons (gnum 8) (terms_code ts)
  term_code (conditional a b c) = gcons (gnum 9) (gcons (term_code a) (gcons (term_code b) (term_code c)))
  term_code (and a b) = gcons (gnum 10) (gcons (term_code a) (term_code b))
  term_code (or a b) = gcons (gnum 11) (gcons (term_code a) (term_code b))
  term_code (binding ty a b) = gcons (gnum 12) (gcons ((coded_option coded_ty).code ty) (gcons (term_code a) (term_code b)))
  term_code (match t cs) = gcons (gnum 13) (gcons (term_code t) (cases_code cs))

  pub terms_code : Terms → Gv
  terms_code none = gnil
  terms_code (more t ts) = gcons (term_code t) (terms_code ts)

  pub cases_code : Cases → Gv
  cases_code no_case = gnil
  cases_code (case p b cs) = gcons (gnum 0) (gcons (coded_pattern.code p) (gcons (term_code b) (cases_code cs)))
  cases_code (guarded p g b cs) = gcons (gnum 1) (gcons (coded_pattern.code p) (gcons (term_code g) (gcons (term_code b) (cases_code cs))))

mutual
  pub term_inj : (x y : Term) → term_code x ≡ term_code y → x ≡ y
  term_inj (variable m) (variable n) e = let f : m ≡ n = coded_ℕ.inj m n (cc) in cc
  term_inj (literal l) (literal m) e = let f : l ≡ m = literal_row.the_row.coded.inj l m (cc) in cc
  term_inj unit unit e = refl
  term_inj (link x) (link y) e = let f : x ≡ y = target.the_row.coded.inj x y (cc) in cc
  term_inj (lambda a) (lambda b) e = let f : a ≡ b = term_inj a b (cc) in cc
  term_inj (apply a b) (apply c d) e = let f : a ≡ c = term_inj a c (cc) in let g : b ≡ d = term_inj b d (cc) in cc
  term_inj (annotated a t) (annotated b u) e = let f : a ≡ b = term_inj a b (cc) in let g : t ≡ u = coded_ty.inj t u (cc) in cc
  term_inj (tuple ts) (tuple us) e = let f : ts ≡ us = terms_inj ts us (cc) in cc
  term_inj (list ts) (list us) e = let f : ts ≡ us = terms_inj ts us (cc) in cc
  term_inj (conditional a b c) (conditional x y z) e = let f : a ≡ x = term_inj a x (cc) in let g : b ≡ y = term_inj b y (cc) in let h : c ≡ z = term_inj c z (cc) in cc
  term_inj (and a b) (and c d) e = let f : a ≡ c = term_inj a c (cc) in let g : b ≡ d = term_inj b d (cc) in cc
  term_inj (or a b) (or c d) e = let f : a ≡ c = term_inj a c (cc) in let g : b ≡ d = term_inj b d (cc) in cc
  term_inj (binding t a b) (binding u c d) e = let h : t ≡ u = (coded_option coded_ty).inj t u (cc) in let f : a ≡ c = term_inj a c (cc) in let g : b ≡ d = term_inj b d (cc) in cc
  term_inj (match a cs) (match b ds) e = let f : a ≡ b = term_inj a b (cc) in let g : cs ≡ ds = cases_inj cs ds (cc) in cc
  term_inj x y e = let t : tag (term_code x) ≡ tag (term_code y) = ap tag e in absurd (omega arith)

  pub terms_inj : (x y : Terms) → terms_code x ≡ terms_code y → x ≡ y
  terms_inj none none e = refl
  terms_inj (more t ts) (more u us) e = let f : t ≡ u = term_inj t u (cc) in let g : ts ≡ us = terms_inj ts us (cc) in cc
  terms_inj _ _ e = cc

  pub cases_inj : (x y : Cases) → cases_code x ≡ cases_code y → x ≡ y
  cases_inj no_case no_case e = refl
  cases_inj (case p a cs) (case q b ds) e = let h : p ≡ q = coded_pattern.inj p q (cc) in let f : a ≡ b = term_inj a b (cc) in let g : cs ≡ ds = cases_inj cs ds (cc) in cc
  cases_inj (guarded p a c cs) (guarded q b d ds) e = let h : p ≡ q = coded_pattern.inj p q (cc) in let f : a ≡ b = term_inj a b (cc) in let k : c ≡ d = term_inj c d (cc) in let g : cs ≡ ds = cases_inj cs ds (cc) in cc
  cases_inj _ _ e = cc

abbrev pub coded_term : Coded Term
coded_term = record { code = term_code; inj = term_inj }
