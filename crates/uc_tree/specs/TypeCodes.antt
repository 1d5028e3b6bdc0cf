-- How the logic stores a type.
use Rattle.std.specs.Prelude.{◌≡◌, refl}
use Rattle.std.specs.Coded.{Coded, coded_ℕ}
use base.Stored.{Gv, gnil, gnum, gcons}
use Rattle.uc_tree.specs.contracts.target.Target as target
use Rattle.uc_tree.specs.Types.{Ty, variable, quantified, arrow, unit, tuple, applied, Tys, none, more}

abbrev mutual
  pub ty_code : Ty → Gv
  ty_code (variable n) = gcons (gnum 0) (coded_ℕ.code n)
  ty_code (quantified t) = gcons (gnum 1) (ty_code t)
  ty_code (arrow a b) = gcons (gnum 2) (gcons (ty_code a) (ty_code b))
  ty_code unit = gcons (gnum 3) gnil
  ty_code (tuple ts) = gcons (gnum 4) (tys_code ts)
  ty_code (applied x ts) = gcons (gnum 5) (gcons (target.the_row.coded.code x) (tys_code ts))

  pub tys_code : Tys → Gv
  tys_code none = gnil
  tys_code (more t ts) = gcons (ty_code t) (tys_code ts)

mutual
  pub ty_inj : (x y : Ty) → ty_code x ≡ ty_code y → x ≡ y
  ty_inj (variable m) (variable n) p = let e : m ≡ n = coded_ℕ.inj m n (cc) in cc
  ty_inj (quantified t) (quantified u) p = let e : t ≡ u = ty_inj t u (cc) in cc
  ty_inj (arrow a b) (arrow c d) p = let e : a ≡ c = ty_inj a c (cc) in let f : b ≡ d = ty_inj b d (cc) in cc
  ty_inj (tuple ts) (tuple us) p = let e : ts ≡ us = tys_inj ts us (cc) in cc
  ty_inj (applied x ts) (applied y us) p = let e : x ≡ y = target.the_row.coded.inj x y (cc) in let f : ts ≡ us = tys_inj ts us (cc) in cc
  ty_inj unit unit p = refl
  ty_inj _ _ p = cc

  pub tys_inj : (x y : Tys) → tys_code x ≡ tys_code y → x ≡ y
  tys_inj (more t ts) (more u us) p = let e : t ≡ u = ty_inj t u (cc) in let f : ts ≡ us = tys_inj ts us (cc) in cc
  tys_inj none none p = refl
  tys_inj _ _ p = cc

abbrev pub coded_ty : Coded Ty
coded_ty = record { code = ty_code; inj = ty_inj }

abbrev pub coded_tys : Coded Tys
coded_tys = record { code = tys_code; inj = tys_inj }
