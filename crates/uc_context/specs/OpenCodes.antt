-- How the logic stores a type with free variables.
use Rattle.std.specs.Prelude.{◌≡◌, refl}
use Rattle.std.specs.Coded.{Coded, coded_ℕ}
use base.Stored.{Gv, gnil, gnum, gcons}
use Rattle.uc_tree.specs.contracts.target.Target as target
use Rattle.uc_context.specs.Opens.{Open, bound, rigid, existential, quantified, arrow, unit, tuple, applied, Opens, none, more}

abbrev mutual
  pub open_code : Open → Gv
  open_code (bound i) = gcons (gnum 0) (coded_ℕ.code i)
  open_code (rigid x) = gcons (gnum 1) (coded_ℕ.code x)
  open_code (existential x) = gcons (gnum 2) (coded_ℕ.code x)
  open_code (quantified t) = gcons (gnum 3) (open_code t)
  open_code (arrow a b) = gcons (gnum 4) (gcons (open_code a) (open_code b))
  open_code unit = gcons (gnum 5) gnil
  open_code (tuple ts) = gcons (gnum 6) (opens_code ts)
  open_code (applied x ts) = gcons (gnum 7) (gcons (target.the_row.coded.code x) (opens_code ts))

  pub opens_code : Opens → Gv
  opens_code none = gnil
  opens_code (more t ts) = gcons (open_code t) (opens_code ts)

mutual
  pub open_inj : (x y : Open) → open_code x ≡ open_code y → x ≡ y
  open_inj (bound m) (bound n) p = let e : m ≡ n = coded_ℕ.inj m n (cc) in cc
  open_inj (rigid m) (rigid n) p = let e : m ≡ n = coded_ℕ.inj m n (cc) in cc
  open_inj (existential m) (existential n) p = let e : m ≡ n = coded_ℕ.inj m n (cc) in cc
  open_inj (quantified t) (quantified u) p = let e : t ≡ u = open_inj t u (cc) in cc
  open_inj (arrow a b) (arrow c d) p = let e : a ≡ c = open_inj a c (cc) in let f : b ≡ d = open_inj b d (cc) in cc
  open_inj (tuple ts) (tuple us) p = let e : ts ≡ us = opens_inj ts us (cc) in cc
  open_inj (applied x ts) (applied y us) p = let e : x ≡ y = target.the_row.coded.inj x y (cc) in let f : ts ≡ us = opens_inj ts us (cc) in cc
  open_inj unit unit p = refl
  open_inj _ _ p = cc

  pub opens_inj : (x y : Opens) → opens_code x ≡ opens_code y → x ≡ y
  opens_inj (more t ts) (more u us) p = let e : t ≡ u = open_inj t u (cc) in let f : ts ≡ us = opens_inj ts us (cc) in cc
  opens_inj none none p = refl
  opens_inj _ _ p = cc

abbrev pub coded_open : Coded Open
coded_open = record { code = open_code; inj = open_inj }
