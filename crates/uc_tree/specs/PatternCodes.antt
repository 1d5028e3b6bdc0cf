-- How the logic stores a pattern.
use Rattle.std.specs.Prelude.{◌≡◌, refl}
use Rattle.std.specs.Coded.{Coded}
use base.Stored.{Gv, gnil, gnum, gcons}
use Rattle.uc_tree.specs.contracts.target.Target as target
use Rattle.uc_tree.specs.contracts.literal.Literal as literal_row
use Rattle.uc_tree.specs.Patterns.{Pattern, any, variable, alias, literal, unit, tuple, list, constructor, cons, snoc, Patterns, none, more}

abbrev mutual
  pub pattern_code : Pattern → Gv
  pattern_code any = gcons (gnum 0) gnil
  pattern_code variable = gcons (gnum 1) gnil
  pattern_code (alias p) = gcons (gnum 2) (pattern_code p)
  pattern_code (literal l) = gcons (gnum 3) (literal_row.the_row.coded.code l)
  pattern_code unit = gcons (gnum 4) gnil
  pattern_code (tuple ps) = gcons (gnum 5) (patterns_code ps)
  pattern_code (list ps) = gcons (gnum 6) (patterns_code ps)
  pattern_code (constructor x ps) = gcons (gnum 7) (gcons (target.the_row.coded.code x) (patterns_code ps))
  pattern_code (cons p q) = gcons (gnum 8) (gcons (pattern_code p) (pattern_code q))
  pattern_code (snoc p q) = gcons (gnum 9) (gcons (pattern_code p) (pattern_code q))

  pub patterns_code : Patterns → Gv
  patterns_code none = gnil
  patterns_code (more p ps) = gcons (pattern_code p) (patterns_code ps)

mutual
  pub pattern_inj : (x y : Pattern) → pattern_code x ≡ pattern_code y → x ≡ y
  pattern_inj any any e = refl
  pattern_inj variable variable e = refl
  pattern_inj (alias p) (alias q) e = let f : p ≡ q = pattern_inj p q (cc) in cc
  pattern_inj (literal l) (literal m) e = let f : l ≡ m = literal_row.the_row.coded.inj l m (cc) in cc
  pattern_inj unit unit e = refl
  pattern_inj (tuple ps) (tuple qs) e = let f : ps ≡ qs = patterns_inj ps qs (cc) in cc
  pattern_inj (list ps) (list qs) e = let f : ps ≡ qs = patterns_inj ps qs (cc) in cc
  pattern_inj (constructor x ps) (constructor y qs) e = let f : x ≡ y = target.the_row.coded.inj x y (cc) in let g : ps ≡ qs = patterns_inj ps qs (cc) in cc
  pattern_inj (cons p q) (cons r s) e = let f : p ≡ r = pattern_inj p r (cc) in let g : q ≡ s = pattern_inj q s (cc) in cc
  pattern_inj (snoc p q) (snoc r s) e = let f : p ≡ r = pattern_inj p r (cc) in let g : q ≡ s = pattern_inj q s (cc) in cc
  pattern_inj _ _ e = cc

  pub patterns_inj : (x y : Patterns) → patterns_code x ≡ patterns_code y → x ≡ y
  patterns_inj none none e = refl
  patterns_inj (more p ps) (more q qs) e = let f : p ≡ q = pattern_inj p q (cc) in let g : ps ≡ qs = patterns_inj ps qs (cc) in cc
  patterns_inj _ _ e = cc

abbrev pub coded_pattern : Coded Pattern
coded_pattern = record { code = pattern_code; inj = pattern_inj }
