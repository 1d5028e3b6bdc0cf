-- How the logic stores a written expression and a block.
use Rattle.std.specs.Prelude.{◌≡◌, ℕ, refl}
use Rattle.std.proofs.Common.{ap, arith}
use Rattle.std.specs.Coded.{Coded, coded_list}
use base.Stored.{Gv, gnil, gnum, gcons}
use Rattle.uc_base.specs.contracts.place.Place as place
use Rattle.uc_scratch.specs.contracts.written.Written as written
use Rattle.uc_scratch.specs.contracts.written.Reference as reference_row
use Rattle.uc_scratch.specs.contracts.written.Literal as literal_row
use Rattle.uc_scratch.specs.contracts.written.Param as param
use Rattle.uc_scratch.specs.contracts.written.Head as head
use Rattle.uc_scratch.specs.TypeCodes.{coded_type}
use Rattle.uc_scratch.specs.PatternCodes.{coded_pattern}
use Rattle.uc_scratch.specs.Exprs.{Expr, done, lambda, atom, operator, and, or, opens_if, branches, opens_match, with_cases, cases, block, Atom, path, bracketed, literal, reference, unit, group, annotated, tuple, list, Exprs, none, more, Cases, no_case, case, guarded, Block, result, using, signature, prefix, infix_operator}

-- which constructor a code is of
abbrev tag : Gv → ℕ
tag gnil = 0
tag (gnum n) = 0
tag (gcons gnil g) = 0
tag (gcons (gnum n) g) = n
tag (gcons (gcons f h) g) = 0

abbrev mutual
  pub expr_code : Expr → Gv
  expr_code done = gcons (gnum 0) gnil
  expr_code (lambda ps b e) = gcons (gnum 1) (gcons ((coded_list param.the_row.coded).code ps) (gcons (block_code b) (expr_code e)))
  expr_code (atom a e) = gcons (gnum 2) (gcons (atom_code a) (expr_code e))
  expr_code (operator w e) = gcons (gnum 3) (gcons (written.the_row.coded.code w) (expr_code e))
  expr_code (and e) = gcons (gnum 4) (expr_code e)
  expr_code (or e) = gcons (gnum 5) (expr_code e)
  expr_code (opens_if p e) = gcons (gnum 6) (gcons (place.the_row.coded.code p) (expr_code e))
  expr_code (branches b c e) = gcons (gnum 7) (gcons (block_code b) (gcons (block_code c) (expr_code e)))
  expr_code (opens_match p e) = gcons (gnum 8) (gcons (place.the_row.coded.code p) (expr_code e))
  expr_code (with_cases cs e) = gcons (gnum 9) (gcons (cases_code cs) (expr_code e))
  expr_code (cases p cs e) = gcons (gnum 10) (gcons (place.the_row.coded.code p) (gcons (cases_code cs) (expr_code e)))
  expr_code (block p b e) = gcons (gnum 11) (gcons (place.the_row.coded.code p) (gcons (block_code b) (expr_code e)))

  pub atom_code : Atom → Gv
  atom_code (path w) = gcons (gnum 0) (written.the_row.coded.code w)
  atom_code (bracketed p w) = gcons (gnum 1) (gcons (place.the_row.coded.code p) (written.the_row.coded.code w))
  atom_code (literal l) = gcons (gnum 2) (literal_row.the_row.coded.code l)
  atom_code (reference r) = gcons (gnum 3) (reference_row.the_row.coded.code r)
  atom_code (unit p) = gcons (gnum 4) (place.the_row.coded.code p)
  atom_code (group p e) = gcons (gnum 5) (gcons (place.the_row.coded.code p) (expr_code e))
  atom_code (annotated p e t) = gcons (gnum 6) (gcons (place.the_row.coded.code p) (gcons (expr_code e) (coded_type.code t)))
  atom_code (tuple p es) = gcons (gnum 7) (gcons (place.the_row.coded.code p) (exprs_code es))
  atom_code (list p es) = gcons (gnum 8) (gcons (place.the_row.coded.code p) (exprs_code es))

  pub exprs_code : Exprs → Gv
  exprs_code none = gnil
  exprs_code (more e es) = gcons (expr_code e) (exprs_code es)

  pub cases_code : Cases → Gv
  cases_code no_case = gnil
  cases_code (case p b cs) = gcons (gnum 0) (gcons (coded_pattern.code p) (gcons (block_code b) (cases_code cs)))
  cases_code (guarded p g b cs) = gcons (gnum 1) (gcons (coded_pattern.code p) (gcons (expr_code g) (gcons (block_code b) (cases_code cs))))

  pub block_code : Block → Gv
  block_code (result e) = gcons (gnum 0) (expr_code e)
  block_code (using p w ws b) = gcons (gnum 1) (gcons (place.the_row.coded.code p) (gcons (written.the_row.coded.code w) (gcons ((coded_list written.the_row.coded).code ws) (block_code b))))
  block_code (signature h t b) = gcons (gnum 2) (gcons (head.the_row.coded.code h) (gcons (coded_type.code t) (block_code b)))
  block_code (prefix h ps c b) = gcons (gnum 3) (gcons (head.the_row.coded.code h) (gcons ((coded_list param.the_row.coded).code ps) (gcons (block_code c) (block_code b))))
  block_code (infix_operator p w q c b) = gcons (gnum 4) (gcons (param.the_row.coded.code p) (gcons (written.the_row.coded.code w) (gcons (param.the_row.coded.code q) (gcons (block_code c) (block_code b)))))

mutual
  pub expr_inj : (x y : Expr) → expr_code x ≡ expr_code y → x ≡ y
  expr_inj done done i = refl
  expr_inj (lambda ps b e) (lambda qs c f) i = let j : ps ≡ qs = (coded_list param.the_row.coded).inj ps qs (cc) in let k : b ≡ c = block_inj b c (cc) in let l : e ≡ f = expr_inj e f (cc) in cc
  expr_inj (atom a e) (atom b f) i = let j : a ≡ b = atom_inj a b (cc) in let l : e ≡ f = expr_inj e f (cc) in cc
  expr_inj (operator w e) (operator v f) i = let j : w ≡ v = written.the_row.coded.inj w v (cc) in let l : e ≡ f = expr_inj e f (cc) in cc
  expr_inj (and e) (and f) i = let l : e ≡ f = expr_inj e f (cc) in cc
  expr_inj (or e) (or f) i = let l : e ≡ f = expr_inj e f (cc) in cc
  expr_inj (opens_if p e) (opens_if q f) i = let j : p ≡ q = place.the_row.coded.inj p q (cc) in let l : e ≡ f = expr_inj e f (cc) in cc
  expr_inj (branches b c e) (branches d g f) i = let j : b ≡ d = block_inj b d (cc) in let k : c ≡ g = block_inj c g (cc) in let l : e ≡ f = expr_inj e f (cc) in cc
  expr_inj (opens_match p e) (opens_match q f) i = let j : p ≡ q = place.the_row.coded.inj p q (cc) in let l : e ≡ f = expr_inj e f (cc) in cc
  expr_inj (with_cases cs e) (with_cases ds f) i = let j : cs ≡ ds = cases_inj cs ds (cc) in let l : e ≡ f = expr_inj e f (cc) in cc
  expr_inj (cases p cs e) (cases q ds f) i = let h : p ≡ q = place.the_row.coded.inj p q (cc) in let j : cs ≡ ds = cases_inj cs ds (cc) in let l : e ≡ f = expr_inj e f (cc) in cc
  expr_inj (block p b e) (block q c f) i = let h : p ≡ q = place.the_row.coded.inj p q (cc) in let j : b ≡ c = block_inj b c (cc) in let l : e ≡ f = expr_inj e f (cc) in cc
  expr_inj x y i = let t : tag (expr_code x) ≡ tag (expr_code y) = ap tag i in absurd (omega arith)

  pub atom_inj : (x y : Atom) → atom_code x ≡ atom_code y → x ≡ y
  atom_inj (path w) (path v) i = let j : w ≡ v = written.the_row.coded.inj w v (cc) in cc
  atom_inj (bracketed p w) (bracketed q v) i = let h : p ≡ q = place.the_row.coded.inj p q (cc) in let j : w ≡ v = written.the_row.coded.inj w v (cc) in cc
  atom_inj (literal l) (literal m) i = let j : l ≡ m = literal_row.the_row.coded.inj l m (cc) in cc
  atom_inj (reference r) (reference s) i = let j : r ≡ s = reference_row.the_row.coded.inj r s (cc) in cc
  atom_inj (unit p) (unit q) i = let h : p ≡ q = place.the_row.coded.inj p q (cc) in cc
  atom_inj (group p e) (group q f) i = let h : p ≡ q = place.the_row.coded.inj p q (cc) in let j : e ≡ f = expr_inj e f (cc) in cc
  atom_inj (annotated p e t) (annotated q f u) i = let h : p ≡ q = place.the_row.coded.inj p q (cc) in let j : e ≡ f = expr_inj e f (cc) in let k : t ≡ u = coded_type.inj t u (cc) in cc
  atom_inj (tuple p es) (tuple q fs) i = let h : p ≡ q = place.the_row.coded.inj p q (cc) in let j : es ≡ fs = exprs_inj es fs (cc) in cc
  atom_inj (list p es) (list q fs) i = let h : p ≡ q = place.the_row.coded.inj p q (cc) in let j : es ≡ fs = exprs_inj es fs (cc) in cc
  atom_inj x y i = let t : tag (atom_code x) ≡ tag (atom_code y) = ap tag i in absurd (omega arith)

  pub exprs_inj : (x y : Exprs) → exprs_code x ≡ exprs_code y → x ≡ y
  exprs_inj none none i = refl
  exprs_inj (more e es) (more f fs) i = let j : e ≡ f = expr_inj e f (cc) in let k : es ≡ fs = exprs_inj es fs (cc) in cc
  exprs_inj _ _ i = cc

  pub cases_inj : (x y : Cases) → cases_code x ≡ cases_code y → x ≡ y
  cases_inj no_case no_case i = refl
  cases_inj (case p b cs) (case q c ds) i = let h : p ≡ q = coded_pattern.inj p q (cc) in let j : b ≡ c = block_inj b c (cc) in let k : cs ≡ ds = cases_inj cs ds (cc) in cc
  cases_inj (guarded p e b cs) (guarded q f c ds) i = let h : p ≡ q = coded_pattern.inj p q (cc) in let l : e ≡ f = expr_inj e f (cc) in let j : b ≡ c = block_inj b c (cc) in let k : cs ≡ ds = cases_inj cs ds (cc) in cc
  cases_inj _ _ i = cc

  pub block_inj : (x y : Block) → block_code x ≡ block_code y → x ≡ y
  block_inj (result e) (result f) i = let j : e ≡ f = expr_inj e f (cc) in cc
  block_inj (using p w ws b) (using q v vs c) i = let h : p ≡ q = place.the_row.coded.inj p q (cc) in let j : w ≡ v = written.the_row.coded.inj w v (cc) in let k : ws ≡ vs = (coded_list written.the_row.coded).inj ws vs (cc) in let l : b ≡ c = block_inj b c (cc) in cc
  block_inj (signature h t b) (signature g u c) i = let j : h ≡ g = head.the_row.coded.inj h g (cc) in let k : t ≡ u = coded_type.inj t u (cc) in let l : b ≡ c = block_inj b c (cc) in cc
  block_inj (prefix h ps b c) (prefix g qs d e) i = let j : h ≡ g = head.the_row.coded.inj h g (cc) in let k : ps ≡ qs = (coded_list param.the_row.coded).inj ps qs (cc) in let l : b ≡ d = block_inj b d (cc) in let m : c ≡ e = block_inj c e (cc) in cc
  block_inj (infix_operator p w q b c) (infix_operator r v s d e) i = let h : p ≡ r = param.the_row.coded.inj p r (cc) in let j : w ≡ v = written.the_row.coded.inj w v (cc) in let k : q ≡ s = param.the_row.coded.inj q s (cc) in let l : b ≡ d = block_inj b d (cc) in let m : c ≡ e = block_inj c e (cc) in cc
  block_inj _ _ i = cc

abbrev pub coded_expr : Coded Expr
coded_expr = record { code = expr_code; inj = expr_inj }

abbrev pub coded_block : Coded Block
coded_block = record { code = block_code; inj = block_inj }
