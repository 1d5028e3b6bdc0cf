-- How the logic stores a written pattern.
use Rattle.std.specs.Prelude.{◌≡◌, refl}
use Rattle.std.specs.Coded.{Coded}
use base.Stored.{Gv, gnil, gnum, gcons}
use Rattle.uc_base.specs.contracts.place.Place as place
use Rattle.uc_scratch.specs.contracts.written.Written as written
use Rattle.uc_scratch.specs.contracts.written.Con as con
use Rattle.uc_scratch.specs.contracts.written.Literal as literal_row
use Rattle.uc_scratch.specs.Patterns.{Pattern, cons, snocs, PatternOperand, applied, atom, PatternAtom, any, variable, named, literal, constant, unit, group, tuple, list, Patterns, none, more, PatternOperands, no_operand, more_operands, PatternAtoms, no_atom, more_atoms}

abbrev mutual
  pub pattern_code : Pattern → Gv
  pattern_code (cons a p) = gcons (gnum 0) (gcons (operand_code a) (pattern_code p))
  pattern_code (snocs a bs) = gcons (gnum 1) (gcons (operand_code a) (operands_code bs))

  pub operand_code : PatternOperand → Gv
  operand_code (applied c bs) = gcons (gnum 0) (gcons (con.the_row.coded.code c) (atoms_code bs))
  operand_code (atom a) = gcons (gnum 1) (atom_code a)

  pub atom_code : PatternAtom → Gv
  atom_code (any p) = gcons (gnum 0) (place.the_row.coded.code p)
  atom_code (variable w) = gcons (gnum 1) (written.the_row.coded.code w)
  atom_code (named w a) = gcons (gnum 2) (gcons (written.the_row.coded.code w) (atom_code a))
  atom_code (literal l) = gcons (gnum 3) (literal_row.the_row.coded.code l)
  atom_code (constant c) = gcons (gnum 4) (con.the_row.coded.code c)
  atom_code (unit p) = gcons (gnum 5) (place.the_row.coded.code p)
  atom_code (group p t) = gcons (gnum 6) (gcons (place.the_row.coded.code p) (pattern_code t))
  atom_code (tuple p ts) = gcons (gnum 7) (gcons (place.the_row.coded.code p) (patterns_code ts))
  atom_code (list p ts) = gcons (gnum 8) (gcons (place.the_row.coded.code p) (patterns_code ts))

  pub patterns_code : Patterns → Gv
  patterns_code none = gnil
  patterns_code (more p ps) = gcons (pattern_code p) (patterns_code ps)

  pub operands_code : PatternOperands → Gv
  operands_code no_operand = gnil
  operands_code (more_operands a bs) = gcons (operand_code a) (operands_code bs)

  pub atoms_code : PatternAtoms → Gv
  atoms_code no_atom = gnil
  atoms_code (more_atoms a bs) = gcons (atom_code a) (atoms_code bs)

mutual
  pub pattern_inj : (x y : Pattern) → pattern_code x ≡ pattern_code y → x ≡ y
  pattern_inj (cons a p) (cons b q) e = let f : a ≡ b = operand_inj a b (cc) in let g : p ≡ q = pattern_inj p q (cc) in cc
  pattern_inj (snocs a bs) (snocs c ds) e = let f : a ≡ c = operand_inj a c (cc) in let g : bs ≡ ds = operands_inj bs ds (cc) in cc
  pattern_inj _ _ e = cc

  pub operand_inj : (x y : PatternOperand) → operand_code x ≡ operand_code y → x ≡ y
  operand_inj (applied c bs) (applied d cs) e = let f : c ≡ d = con.the_row.coded.inj c d (cc) in let g : bs ≡ cs = atoms_inj bs cs (cc) in cc
  operand_inj (atom a) (atom b) e = let f : a ≡ b = atom_inj a b (cc) in cc
  operand_inj _ _ e = cc

  pub atom_inj : (x y : PatternAtom) → atom_code x ≡ atom_code y → x ≡ y
  atom_inj (any p) (any q) e = let f : p ≡ q = place.the_row.coded.inj p q (cc) in cc
  atom_inj (variable w) (variable v) e = let f : w ≡ v = written.the_row.coded.inj w v (cc) in cc
  atom_inj (named w a) (named v b) e = let f : w ≡ v = written.the_row.coded.inj w v (cc) in let g : a ≡ b = atom_inj a b (cc) in cc
  atom_inj (literal l) (literal m) e = let f : l ≡ m = literal_row.the_row.coded.inj l m (cc) in cc
  atom_inj (constant c) (constant d) e = let f : c ≡ d = con.the_row.coded.inj c d (cc) in cc
  atom_inj (unit p) (unit q) e = let f : p ≡ q = place.the_row.coded.inj p q (cc) in cc
  atom_inj (group p t) (group q u) e = let f : p ≡ q = place.the_row.coded.inj p q (cc) in let g : t ≡ u = pattern_inj t u (cc) in cc
  atom_inj (tuple p ts) (tuple q us) e = let f : p ≡ q = place.the_row.coded.inj p q (cc) in let g : ts ≡ us = patterns_inj ts us (cc) in cc
  atom_inj (list p ts) (list q us) e = let f : p ≡ q = place.the_row.coded.inj p q (cc) in let g : ts ≡ us = patterns_inj ts us (cc) in cc
  atom_inj _ _ e = cc

  pub patterns_inj : (x y : Patterns) → patterns_code x ≡ patterns_code y → x ≡ y
  patterns_inj (more t ts) (more u us) e = let f : t ≡ u = pattern_inj t u (cc) in let g : ts ≡ us = patterns_inj ts us (cc) in cc
  patterns_inj none none e = refl
  patterns_inj _ _ e = cc

  pub operands_inj : (x y : PatternOperands) → operands_code x ≡ operands_code y → x ≡ y
  operands_inj (more_operands a bs) (more_operands b cs) e = let f : a ≡ b = operand_inj a b (cc) in let g : bs ≡ cs = operands_inj bs cs (cc) in cc
  operands_inj no_operand no_operand e = refl
  operands_inj _ _ e = cc

  pub atoms_inj : (x y : PatternAtoms) → atoms_code x ≡ atoms_code y → x ≡ y
  atoms_inj (more_atoms a bs) (more_atoms b cs) e = let f : a ≡ b = atom_inj a b (cc) in let g : bs ≡ cs = atoms_inj bs cs (cc) in cc
  atoms_inj no_atom no_atom e = refl
  atoms_inj _ _ e = cc

abbrev pub coded_pattern : Coded Pattern
coded_pattern = record { code = pattern_code; inj = pattern_inj }
