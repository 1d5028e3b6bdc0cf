-- How the logic stores a written type.
use Rattle.std.specs.Prelude.{◌≡◌, refl}
use Rattle.std.specs.Coded.{Coded, coded_list}
use base.Stored.{Gv, gnil, gnum, gcons}
use Rattle.uc_base.specs.contracts.place.Place as place
use Rattle.uc_scratch.specs.contracts.written.Written as written
use Rattle.uc_scratch.specs.contracts.written.Con as con
use Rattle.uc_scratch.specs.TypeExprs.{TypeExpr, quantified, arrow, operand, TypeOperand, applied, atom, TypeAtom, variable, constant, unit, group, tuple, list, TypeExprs, none, more, TypeAtoms, no_atom, more_atoms}

abbrev mutual
  pub type_code : TypeExpr → Gv
  type_code (quantified p vs t) = gcons (gnum 0) (gcons (place.the_row.coded.code p) (gcons ((coded_list written.the_row.coded).code vs) (type_code t)))
  type_code (arrow a t) = gcons (gnum 1) (gcons (operand_code a) (type_code t))
  type_code (operand a) = gcons (gnum 2) (operand_code a)

  pub operand_code : TypeOperand → Gv
  operand_code (applied c bs) = gcons (gnum 0) (gcons (con.the_row.coded.code c) (atoms_code bs))
  operand_code (atom a) = gcons (gnum 1) (atom_code a)

  pub atom_code : TypeAtom → Gv
  atom_code (variable w) = gcons (gnum 0) (written.the_row.coded.code w)
  atom_code (constant c) = gcons (gnum 1) (con.the_row.coded.code c)
  atom_code (unit p) = gcons (gnum 2) (place.the_row.coded.code p)
  atom_code (group p t) = gcons (gnum 3) (gcons (place.the_row.coded.code p) (type_code t))
  atom_code (tuple p ts) = gcons (gnum 4) (gcons (place.the_row.coded.code p) (types_code ts))
  atom_code (list p t) = gcons (gnum 5) (gcons (place.the_row.coded.code p) (type_code t))

  pub types_code : TypeExprs → Gv
  types_code none = gnil
  types_code (more t ts) = gcons (type_code t) (types_code ts)

  pub atoms_code : TypeAtoms → Gv
  atoms_code no_atom = gnil
  atoms_code (more_atoms a bs) = gcons (atom_code a) (atoms_code bs)

mutual
  pub type_inj : (x y : TypeExpr) → type_code x ≡ type_code y → x ≡ y
  type_inj (quantified p vs t) (quantified q ws u) e = let f : p ≡ q = place.the_row.coded.inj p q (cc) in let g : vs ≡ ws = (coded_list written.the_row.coded).inj vs ws (cc) in let h : t ≡ u = type_inj t u (cc) in cc
  type_inj (arrow a t) (arrow b u) e = let f : a ≡ b = operand_inj a b (cc) in let h : t ≡ u = type_inj t u (cc) in cc
  type_inj (operand a) (operand b) e = let f : a ≡ b = operand_inj a b (cc) in cc
  type_inj _ _ e = cc

  pub operand_inj : (x y : TypeOperand) → operand_code x ≡ operand_code y → x ≡ y
  operand_inj (applied c bs) (applied d cs) e = let f : c ≡ d = con.the_row.coded.inj c d (cc) in let g : bs ≡ cs = atoms_inj bs cs (cc) in cc
  operand_inj (atom a) (atom b) e = let f : a ≡ b = atom_inj a b (cc) in cc
  operand_inj _ _ e = cc

  pub atom_inj : (x y : TypeAtom) → atom_code x ≡ atom_code y → x ≡ y
  atom_inj (variable w) (variable v) e = let f : w ≡ v = written.the_row.coded.inj w v (cc) in cc
  atom_inj (constant c) (constant d) e = let f : c ≡ d = con.the_row.coded.inj c d (cc) in cc
  atom_inj (unit p) (unit q) e = let f : p ≡ q = place.the_row.coded.inj p q (cc) in cc
  atom_inj (group p t) (group q u) e = let f : p ≡ q = place.the_row.coded.inj p q (cc) in let g : t ≡ u = type_inj t u (cc) in cc
  atom_inj (tuple p ts) (tuple q us) e = let f : p ≡ q = place.the_row.coded.inj p q (cc) in let g : ts ≡ us = types_inj ts us (cc) in cc
  atom_inj (list p t) (list q u) e = let f : p ≡ q = place.the_row.coded.inj p q (cc) in let g : t ≡ u = type_inj t u (cc) in cc
  atom_inj _ _ e = cc

  pub types_inj : (x y : TypeExprs) → types_code x ≡ types_code y → x ≡ y
  types_inj (more t ts) (more u us) e = let f : t ≡ u = type_inj t u (cc) in let g : ts ≡ us = types_inj ts us (cc) in cc
  types_inj none none e = refl
  types_inj _ _ e = cc

  pub atoms_inj : (x y : TypeAtoms) → atoms_code x ≡ atoms_code y → x ≡ y
  atoms_inj (more_atoms a bs) (more_atoms b cs) e = let f : a ≡ b = atom_inj a b (cc) in let g : bs ≡ cs = atoms_inj bs cs (cc) in cc
  atoms_inj no_atom no_atom e = refl
  atoms_inj _ _ e = cc

abbrev pub coded_type : Coded TypeExpr
coded_type = record { code = type_code; inj = type_inj }

abbrev pub coded_type_atoms : Coded TypeAtoms
coded_type_atoms = record { code = atoms_code; inj = atoms_inj }
