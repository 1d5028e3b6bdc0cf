-- Written types as plain trees.
use Rattle.std.specs.Prelude.{ℕ, ◌+◌, List, [], ◌∷◌}
use Rattle.uc_base.specs.declared.place.Place.{Place}
use Rattle.uc_scratch.specs.declared.written.Written.{Written}
use Rattle.uc_scratch.specs.declared.written.Con.{Con}

mutual
  -- a type: a quantifier over variables, an arrow, or an operand alone
  pub data TypeExpr : Type 0 where
    quantified : Place → List Written → TypeExpr → TypeExpr
    arrow : TypeOperand → TypeExpr → TypeExpr
    operand : TypeOperand → TypeExpr

  -- the name of a declared type with arguments, or an atom alone
  pub data TypeOperand : Type 0 where
    applied : Con → TypeAtoms → TypeOperand
    atom : TypeAtom → TypeOperand

  -- a variable, the name of a declared type, the unit, a type in brackets, a tuple, or a list type
  pub data TypeAtom : Type 0 where
    variable : Written → TypeAtom
    constant : Con → TypeAtom
    unit : Place → TypeAtom
    group : Place → TypeExpr → TypeAtom
    tuple : Place → TypeExprs → TypeAtom
    list : Place → TypeExpr → TypeAtom

  -- a list of types
  pub data TypeExprs : Type 0 where
    none : TypeExprs
    more : TypeExpr → TypeExprs → TypeExprs

  -- a list of atoms
  pub data TypeAtoms : Type 0 where
    no_atom : TypeAtoms
    more_atoms : TypeAtom → TypeAtoms → TypeAtoms

-- the types of a list
abbrev pub types_of : List TypeExpr → TypeExprs
types_of [] = none
types_of (t ∷ ts) = more t (types_of ts)

abbrev mutual
  -- what falls in a walk over a type
  pub type_size : TypeExpr → ℕ
  type_size (quantified p vs t) = type_size t + 1
  type_size (arrow a t) = operand_size a + type_size t + 1
  type_size (operand a) = operand_size a + 1

  pub operand_size : TypeOperand → ℕ
  operand_size (applied c bs) = atoms_size bs + 1
  operand_size (atom a) = atom_size a + 1

  pub atom_size : TypeAtom → ℕ
  atom_size (variable w) = 1
  atom_size (constant c) = 1
  atom_size (unit p) = 1
  atom_size (group p t) = type_size t + 1
  atom_size (tuple p ts) = types_size ts + 1
  atom_size (list p t) = type_size t + 1

  pub types_size : TypeExprs → ℕ
  types_size none = 0
  types_size (more t ts) = type_size t + types_size ts + 1

  pub atoms_size : TypeAtoms → ℕ
  atoms_size no_atom = 0
  atoms_size (more_atoms a bs) = atom_size a + atoms_size bs + 1
