-- What atoms of a type make together.
use Rattle.uc_base.specs.declared.place.Place.{Place}
use Rattle.uc_scratch.specs.declared.written.Con.{Con}
use Rattle.uc_scratch.specs.TypeExprs.{TypeOperand, applied, atom, TypeAtom, constant, group, tuple, TypeExprs, none, more, TypeAtoms, no_atom, more_atoms}

-- the name of a declared type with these atoms behind it
abbrev pub operand_with : Con → TypeAtoms → TypeOperand
operand_with c no_atom = atom (constant c)
operand_with c (more_atoms a bs) = applied c (more_atoms a bs)

-- these types in round brackets
abbrev pub in_round : Place → TypeExprs → TypeAtom
in_round p (more t none) = group p t
in_round p ts = tuple p ts
