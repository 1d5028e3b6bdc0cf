-- The type that quantifiers, left sides of arrows and an operand stand for.
use Rattle.std.specs.Prelude.{List, [], ◌∷◌}
use Rattle.uc_scratch.specs.TypeExprs.{TypeExpr, quantified, arrow, operand, TypeOperand, applied, atom, TypeAtom, variable, constant, unit, group, tuple, list, TypeAtoms, no_atom, more_atoms, types_of}
use Rattle.uc_scratch.specs.declared.type_expr.TypeFront.{TypeFront}
use Rattle.uc_scratch.specs.declared.type_expr.TypeFront.TheVariants as front
use Rattle.uc_scratch.specs.declared.type_expr.TypeOperand as seen_operand
use Rattle.uc_scratch.specs.declared.type_expr.TypeOperand.TheVariants as operand_of
use Rattle.uc_scratch.specs.declared.type_expr.TypeAtom as seen_atom
use Rattle.uc_scratch.specs.declared.type_expr.TypeAtom.TheVariants as atom_of

abbrev pub type_atom : seen_atom.TypeAtom → TypeAtom
type_atom (atom_of.Variable w) = variable w
type_atom (atom_of.Con c) = constant c
type_atom (atom_of.Unit p) = unit p
type_atom (atom_of.Group p t) = group p t.value
type_atom (atom_of.Tuple p ts) = tuple p (types_of ts.items)
type_atom (atom_of.List p t) = list p t.value

abbrev pub type_atoms : List seen_atom.TypeAtom → TypeAtoms
type_atoms [] = no_atom
type_atoms (a ∷ bs) = more_atoms (type_atom a) (type_atoms bs)

abbrev pub type_operand : seen_operand.TypeOperand → TypeOperand
type_operand (operand_of.Applied c bs) = applied c (type_atoms bs.items)
type_operand (operand_of.Atom a) = atom (type_atom a)

-- a quantifier or a left side of an arrow before a type
abbrev pub fronted : TypeFront → TypeExpr → TypeExpr
fronted (front.Forall p vs) t = quantified p vs.items t
fronted (front.Arrow a) t = arrow (type_operand a) t

-- quantifiers and left sides of arrows before a type
abbrev pub fronts_before : List TypeFront → TypeExpr → TypeExpr
fronts_before [] t = t
fronts_before (f ∷ fs) t = fronted f (fronts_before fs t)

abbrev pub type_of : List TypeFront → seen_operand.TypeOperand → TypeExpr
type_of fs a = fronts_before fs (operand (type_operand a))
