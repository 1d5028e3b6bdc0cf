-- Each part of a written type is smaller than the type.
use Rattle.std.specs.Prelude.{◌+◌, ◌≤◌, max, List, [], ◌∷◌}
use Rattle.std.proofs.Common.{arith}
use denote.Param.Weighed.{most}
use Rattle.uc_scratch.specs.declared.type_expr.TypeFront.{TypeFront}
use Rattle.uc_scratch.specs.declared.type_expr.TypeFront.TheVariants as front
use Rattle.uc_scratch.specs.declared.type_expr.TypeOperand.{TypeOperand}
use Rattle.uc_scratch.specs.declared.type_expr.TypeOperand.TheVariants as operand_of
use Rattle.uc_scratch.specs.declared.type_expr.TypeAtom.{TypeAtom}
use Rattle.uc_scratch.specs.declared.type_expr.TypeAtom.TheVariants as atom_of
use Rattle.uc_scratch.specs.declared.type_expr.TypeExpr.TheInside.{Inside}
use Rattle.uc_scratch.specs.declared.type_expr.TypeExpr.TheDeep.{deep-TypeFront, deep-TypeOperand, deep-TypeAtom}
use Rattle.uc_scratch.specs.TypeExprs.{TypeExpr, operand, types_of, type_size, operand_size, atom_size, types_size, atoms_size}
use Rattle.uc_scratch.specs.TypeViews.{type_atom, type_atoms, type_operand, fronts_before, type_of}

some_types : (ts : List TypeExpr) → most (λ t. type_size t + 1) ts ≤ types_size (types_of ts) + 1
some_types [] = omega arith
some_types (t ∷ ts) = omega (arith, some_types ts)

pub an_atom : (a : TypeAtom) → deep-TypeAtom a ≤ atom_size (type_atom a)
an_atom (atom_of.Variable w) = omega arith
an_atom (atom_of.Con c) = omega arith
an_atom (atom_of.Unit p) = omega arith
an_atom (atom_of.Group p t) = omega arith
an_atom (atom_of.Tuple p ts) = omega (arith, some_types ts.items)
an_atom (atom_of.List p t) = omega arith

pub some_atoms : (bs : List TypeAtom) → most deep-TypeAtom bs ≤ atoms_size (type_atoms bs)
some_atoms [] = omega arith
some_atoms (b ∷ bs) = omega (arith, an_atom b, some_atoms bs)

an_operand : (a : TypeOperand) → deep-TypeOperand a ≤ operand_size (type_operand a)
an_operand (operand_of.Applied c bs) = omega (arith, some_atoms bs.items)
an_operand (operand_of.Atom a) = omega (arith, an_atom a)

front_size : (fs : List TypeFront) (t : TypeExpr) → type_size t ≤ type_size (fronts_before fs t)
front_size [] t = omega arith
front_size (front.Forall p vs ∷ fs) t = omega (arith, front_size fs t)
front_size (front.Arrow a ∷ fs) t = omega (arith, front_size fs t)

some_fronts : (fs : List TypeFront) (t : TypeExpr) → most deep-TypeFront fs ≤ type_size (fronts_before fs t)
some_fronts [] t = omega arith
some_fronts (front.Forall p vs ∷ fs) t = omega (arith, some_fronts fs t)
some_fronts (front.Arrow a ∷ fs) t = omega (arith, an_operand a, some_fronts fs t)

pub falls : (t : Inside) → max (most deep-TypeFront t.fronts.items) (max (deep-TypeOperand t.last) 0) ≤ type_size (type_of t.fronts.items t.last)
falls t =
    omega (arith, some_fronts t.fronts.items (operand (type_operand t.last)), front_size t.fronts.items (operand (type_operand t.last)), an_operand t.last)
