-- Each part of a type has fewer nodes than the type.
use Rattle.std.specs.Prelude.{◌+◌, ◌≤◌, max, List, [], ◌∷◌}
use Rattle.std.proofs.Common.{arith}
use denote.Param.Weighed.{most}
use Rattle.uc_tree.specs.declared.ty.TyNode.{TyNode}
use Rattle.uc_tree.specs.declared.ty.TyNode.TheVariants.{Var, Forall, Arrow, Unit, Tuple, Data}
use Rattle.uc_tree.specs.declared.ty.Ty.TheDeep.{deep-TyNode}
use Rattle.uc_tree.specs.Types.{Ty, tys_of, ty_size, tys_size}
use Rattle.uc_tree.specs.TypeViews.{ty_of}

some_nodes : (ts : List Ty) → most (λ t. ty_size t + 1) ts ≤ tys_size (tys_of ts) + 1
some_nodes [] = omega arith
some_nodes (t ∷ ts) = omega (arith, some_nodes ts)

pub falls : (n : TyNode) → max (deep-TyNode n) 0 ≤ ty_size (ty_of n)
falls (Var n) = omega arith
falls (Forall t) = omega arith
falls (Arrow a b) = omega arith
falls Unit = omega arith
falls (Tuple ts) = omega (arith, some_nodes ts.items)
falls (Data x ts) = omega (arith, some_nodes ts.items)
