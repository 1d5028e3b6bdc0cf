-- The type that a node stands for.
use Rattle.uc_tree.specs.Types.{Ty, variable, quantified, arrow, unit, tuple, applied, tys_of}
use Rattle.uc_tree.specs.declared.ty.TyNode.{TyNode}
use Rattle.uc_tree.specs.declared.ty.TyNode.TheVariants.{Var, Forall, Arrow, Unit, Tuple, Data}

abbrev pub ty_of : TyNode → Ty
ty_of (Var n) = variable n
ty_of (Forall t) = quantified t.value
ty_of (Arrow a b) = arrow a.value b.value
ty_of Unit = unit
ty_of (Tuple ts) = tuple (tys_of ts.items)
ty_of (Data x ts) = applied x (tys_of ts.items)
