use Rattle.std.proofs.Common.{◌≡◌, take, map}
use Rattle.uc_tree.specs.Types.{tys_of, ty_size, tys_size}
use Rattle.uc_context.specs.Closing.{open_from}
use Rattle.uc_context.proofs.+from_ty.Given as goal

abbrev pub decreases-open::Open::from_ty : goal.decreases-open::Open::from_ty
decreases-open::Open::from_ty l = ty_size l.ty.now

abbrev pub decreases-closing::opens_from_tys : goal.decreases-closing::opens_from_tys
decreases-closing::opens_from_tys l = tys_size (tys_of l.tys.now)

abbrev pub invariant-closing::opens_from_tys-loop-ty : goal.invariant-closing::opens_from_tys-loop-ty
invariant-closing::opens_from_tys-loop-ty l = l.opens.items ≡ map open_from (take l.ty-index l.tys)
