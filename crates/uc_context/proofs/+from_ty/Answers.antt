use Rattle.std.proofs.Common.{arith, ap, ◌∙◌, map}
use Rattle.std.proofs.lemmas.List.{take_all}
use Rattle.uc_context.specs.Closing.{open_from}
use Rattle.uc_context.specs.Opens.{opens_of}
use Rattle.uc_context.proofs.Closed.{opens_from-tys_of}
use Rattle.uc_context.proofs.+from_ty.Goals as goal

pub closing::opens_from_tys-returns : goal.closing::opens_from_tys-returns
closing::opens_from_tys-returns t c =
    ap opens_of (c.loop-ty.invariant ∙ ap (map open_from) (take_all c.loop-ty.ty-index c.args.tys.now (omega arith))) ∙ opens_from-tys_of c.args.tys.now
