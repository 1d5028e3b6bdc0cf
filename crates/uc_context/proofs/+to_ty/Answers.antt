use Rattle.std.proofs.Common.{arith, sym, ap, ◌∙◌}
use Rattle.std.proofs.lemmas.List.{take_all}
use Rattle.uc_context.specs.Opens.{opens_of}
use Rattle.uc_context.proofs.Closed.{opens_from-tys_of}
use Rattle.uc_context.proofs.+to_ty.Goals as goal

pub closing::tys_from_opens-returns : goal.closing::tys_from_opens-returns
closing::tys_from_opens-returns t c =
    sym (opens_from-tys_of c.loop-t.tys.items) ∙ ap opens_of (c.loop-t.invariant ∙ take_all c.loop-t.t-index c.args.ts.now (omega arith))
