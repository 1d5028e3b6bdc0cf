use Rattle.std.proofs.Common.{◌≡◌, take, map}
use Rattle.uc_context.specs.Closing.{open_from}
use Rattle.uc_context.specs.Opens.{open_size, opens_size, opens_of}
use Rattle.uc_context.proofs.+to_ty.Given as goal

abbrev pub decreases-open::Open::to_ty : goal.decreases-open::Open::to_ty
decreases-open::Open::to_ty l = open_size l.self.now

abbrev pub decreases-closing::tys_from_opens : goal.decreases-closing::tys_from_opens
decreases-closing::tys_from_opens l = opens_size (opens_of l.ts.now)

abbrev pub invariant-closing::tys_from_opens-loop-t : goal.invariant-closing::tys_from_opens-loop-t
invariant-closing::tys_from_opens-loop-t l = map open_from l.tys.items ≡ take l.t-index l.ts
