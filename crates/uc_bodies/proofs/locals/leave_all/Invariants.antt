use Rattle.std.proofs.Common.{◌≡◌, drop}
use Rattle.uc_bodies.proofs.locals.leave_all.Given as goal

abbrev pub invariant-loop : goal.invariant-loop
invariant-loop l = l.binders ≡ drop l.counter l.initial.binders
