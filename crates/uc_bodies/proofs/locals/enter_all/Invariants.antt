use Rattle.std.proofs.Common.{◌≡◌, ◌++◌, map, reverse, drop, Some}
use Rattle.uc_bodies.proofs.locals.enter_all.Given as goal

abbrev pub invariant-loop-number : goal.invariant-loop-number
invariant-loop-number l = reverse (map (λ w. Some w.text) (drop l.number l.names)) ++ l.binders ≡ reverse (map (λ w. Some w.text) l.names) ++ l.initial.binders
