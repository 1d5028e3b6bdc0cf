use Rattle.std.proofs.Common.{◌≡◌, ◌++◌, map, drop}
use Rattle.uc_scratch.proofs.scope.Scope.extend.Given as goal

abbrev pub invariant-loop-name : goal.invariant-loop-name
invariant-loop-name l = l.self ++ map (λ x. x.now) (drop l.name-index l.name-items) ≡ l.initial.self ++ l.other
