use Rattle.std.proofs.Common.{◌≡◌, take, map}
use Rattle.uc_context.specs.Opens.{existential}
use Rattle.uc_context.proofs.solving.existentials.Given as goal

abbrev pub invariant-loop-n : goal.invariant-loop-n
invariant-loop-n l = l.types.items ≡ map (λ n. existential n) (take l.n-index l.numbers)
