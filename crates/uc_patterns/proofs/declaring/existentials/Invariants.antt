use Rattle.std.proofs.Common.{◌≡◌, map, take}
use Rattle.uc_context.specs.Opens.{existential}
use Rattle.uc_patterns.proofs.declaring.existentials.Given as goal

abbrev pub invariant-loop-number : goal.invariant-loop-number
invariant-loop-number l = l.types.items ≡ map (λ n. existential n) (take l.number-index l.numbers)
