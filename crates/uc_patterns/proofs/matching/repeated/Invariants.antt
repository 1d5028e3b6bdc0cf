use Rattle.std.proofs.Common.{◌≡◌}
use Rattle.uc_context.specs.Opens.{opens_of}
use Rattle.uc_typing.specs.Fronts.{repeated}
use Rattle.uc_patterns.proofs.matching.repeated.Given as goal

abbrev pub invariant-loop : goal.invariant-loop
invariant-loop l = opens_of l.types.items ≡ repeated l.counter l.of
