use Rattle.std.proofs.Common.{◌≡◌}
use Rattle.uc_typing.specs.Fronts.{result_of}
use Rattle.uc_patterns.proofs.fronts.result_of.Given as goal

abbrev pub invariant-loop-rest : goal.invariant-loop-rest
invariant-loop-rest l = result_of l.rest ≡ result_of l.of
