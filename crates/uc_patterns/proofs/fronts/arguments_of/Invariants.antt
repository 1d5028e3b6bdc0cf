use Rattle.std.proofs.Common.{◌≡◌}
use Rattle.uc_typing.specs.Fronts.{arguments_of}
use Rattle.uc_patterns.proofs.FrontParts.{in_front}
use Rattle.uc_patterns.proofs.fronts.arguments_of.Given as goal

abbrev pub invariant-loop-rest : goal.invariant-loop-rest
invariant-loop-rest l = in_front l.arguments.items (arguments_of l.rest) ≡ arguments_of l.of
