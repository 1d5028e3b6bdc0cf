use Rattle.std.proofs.Common.{◌≡◌, drop}
use Rattle.uc_signatures.proofs.type_variables.TypeVariables.leave.Given as goal

abbrev pub invariant-loop : goal.invariant-loop
invariant-loop l = l.self ≡ drop l.counter l.initial.self
