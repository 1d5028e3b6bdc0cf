use Rattle.std.proofs.Common.{◌≡◌}
use Rattle.uc_bench.specs.Ordinary.{bindings_behind}
use Rattle.uc_bench.proofs.making.chain_of_bindings.Given as goal

abbrev pub invariant-loop : goal.invariant-loop
invariant-loop l = l.term ≡ bindings_behind l.counter
