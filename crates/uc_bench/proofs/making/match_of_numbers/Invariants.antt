use Rattle.std.proofs.Common.{◌≡◌}
use Rattle.uc_bench.specs.Ordinary.{cases_below}
use Rattle.uc_bench.proofs.making.match_of_numbers.Given as goal

abbrev pub invariant-loop-number : goal.invariant-loop-number
invariant-loop-number l = l.cases.items ≡ cases_below l.number
