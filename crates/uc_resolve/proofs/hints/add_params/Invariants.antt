use Rattle.std.proofs.Common.{◌≡◌, ◌++◌, drop}
use Rattle.uc_meaning.specs.Hints.{param_hints}
use Rattle.uc_resolve.proofs.hints.add_params.Given as goal

abbrev pub invariant-loop-param : goal.invariant-loop-param
invariant-loop-param l = l.out.items ++ param_hints (drop l.param-index l.params) ≡ l.initial.out.items ++ param_hints l.params
