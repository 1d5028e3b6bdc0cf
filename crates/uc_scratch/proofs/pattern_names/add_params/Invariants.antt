use Rattle.std.proofs.Common.{◌≡◌, ◌++◌, drop}
use Rattle.uc_scratch.specs.NameFaults.{param_names}
use Rattle.uc_scratch.proofs.pattern_names.add_params.Given as goal

abbrev pub invariant-loop-param : goal.invariant-loop-param
invariant-loop-param l = l.out ++ param_names (drop l.param-index l.params) ≡ l.initial.out ++ param_names l.params
