use Rattle.std.proofs.Common.{◌≡◌, drop, take}
use Rattle.uc_context.specs.Opens.{open_size, opens_size, opens_of}
use Rattle.uc_context.specs.Variables.{has_variables_of}
use Rattle.uc_context.proofs.context.Context.+has_variables.Given as goal

abbrev pub decreases-has_variables : goal.decreases-has_variables
decreases-has_variables l = open_size l.t.now

abbrev pub decreases-has_variables_of : goal.decreases-has_variables_of
decreases-has_variables_of l = opens_size (opens_of l.ts.now)

abbrev pub invariant-has_variables_of-loop-t : goal.invariant-has_variables_of-loop-t
invariant-has_variables_of-loop-t l = has_variables_of (take l.limit l.self) (opens_of (drop l.t-index l.ts)) ≡ has_variables_of (take l.limit l.self) (opens_of l.ts)
