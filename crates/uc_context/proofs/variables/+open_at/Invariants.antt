use Rattle.std.proofs.Common.{◌≡◌, take, map}
use Rattle.uc_context.specs.Opens.{open_size, opens_size, opens_of}
use Rattle.uc_context.specs.Variables.{opened_at}
use Rattle.uc_context.proofs.variables.+open_at.Given as goal

abbrev pub decreases-open_at : goal.decreases-open_at
decreases-open_at l = open_size l.t.now

abbrev pub decreases-open_all_at : goal.decreases-open_all_at
decreases-open_all_at l = opens_size (opens_of l.ts.now)

abbrev pub invariant-open_all_at-loop-t : goal.invariant-open_all_at-loop-t
invariant-open_all_at-loop-t l = l.opened.items ≡ map (opened_at l.k l.by) (take l.t-index l.ts)
