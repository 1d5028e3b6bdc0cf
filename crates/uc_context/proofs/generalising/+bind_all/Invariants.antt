use Rattle.std.proofs.Common.{◌≡◌, take, map}
use Rattle.uc_context.specs.Opens.{open_size, opens_size, opens_of}
use Rattle.uc_context.specs.Generalising.{all_bound_at}
use Rattle.uc_context.proofs.generalising.+bind_all.Given as goal

abbrev pub decreases-bind_all : goal.decreases-bind_all
decreases-bind_all l = open_size l.t.now

abbrev pub decreases-bind_each : goal.decreases-bind_each
decreases-bind_each l = opens_size (opens_of l.ts.now)

abbrev pub invariant-bind_each-loop-t : goal.invariant-bind_each-loop-t
invariant-bind_each-loop-t l = l.bound.items ≡ map (all_bound_at l.numbers l.k) (take l.t-index l.ts)
