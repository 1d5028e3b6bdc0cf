use Rattle.std.proofs.Common.{◌≡◌, drop}
use Rattle.uc_context.specs.Opens.{open_size, opens_size, opens_of}
use Rattle.uc_context.specs.Variables.{are_monotypes}
use Rattle.uc_context.proofs.+is_monotype.Given as goal

abbrev pub decreases-open::Open::is_monotype : goal.decreases-open::Open::is_monotype
decreases-open::Open::is_monotype l = open_size l.self.now

abbrev pub decreases-variables::are_monotypes : goal.decreases-variables::are_monotypes
decreases-variables::are_monotypes l = opens_size (opens_of l.ts.now)

abbrev pub invariant-variables::are_monotypes-loop-t : goal.invariant-variables::are_monotypes-loop-t
invariant-variables::are_monotypes-loop-t l = are_monotypes (opens_of (drop l.t-index l.ts)) ≡ are_monotypes (opens_of l.ts)
