use Rattle.std.proofs.Common.{◌≡◌, drop}
use Rattle.uc_context.specs.Closing.{are_closed}
use Rattle.uc_context.specs.Opens.{open_size, opens_size, opens_of}
use Rattle.uc_context.proofs.+is_closed.Given as goal

abbrev pub decreases-open::Open::is_closed : goal.decreases-open::Open::is_closed
decreases-open::Open::is_closed l = open_size l.self.now

abbrev pub decreases-closing::are_closed : goal.decreases-closing::are_closed
decreases-closing::are_closed l = opens_size (opens_of l.ts.now)

abbrev pub invariant-closing::are_closed-loop-t : goal.invariant-closing::are_closed-loop-t
invariant-closing::are_closed-loop-t l = are_closed (opens_of (drop l.t-index l.ts)) ≡ are_closed (opens_of l.ts)
