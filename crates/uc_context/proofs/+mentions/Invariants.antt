use Rattle.std.proofs.Common.{◌≡◌, drop}
use Rattle.uc_context.specs.Opens.{open_size, opens_size, opens_of}
use Rattle.uc_context.specs.Variables.{some_mentions}
use Rattle.uc_context.proofs.+mentions.Given as goal

abbrev pub decreases-open::Open::mentions : goal.decreases-open::Open::mentions
decreases-open::Open::mentions l = open_size l.self.now

abbrev pub decreases-variables::some_mentions : goal.decreases-variables::some_mentions
decreases-variables::some_mentions l = opens_size (opens_of l.ts.now)

abbrev pub invariant-variables::some_mentions-loop-t : goal.invariant-variables::some_mentions-loop-t
invariant-variables::some_mentions-loop-t l = some_mentions l.x (opens_of (drop l.t-index l.ts)) ≡ some_mentions l.x (opens_of l.ts)
