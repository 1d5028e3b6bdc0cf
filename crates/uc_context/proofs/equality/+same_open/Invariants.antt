use Rattle.std.proofs.Common.{◌≡◌, take}
use Rattle.uc_context.specs.Opens.{open_size, opens_size, opens_of}
use Rattle.uc_context.proofs.equality.+same_open.Given as goal

abbrev pub decreases-same_open : goal.decreases-same_open
decreases-same_open l = open_size l.t.now

abbrev pub decreases-same_opens : goal.decreases-same_opens
decreases-same_opens l = opens_size (opens_of l.ts.now)

abbrev pub invariant-same_opens-loop-i : goal.invariant-same_opens-loop-i
invariant-same_opens-loop-i l = take l.i l.ts ≡ take l.i l.us
