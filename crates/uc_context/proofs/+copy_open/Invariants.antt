use Rattle.std.proofs.Common.{◌≡◌, take}
use Rattle.uc_context.specs.Opens.{open_size, opens_size, opens_of}
use Rattle.uc_context.proofs.+copy_open.Given as goal

abbrev pub decreases-open::Open::copy : goal.decreases-open::Open::copy
decreases-open::Open::copy l = open_size l.self.now

abbrev pub decreases-copying::copy_opens : goal.decreases-copying::copy_opens
decreases-copying::copy_opens l = opens_size (opens_of l.types.now)

abbrev pub invariant-copying::copy_opens-loop-t : goal.invariant-copying::copy_opens-loop-t
invariant-copying::copy_opens-loop-t l = l.copied.items ≡ take l.t-index l.types
