use Rattle.std.proofs.Common.{length}
use Rattle.uc_layout.specs.Run.{Leads}
use Rattle.uc_layout.proofs.lay.end_blocks.Given as goal

abbrev pub invariant-ending : goal.invariant-ending
invariant-ending l = Leads l.initial.out.items l.initial.stack l.out.items l.stack l.t

abbrev pub decreases-ending : goal.decreases-ending
decreases-ending l = length l.stack
