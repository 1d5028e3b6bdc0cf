use Rattle.std.proofs.Common.{List, [], length}
use Rattle.uc_layout.specs.declared.piece.Mark.{Mark}
use Rattle.uc_layout.specs.Layout.{stop}
use Rattle.uc_layout.specs.Run.{Completes}
use Rattle.uc_layout.proofs.lay.end_all.Given as goal

abbrev pub invariant-regions : goal.invariant-regions
invariant-regions l = (all : List Mark) → Completes l.out.items stop l.stack [] all → Completes l.initial.out.items stop l.initial.stack [] all

abbrev pub decreases-regions : goal.decreases-regions
decreases-regions l = length l.stack
