use Rattle.std.proofs.Common.{List, length}
use Rattle.uc_layout.specs.declared.piece.Mark.{Mark}
use Rattle.uc_layout.specs.Layout.{LaysPieces}
use Rattle.uc_layout.specs.Run.{innermost, next_move, Completes}
use Rattle.uc_layout.proofs.lay.lay.Given as goal

abbrev pub invariant-tokens : goal.invariant-tokens
invariant-tokens l = (all : List Mark) → Completes l.out.items (next_move l.fresh (innermost l.stack) l.rest) l.stack l.rest all → LaysPieces l.pieces all

abbrev pub decreases-tokens : goal.decreases-tokens
decreases-tokens l = length l.rest
