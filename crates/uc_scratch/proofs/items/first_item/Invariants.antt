use Rattle.uc_scratch.proofs.Cuts.{Passed}
use Rattle.uc_scratch.proofs.items.first_item.Given as goal

abbrev pub invariant-loop-i : goal.invariant-loop-i
invariant-loop-i l = Passed l.tokens l.i l.blocks
