use Rattle.uc_canon.proofs.Places.{ArePlaces}
use Rattle.uc_canon.proofs.first_reach.renumbering.Given as goal

abbrev pub invariant-loop-place : goal.invariant-loop-place
invariant-loop-place l = ArePlaces l.order l.count l.place l.numbers.items
