use Rattle.std.proofs.Common.{◌≡◌, ◌++◌, length}
use Rattle.uc_signatures.proofs.place_list.PlaceList.put_all_in_front.Given as goal

abbrev pub invariant-loop-place : goal.invariant-loop-place
invariant-loop-place l = l.front ++ l.self ≡ l.initial.front ++ l.initial.self

abbrev pub decreases-loop-place : goal.decreases-loop-place
decreases-loop-place l = length l.front
