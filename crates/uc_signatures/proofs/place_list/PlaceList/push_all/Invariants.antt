use Rattle.std.proofs.Common.{◌≡◌, ◌++◌, length}
use Rattle.uc_signatures.proofs.place_list.PlaceList.push_all.Given as goal

abbrev pub invariant-loop-place : goal.invariant-loop-place
invariant-loop-place l = l.self ++ l.back ≡ l.initial.self ++ l.initial.back

abbrev pub decreases-loop-place : goal.decreases-loop-place
decreases-loop-place l = length l.back
