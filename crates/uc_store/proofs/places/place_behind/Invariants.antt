use Rattle.std.proofs.Common.{◌-◌}
use Rattle.uc_store.specs.Places.{boxed}
use Rattle.uc_store.proofs.Searching.{IsBetween}
use Rattle.uc_store.proofs.places.place_behind.Given as goal

abbrev pub invariant-loop-low : goal.invariant-loop-low
invariant-loop-low l = IsBetween l.hash (boxed l.entries) l.low l.high

abbrev pub decreases-loop-low : goal.decreases-loop-low
decreases-loop-low l = l.high - l.low
