use Rattle.uc_components.specs.Searched.{state_of, Good, Grows}
use Rattle.uc_components.proofs.search.walk.Given as goal

abbrev pub invariant-loop : goal.invariant-loop
invariant-loop l = Good l.graph (state_of l.search) × Grows (state_of l.fn.search) (state_of l.search)
