use Rattle.std.proofs.Common.{◌≡◌}
use Rattle.uc_components.specs.Searched.{state_of, Closes}
use Rattle.uc_components.proofs.search.close_each.Given as goal

abbrev pub invariant-loop-i : goal.invariant-loop-i
invariant-loop-i l = Closes (state_of l.fn.search) l.from l.i l.number l.search.closed.items l.search.home.items × (l.search ≡ record l.fn.search { closed = l.search.closed; home = l.search.home })
