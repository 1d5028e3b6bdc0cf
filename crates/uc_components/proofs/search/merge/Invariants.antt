use Rattle.std.proofs.Common.{◌≡◌, length, slice_index}
use Rattle.uc_components.specs.Searched.{state_of, Merging, target}
use Rattle.uc_components.proofs.search.merge.Given as goal

abbrev pub invariant-loop-search : goal.invariant-loop-search
invariant-loop-search l = (Merging l._graph (state_of l.search) l._top × (l.low ≡ slice_index l.search.index.items (target l._graph (state_of l.search) l._top))) × (l.search.seen ≡ l.fn.search.seen)

abbrev pub decreases-loop-search : goal.decreases-loop-search
decreases-loop-search l = length l.search.bounds.items
