use Rattle.std.specs.Vec.Iter.{into_iter_items}
use Rattle.uc_store.specs.Places.{boxed}
use Rattle.uc_store.proofs.Drafting.{IsDrafting}
use Rattle.uc_store.proofs.draft.draft_of.Given as goal

abbrev pub invariant-loop-checked : goal.invariant-loop-checked
invariant-loop-checked g l = IsDrafting g.H.Digester.digest_of (boxed l.stored) l.fn.new.items (into_iter_items l.checked-iterator) l.draft
