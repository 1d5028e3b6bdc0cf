use Rattle.std.proofs.Common.{◌≡◌, ◌+◌, ◌≤◌}
use Rattle.std.specs.Vec.{vec_len, vec_capacity}
use Rattle.uc_store.specs.Growth.{with_entries}
use Rattle.uc_store.specs.Places.{boxed}
use Rattle.uc_store.proofs.prepared.put_in.Given as goal

abbrev pub invariant-loop-entry : goal.invariant-loop-entry
invariant-loop-entry l = (with_entries (boxed l.fresh.items) (boxed l.entries.items) ≡ with_entries (boxed l.fn.fresh.items) (boxed l.fn.entries.items)) × (vec_len l.fresh + vec_len l.entries ≤ vec_capacity l.entries)

abbrev pub decreases-loop-entry : goal.decreases-loop-entry
decreases-loop-entry l = vec_len l.fresh
