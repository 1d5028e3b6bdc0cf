use Rattle.std.proofs.Common.{◌≡◌, ◌+◌, ◌++◌, length}
use Rattle.std.specs.Vec.{vec_len}
use Rattle.std.specs.Vec.Iter.{into_iter_items}
use Rattle.uc_tree.specs.Hints.{names_of}
use Rattle.uc_store.specs.Growth.{stored_from}
use Rattle.uc_store.specs.Members.{stored_of, AreKept}
use Rattle.uc_store.proofs.member.members_from.Given as goal

abbrev pub invariant-loop-item : goal.invariant-loop-item
invariant-loop-item l =
    (stored_of l.members.items ++ stored_from (into_iter_items l.item-iterator) (into_iter_items l.types_left) (names_of (into_iter_items l.hints_left))
    ≡ stored_from l.fn.items.items l.fn.types.items (names_of l.fn.hints.items))
    × AreKept l.hash l.members.items × (vec_len l.members + length (into_iter_items l.item-iterator) ≡ length l.fn.items.items)
