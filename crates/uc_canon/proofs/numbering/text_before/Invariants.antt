use Rattle.std.proofs.Common.{◌≡◌, ◌↔◌, ◌++◌, ◌+◌, ℕ, List, drop, length}
use Rattle.uc_canon.specs.Members.{members_of}
use Rattle.uc_canon.specs.Numbering.{rows_of, reached, order_from}
use Rattle.uc_canon.specs.Starts.{AreReached, moved_texts, text_in, ComesBefore}
use Rattle.uc_canon.proofs.numbering.text_before.Given as goal

abbrev pub invariant-loop-place : goal.invariant-loop-place
invariant-loop-place l =
    (l.text.items ++ moved_texts (order_from (members_of l.of) l.start) (members_of l.of) (drop l.place (order_from (members_of l.of) l.start)) ≡ text_in (order_from (members_of l.of) l.start) (members_of l.of))
    × ((rest : List ℕ) → ComesBefore l.known (l.text.items ++ rest) ↔ ComesBefore l.standing rest)
    × (l.reach.order.items ≡ reached (rows_of (members_of l.of)) l.start l.place)
    × (l.reach.start ≡ l.start + 1)
    × AreReached (length l.graph) l.reach.start l.reach.starts.items l.reach.numbers.items l.reach.order.items
