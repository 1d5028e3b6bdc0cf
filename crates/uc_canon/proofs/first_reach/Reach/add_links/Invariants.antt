use Rattle.std.proofs.Common.{◌≡◌, length, drop}
use Rattle.uc_base.specs.Graph.{row}
use Rattle.uc_canon.specs.Numbering.{added}
use Rattle.uc_canon.specs.Starts.{AreReached}
use Rattle.uc_canon.proofs.first_reach.Reach.add_links.Given as goal

abbrev pub invariant-loop-at : goal.invariant-loop-at
invariant-loop-at l =
    (added l.self.order.items (drop l.at (row l.graph l.member)) ≡ added l.fn.self.order.items (row l.graph l.member))
    × (l.self.start ≡ l.fn.self.start)
    × AreReached (length l.graph) l.self.start l.self.starts.items l.self.numbers.items l.self.order.items
