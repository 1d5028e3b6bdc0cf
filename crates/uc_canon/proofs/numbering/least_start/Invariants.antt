use Rattle.std.proofs.Common.{◌≡◌}
use Rattle.uc_canon.specs.Members.{members_of, count_of}
use Rattle.uc_canon.specs.Starts.{IsTable}
use Rattle.uc_canon.proofs.LeastText.{IsLeastSoFar}
use Rattle.uc_canon.proofs.numbering.least_start.Given as goal

abbrev pub invariant-loop-start : goal.invariant-loop-start
invariant-loop-start l =
    IsLeastSoFar (members_of l.of) l.start l.least.order.items l.least.text.items
    × (l.reach.start ≡ l.start)
    × IsTable (count_of (members_of l.of)) l.reach.start l.reach.starts.items l.reach.numbers.items
