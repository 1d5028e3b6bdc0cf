use Rattle.std.proofs.Common.{List, length}
use Rattle.uc_layout.specs.Tokens.{Seen, Ending, IsTokenized}
use Rattle.uc_layout.specs.Scan.{IsBounded, Completes}
use Rattle.uc_layout.proofs.scan.scan.Given as goal

abbrev pub invariant-places : goal.invariant-places
invariant-places l = record {
  reads : (all : List Seen) (e : Ending) → Completes l.tokens l.here all e → IsTokenized l.fn.text all e;
  bounded : IsBounded l.here;
}

abbrev pub decreases-places : goal.decreases-places
decreases-places l = length l.here.rest.now
