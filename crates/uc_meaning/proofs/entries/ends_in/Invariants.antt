use Rattle.std.proofs.Common.{◌≡◌, length}
use Rattle.uc_meaning.specs.Candidates as spec
use Rattle.uc_meaning.proofs.entries.ends_in.Given as goal

abbrev pub invariant-bytes : goal.invariant-bytes
invariant-bytes l = spec.ends_in l.written l.rest ≡ spec.ends_in l.written l.whole

abbrev pub decreases-bytes : goal.decreases-bytes
decreases-bytes l = length l.rest
