use Rattle.std.proofs.Common.{◌≡◌, ◌≤◌, length}
use Rattle.uc_canon.specs.Reading.{number_from}
use Rattle.uc_canon.proofs.read_basics.read_digits.Given as goal

abbrev pub invariant-loop-bytes : goal.invariant-loop-bytes
invariant-loop-bytes l = (number_from l.most l.number l.bytes ≡ number_from l.most 0 l.fn.bytes) × (l.number ≤ l.most)

abbrev pub decreases-loop-bytes : goal.decreases-loop-bytes
decreases-loop-bytes l = length l.bytes
