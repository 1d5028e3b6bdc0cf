use Rattle.std.proofs.Common.{◌≡◌, ℕ, List, length}
use Rattle.uc_meaning.specs.Candidates.{ends_in}
use Rattle.uc_meaning.specs.Suffixes.{ending_at, told}
use Rattle.uc_meaning.proofs.suffixes.Suffixes.add.Given as goal

abbrev pub invariant-bytes : goal.invariant-bytes
invariant-bytes l = (w : List ℕ) → told (ends_in w l.rest) l.target (ending_at l.self w) ≡ told (ends_in w l.name) l.target (ending_at l.initial.self w)

abbrev pub decreases-bytes : goal.decreases-bytes
decreases-bytes l = length l.rest
