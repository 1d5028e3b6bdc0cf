use Rattle.std.proofs.Common.{◌≡◌, drop}
use Rattle.std.specs.List.{find}
use Rattle.uc_branch.specs.Deleting.{uses_lost}
use Rattle.uc_branch.specs.Losses.{among_lost}
use Rattle.uc_branch.proofs.deleting.Loss.first_user.Given as goal

abbrev pub invariant-loop-pair : goal.invariant-loop-pair
invariant-loop-pair g l = find (uses_lost (g.K.Known.direct l.known) (among_lost l.self)) l.pairs ≡ find (uses_lost (g.K.Known.direct l.known) (among_lost l.self)) (drop l.pair-index l.pairs)
