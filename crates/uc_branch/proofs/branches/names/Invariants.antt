use Rattle.std.proofs.Common.{◌≡◌, ◌^◌, ◌-◌, take, min}
use Rattle.uc_branch.specs.Branches.{names_in}
use Rattle.uc_branch.proofs.branches.names.Given as goal

abbrev pub invariant-loop-branch : goal.invariant-loop-branch
invariant-loop-branch l = l.total ≡ min (names_in (take l.branch-index l.branches)) (2 ^ 64 - 1)
