use Rattle.std.proofs.Common.{◌≡◌, ◌≤◌, take}
use Rattle.std.specs.Vec.{vec_capacity}
use Rattle.uc_branch.proofs.branch.copied_past.Given as goal

abbrev pub invariant-loop-head : goal.invariant-loop-head
invariant-loop-head l = (l.heads.items ≡ take l.head-index l.past) × (32 ≤ vec_capacity l.heads)
