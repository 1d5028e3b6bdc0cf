use Rattle.std.proofs.Common.{ap, ◌∙◌, arith}
use Rattle.uc_branch.specs.Branches.{branch_name}
use Rattle.uc_branch.proofs.Preparing.{are_first}
use Rattle.uc_branch.proofs.branches.Branches.new.Goals as goal

pub invariant_of-result : goal.invariant_of-result
invariant_of-result c = (
  rw (c.in_ok-push.ensures.items, c.in_ok-branches.ensures.items) (are_first c.in_ok-new.field-0 (ap branch_name c.in_ok-new.ensures ∙ c.in_ok-name.ensures.value)),
  omega (arith, c.in_ok-push.ensures.capacity, c.in_ok-branches.ensures.capacity),
)
