use Rattle.std.proofs.Common.{◌+◌, ◌*◌}
use Rattle.uc_context.specs.Opens.{open_size, opens_size, opens_of}
use Rattle.uc_subtyping.specs.Instances.{all_at}
use Rattle.uc_subtyping.specs.Instantiation.{SolvesInstances}
use Rattle.uc_subtyping.proofs.Pending.{Pending, left_at}
use Rattle.uc_subtyping.proofs.instantiating.+instantiate.Given as goal

abbrev pub decreases-instantiate : goal.decreases-instantiate
decreases-instantiate l = 4 * open_size l.with.now + 3

abbrev pub decreases-instantiate_by_form : goal.decreases-instantiate_by_form
decreases-instantiate_by_form l = 4 * open_size l.with.now + 2

abbrev pub decreases-instantiate_below : goal.decreases-instantiate_below
decreases-instantiate_below l = 4 * open_size l.body.now + 4

abbrev pub decreases-instantiate_above : goal.decreases-instantiate_above
decreases-instantiate_above l = 4 * open_size l.body.now + 4

abbrev pub decreases-instantiate_part : goal.decreases-instantiate_part
decreases-instantiate_part l = 4 * open_size l.part.now + 4

abbrev pub decreases-instantiate_each : goal.decreases-instantiate_each
decreases-instantiate_each l = 4 * opens_size (opens_of l.types.now) + 1

abbrev pub invariant-instantiate_each-loop-at : goal.invariant-instantiate_each-loop-at
invariant-instantiate_each-loop-at l =
    Pending (SolvesInstances l.initial.context (all_at l.side l.numbers (opens_of l.types))) l.context (left_at l.side l.numbers l.types l.at)
