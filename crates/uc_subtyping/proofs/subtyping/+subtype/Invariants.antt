use Rattle.std.proofs.Common.{◌+◌, ◌*◌}
use Rattle.uc_context.specs.Counts.{open_node_count}
use Rattle.uc_context.specs.Opens.{opens_of}
use Rattle.uc_subtyping.specs.Subtyping.{SolvesSubtypes}
use Rattle.uc_subtyping.proofs.Counting.{quantifiers, quantifiers_of}
use Rattle.uc_subtyping.proofs.Falling.{weight, rank, types_rank, lists_rank, part_rank}
use Rattle.uc_subtyping.proofs.Pairs.{PendingPairs}
use Rattle.uc_subtyping.proofs.SubtypeArms.{opens_left}
use Rattle.uc_subtyping.proofs.subtyping.+subtype.Given as goal

abbrev pub decreases-subtype : goal.decreases-subtype
decreases-subtype l = types_rank l.context.now l.lower.now l.upper.now + 3

abbrev pub decreases-subtype_by_form : goal.decreases-subtype_by_form
decreases-subtype_by_form l = types_rank l.context.now l.lower.now l.upper.now + 2

abbrev pub decreases-subtype_right : goal.decreases-subtype_right
decreases-subtype_right l = rank (weight l.context.now (quantifiers l.lower.now + quantifiers l.body.now) + 1) (8 * (open_node_count l.lower.now + open_node_count l.body.now)) + 4

abbrev pub decreases-subtype_left : goal.decreases-subtype_left
decreases-subtype_left l = rank (weight l.context.now (quantifiers l.body.now + quantifiers l.upper.now) + 1) (8 * (open_node_count l.body.now + open_node_count l.upper.now)) + 4

abbrev pub decreases-subtype_part : goal.decreases-subtype_part
decreases-subtype_part l = part_rank l.context.now l.lower.now l.upper.now + 4

abbrev pub decreases-subtype_each : goal.decreases-subtype_each
decreases-subtype_each l = lists_rank l.context.now (opens_of l.lower.now) (opens_of l.upper.now) + 6

abbrev pub invariant-subtype_each-loop-at : goal.invariant-subtype_each-loop-at
invariant-subtype_each-loop-at l =
    PendingPairs (SolvesSubtypes l.initial.context (opens_of l.lower) (opens_of l.upper)) l.initial.context
    (weight l.initial.context (quantifiers_of (opens_of l.lower) + quantifiers_of (opens_of l.upper))) l.context (opens_left l.lower l.at) (opens_left l.upper l.at)
