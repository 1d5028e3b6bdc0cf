use Rattle.std.proofs.Common.{◌≡◌}
use Rattle.uc_context.specs.Contexts.{type_under}
use Rattle.uc_context.proofs.Following.{front_place}
use Rattle.uc_context.proofs.context.Context.followed.Given as goal

abbrev pub invariant-loop-next : goal.invariant-loop-next
invariant-loop-next l = type_under l.self l.front ≡ type_under l.self l.of

abbrev pub decreases-loop-next : goal.decreases-loop-next
decreases-loop-next l = front_place l.self l.front
