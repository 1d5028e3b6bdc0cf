use Rattle.std.proofs.Common.{◌≡◌, ◌*◌, ◌+◌, ◌≤◌, take, map}
use Rattle.uc_context.specs.Contexts.{type_under, types_under}
use Rattle.uc_context.specs.Counts.{opens_node_count, levels_of_opens}
use Rattle.uc_context.specs.Opens.{opens_of}
use Rattle.uc_context.proofs.context.Context.+build.Given as goal

abbrev pub decreases-build : goal.decreases-build
decreases-build l = 2 * l.levels

abbrev pub decreases-build_all : goal.decreases-build_all
decreases-build_all l = 2 * l.levels + 1

abbrev pub invariant-build_all-loop-t : goal.invariant-build_all-loop-t
invariant-build_all-loop-t l =
    (l.built.items ≡ map (type_under l.self) (take l.t-index l.ts))
    × (l.room + opens_node_count (types_under l.self (opens_of (take l.t-index l.ts))) ≡ l.fn.room)
    × (levels_of_opens (types_under l.self (opens_of (take l.t-index l.ts))) ≤ l.levels)
