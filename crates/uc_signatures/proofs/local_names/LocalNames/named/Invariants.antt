use Rattle.std.proofs.Common.{◌≡◌, ◌++◌, ◌≤◌, take, length}
use Rattle.uc_signatures.specs.LocalViews.{names_of}
use Rattle.uc_signatures.specs.PlacedViews.{named}
use Rattle.uc_signatures.proofs.local_names.LocalNames.named.Given as goal

abbrev pub invariant-loop-left : goal.invariant-loop-left
invariant-loop-left l =
    (l.scope ++ named (names_of (take l.left l.self-inside.locals.items)) ≡ named (names_of l.self-inside.locals.items)) × (l.left ≤ length l.self-inside.locals.items)

abbrev pub decreases-loop-left : goal.decreases-loop-left
decreases-loop-left l = l.left
