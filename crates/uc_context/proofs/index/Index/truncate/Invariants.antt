use Rattle.std.proofs.Common.{◌≤◌, take}
use Rattle.uc_context.specs.Indexes.{Indexes}
use Rattle.uc_context.proofs.index.Index.truncate.Given as goal

abbrev pub invariant-loop-at : goal.invariant-loop-at
invariant-loop-at l = (l.place ≤ l.at) × Indexes l.self (take l.at l.entries)
