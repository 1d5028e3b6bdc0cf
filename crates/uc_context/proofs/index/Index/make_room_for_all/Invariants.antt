use Rattle.std.proofs.Common.{◌<◌, length, take, All}
use Rattle.uc_context.specs.Entries.{ContextEntries}
use Rattle.uc_context.specs.Indexes.{Indexes}
use Rattle.uc_context.proofs.index.Index.make_room_for_all.Given as goal

abbrev pub invariant-loop-n : goal.invariant-loop-n
invariant-loop-n l = ((es : ContextEntries) → Indexes l.fn.self es → Indexes l.self es) × All (λ n. n < length l.self.numbers) (take l.n-index l.numbers)
