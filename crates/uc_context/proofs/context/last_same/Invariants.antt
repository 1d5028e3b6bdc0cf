use Rattle.std.proofs.Common.{◌≡◌, take}
use Rattle.uc_context.specs.Entries.{is_same_entry}
use Rattle.uc_context.specs.Index.{last_place}
use Rattle.uc_context.proofs.context.last_same.Given as goal

abbrev pub invariant-loop-at : goal.invariant-loop-at
invariant-loop-at l = last_place (is_same_entry l.entry) (take l.at l.entries) ≡ last_place (is_same_entry l.entry) l.entries
