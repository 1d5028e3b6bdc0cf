use Rattle.std.proofs.Common.{◌≡◌, [], vec_len}
use Rattle.uc_meaning.specs.Entries.{entries_over}
use Rattle.uc_meaning.specs.EntryViews.{entries_of}
use Rattle.uc_meaning.proofs.entries.Entries.from_names.Given as goal

abbrev pub invariant-loop-name : goal.invariant-loop-name
invariant-loop-name l = entries_over (entries_of l.names.items) l.entries ≡ entries_over (entries_of l.initial.names.items) []

abbrev pub decreases-loop-name : goal.decreases-loop-name
decreases-loop-name l = vec_len l.names
