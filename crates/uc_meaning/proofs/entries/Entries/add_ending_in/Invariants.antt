use Rattle.std.proofs.Common.{◌≡◌, ◌++◌}
use Rattle.uc_meaning.specs.Candidates as spec
use Rattle.uc_meaning.specs.EntryViews.{entries_of}
use Rattle.uc_meaning.proofs.entries.Entries.add_ending_in.Given as goal

abbrev pub invariant-loop-name : goal.invariant-loop-name
invariant-loop-name l =
    entries_of l.found.items ++ spec.ending_in (entries_of l.name-iterator) l.text ≡ entries_of l.initial.found.items ++ spec.ending_in l.self l.text
