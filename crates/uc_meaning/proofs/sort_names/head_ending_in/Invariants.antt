use Rattle.std.proofs.Common.{◌≡◌, ◌++◌, length}
use Rattle.uc_meaning.specs.Candidates as spec
use Rattle.uc_meaning.specs.Entries.{head_entries}
use Rattle.uc_meaning.specs.EntryViews.{entries_of}
use Rattle.uc_meaning.proofs.sort_names.head_ending_in.Given as goal

abbrev pub invariant-head : goal.invariant-head
invariant-head g l =
    entries_of l.found.items ++ spec.ending_in (head_entries l.head) l.text
    ≡ entries_of l.initial.found.items ++ spec.ending_in (head_entries (g.N.Names.pairs l.names l.fn.sort)) l.text

abbrev pub decreases-head : goal.decreases-head
decreases-head g l = length l.head
