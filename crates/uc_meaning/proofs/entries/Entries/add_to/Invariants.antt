use Rattle.std.proofs.Common.{◌≡◌, ℕ, List}
use Rattle.uc_meaning.specs.Candidates.{ending_in}
use Rattle.uc_meaning.specs.EntryViews.{entries_of}
use Rattle.uc_meaning.specs.Suffixes.{ending_at, told_all}
use Rattle.uc_meaning.proofs.entries.Entries.add_to.Given as goal

abbrev pub invariant-loop-name : goal.invariant-loop-name
invariant-loop-name l = (w : List ℕ)
    → told_all (ending_in (entries_of l.name-iterator) w) (ending_at l.suffixes w) ≡ told_all (ending_in l.self w) (ending_at l.initial.suffixes w)
