use Rattle.std.proofs.Common.{◌≡◌, ◌++◌}
use Rattle.std.specs.List.{filter}
use Rattle.uc_meaning.specs.Meanings.{is_constructor}
use Rattle.uc_meaning.specs.EntryViews.{entries_of}
use Rattle.uc_meaning.proofs.entries.Entries.constructors.Given as goal

abbrev pub invariant-loop-name : goal.invariant-loop-name
invariant-loop-name l = entries_of l.found.items ++ filter (λ e. is_constructor e.1) (entries_of l.name-iterator) ≡ filter (λ e. is_constructor e.1) l.self
