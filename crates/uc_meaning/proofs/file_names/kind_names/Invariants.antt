use Rattle.std.proofs.Common.{◌≡◌, ◌++◌, drop}
use Rattle.uc_scratch.specs.FileViews.{items_of}
use Rattle.uc_meaning.specs.EntryViews.{entries_of}
use Rattle.uc_meaning.specs.FileNames.{kind_entries}
use Rattle.uc_meaning.proofs.file_names.kind_names.Given as goal

abbrev pub invariant-loop-item : goal.invariant-loop-item
invariant-loop-item l = entries_of l.names.items ++ kind_entries l.number (items_of (drop l.item-index l.items)) ≡ kind_entries 0 (items_of l.items)
