use Rattle.std.proofs.Common.{◌≡◌, ◌++◌, drop}
use Rattle.uc_scratch.specs.FileViews.{constructors_of}
use Rattle.uc_meaning.specs.EntryViews.{entries_of}
use Rattle.uc_meaning.specs.FileNames.{ctor_entries}
use Rattle.uc_meaning.proofs.file_names.add_constructors.Given as goal

abbrev pub invariant-loop-constructor : goal.invariant-loop-constructor
invariant-loop-constructor l =
    entries_of l.names.items ++ ctor_entries l.number l.declaration.name l.next (constructors_of (drop l.constructor-index l.declaration.constructors.items))
    ≡ entries_of l.initial.names.items ++ ctor_entries l.number l.declaration.name 0 (constructors_of l.declaration.constructors.items)
