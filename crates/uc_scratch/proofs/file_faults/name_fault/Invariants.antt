use Rattle.std.proofs.Common.{◌≡◌, drop}
use Rattle.uc_scratch.specs.FileViews.{items_of}
use Rattle.uc_scratch.specs.NameFaults.{items_fault, name_fault}
use Rattle.uc_scratch.proofs.file_faults.name_fault.Given as goal

abbrev pub invariant-loop-i : goal.invariant-loop-i
invariant-loop-i l = items_fault l.terms l.kinds (items_of (drop l.i l.items)) ≡ name_fault (items_of l.items)
