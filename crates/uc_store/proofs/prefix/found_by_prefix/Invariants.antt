use Rattle.std.proofs.Common.{◌≡◌, drop}
use Rattle.std.specs.List.{filter}
use Rattle.uc_tree.specs.Lookups.{found_by_prefix}
use Rattle.uc_store.specs.Places.{boxed}
use Rattle.uc_store.specs.Table.{hashes_of}
use Rattle.uc_store.proofs.Prefixes.{more, has_digits}
use Rattle.uc_store.proofs.prefix.found_by_prefix.Given as goal

abbrev pub invariant-loop-entry : goal.invariant-loop-entry
invariant-loop-entry l = found_by_prefix l.digits (hashes_of (boxed l.entries)) ≡ more l.found (filter (has_digits l.digits) (hashes_of (boxed (drop l.entry-index l.entries))))
