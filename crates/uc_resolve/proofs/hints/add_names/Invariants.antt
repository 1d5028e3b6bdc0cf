use Rattle.std.proofs.Common.{◌≡◌, ◌++◌, drop}
use Rattle.uc_scratch.specs.TypeLevels.{texts_of}
use Rattle.uc_resolve.proofs.hints.add_names.Given as goal

abbrev pub invariant-loop-i : goal.invariant-loop-i
invariant-loop-i l = l.out.items ++ texts_of (drop l.i l.names) ≡ l.initial.out.items ++ texts_of l.names
