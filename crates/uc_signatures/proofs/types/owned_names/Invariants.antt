use Rattle.std.proofs.Common.{◌≡◌, take}
use Rattle.uc_signatures.proofs.types.owned_names.Given as goal

abbrev pub invariant-loop-i : goal.invariant-loop-i
invariant-loop-i l = l.owned.items ≡ take l.i l.names
