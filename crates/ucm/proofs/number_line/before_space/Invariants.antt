use Rattle.std.proofs.Common.{◌≡◌, true, take}
use Rattle.std.specs.List.{list_all}
use Rattle.ucm.specs.NumberLine.{is_no_space}
use Rattle.ucm.proofs.number_line.before_space.Given as goal

abbrev pub invariant-loop-i : goal.invariant-loop-i
invariant-loop-i l = list_all is_no_space (take l.i l.text) ≡ true
