use Rattle.std.proofs.Common.{◌≡◌, ◌++◌, ◌+◌, ◌-◌, ◌≤◌, length}
use Rattle.ucm.specs.Program.{text_limit}
use Rattle.ucm.proofs.input.read_text.Given as goal

abbrev pub invariant-loop-text : goal.invariant-loop-text
invariant-loop-text g l = record {
  short : length l.text.items ≤ text_limit;
  read : g.I.Source.tells → g.I.Source.left l.initial.input ≡ l.text.items ++ g.I.Source.left l.input;
  counts : g.I.Source.faults l.initial.input ≤ g.I.Source.faults l.input;
}

abbrev pub decreases-loop-text : goal.decreases-loop-text
decreases-loop-text g l = text_limit + 1 - length l.text.items
