use Rattle.std.proofs.Common.{◌≤◌, length}
use Rattle.ucm.specs.Ends.{IsSplit}
use Rattle.ucm.proofs.output.deliver.Given as goal

abbrev pub invariant-loop-rest : goal.invariant-loop-rest
invariant-loop-rest g l = record {
  split : IsSplit l.text l.rest g.O.Sink.tells (g.O.Sink.taken l.initial.output) (g.O.Sink.taken l.output);
  counts : g.O.Sink.faults l.initial.output ≤ g.O.Sink.faults l.output;
}

abbrev pub decreases-loop-rest : goal.decreases-loop-rest
decreases-loop-rest g l = length l.rest
