use Rattle.std.proofs.Common.{arith}
use Rattle.ucm.proofs.Streams.{split_on}
use Rattle.ucm.proofs.output.deliver.Goals as goal

pub loop-rest-preserved : goal.loop-rest-preserved
loop-rest-preserved g c = record {
  split = split_on _ _ _ _ _ _ c.loop-rest.invariant.split c.in_ok-rest.ensures.split;
  counts = omega (arith, c.loop-rest.invariant.counts, c.in_ok-rest.ensures.cause.later);
}
