use Rattle.std.proofs.Common.{arith}
use Rattle.uc_base.proofs.Segments.{no_dot, first_dot_at}
use Rattle.uc_base.proofs.name.first_segment.Goals as goal

pub returns-then-c-eq46-clause-segments : goal.returns-then-c-eq46-clause-segments
returns-then-c-eq46-clause-segments c = first_dot_at _ _ c.loop-i-test.true c.loop-i.invariant c.if-c-eq46.true

pub returns-clause-segments : goal.returns-clause-segments
returns-clause-segments c = no_dot _ (λ k l e. c.loop-i.invariant k (omega arith) e)
