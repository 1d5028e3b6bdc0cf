use Rattle.std.proofs.Common.{arith}
use Rattle.uc_tree.proofs.Arrows.{arrows_on}
use Rattle.uc_tree.proofs.constructors.arrows_from.Goals as goal

pub loop-left-preserved : goal.loop-left-preserved
loop-left-preserved c = (
  omega (arith, c.loop-left.invariant.0),
  rw (c.in_ok-ty.ensures, c.in_ok-copy.ensures)
      (arrows_on c.args.fields.now c.loop-left.left c.index-fields-left.result c.loop-left.ty _ c.loop-left-test.true (omega (arith, c.loop-left-test.true, c.loop-left.invariant.0)) c.index-fields-left.is c.loop-left.invariant.1),
)
