use Rattle.uc_store.proofs.Boxes.{types_step}
use Rattle.uc_store.proofs.builtins.builtin_types.Goals as goal

pub loop-number-preserved : goal.loop-number-preserved
loop-number-preserved c =
    rw c.in_ok-push.ensures.items (types_step c.loop-number.types.items c.in_ok-term.field-0 c.loop-number.number c.loop-number.invariant c.in_ok-term.ensures)
