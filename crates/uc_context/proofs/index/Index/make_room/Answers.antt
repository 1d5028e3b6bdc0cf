use Rattle.std.proofs.Common.{arith, ◌∙◌}
use Rattle.uc_context.proofs.index.Index.make_room.Goals as goal

pub returns-clause-kept : goal.returns-clause-kept
returns-clause-kept c = λ es h. record {
  uses = λ x. c.make_room-3.ensures.kept x ∙ h.uses x;
  variables = λ x. c.make_room.ensures.kept x ∙ h.variables x;
  binders = λ x. c.make_room-2.ensures.kept x ∙ h.binders x;
  room_for_variables = omega (arith, h.room_for_variables, c.make_room-3.ensures.bound, c.make_room.ensures.longer, c.in_ok-make_room.ensures.ok);
  room_for_binders = omega (arith, h.room_for_binders, c.make_room-3.ensures.bound, c.make_room-2.ensures.longer, c.in_ok-make_room-2.ensures.ok);
}
