use Rattle.std.proofs.Common.{drop, ap, ◌∙◌}
use Rattle.std.proofs.lemmas.List.{drop-drop}
use Rattle.uc_bodies.proofs.locals.leave_all.Goals as goal

pub loop-preserved : goal.loop-preserved
loop-preserved c = c.pop.ensures ∙ ap (drop 1) c.loop.invariant ∙ drop-drop 1 c.loop.counter c.args.binders.now
