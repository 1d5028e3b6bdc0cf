use Rattle.std.proofs.Common.{◌∙◌}
use Rattle.uc_context.specs.Entries.{is_unsolved}
use Rattle.uc_context.proofs.Looked.{unsolved_tests, looked_at, looked_nowhere}
use Rattle.uc_context.proofs.context.Context.is_unsolved.Goals as goal

pub returns-in-Some : goal.returns-in-Some
returns-in-Some c = c.is_unsolved.ensures ∙ looked_at c.args.which (is_unsolved c.args.which) (unsolved_tests c.args.which) c.args.self.now c.standing.ensures.in_order c.in-Some.field-0-0 c.in-Some.e.now c.in-Some.ensures.stands

pub returns-in-None : goal.returns-in-None
returns-in-None c = looked_nowhere c.args.which (is_unsolved c.args.which) (unsolved_tests c.args.which) c.args.self.now c.standing.ensures.in_order c.in-None.ensures.stands
