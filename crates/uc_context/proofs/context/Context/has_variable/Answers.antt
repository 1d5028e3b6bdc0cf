use Rattle.std.proofs.Common.{◌∙◌}
use Rattle.uc_context.proofs.Looked.{variable_noted}
use Rattle.uc_context.proofs.context.Context.has_variable.Goals as goal

pub returns : goal.returns
returns c = c.is_some.ensures ∙ variable_noted c.args.number c.self.inside.entries.items c.args.self.now c.self.inside.index.variables c.get.result c.self.view_is c.self.invariant.indexed.variables c.get.ensures
