use Rattle.uc_context.proofs.FreshNumbers.{fresh_number-from}
use Rattle.uc_context.proofs.Pushing.{indexed_as}
use Rattle.uc_context.proofs.context.Context.fresh.Goals as goal

pub returns-clause-number : goal.returns-clause-number
returns-clause-number c = fresh_number-from c.args.self.now c.fresh.result (c.fresh.ensures c.args.self.now (indexed_as c.self.inside.index _ c.args.self.now c.self.view_is c.self.invariant.indexed))
