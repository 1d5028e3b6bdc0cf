use Rattle.uc_context.proofs.FreshNumbers.{pair_new}
use Rattle.uc_context.proofs.context.Context.solve_with_arrow.Goals as goal

pub solve_with-requires-clause-new : goal.solve_with-requires-clause-new
solve_with-requires-clause-new c = pair_new c.args.self.now c.fresh-from.result c.next_fresh-to.result c.next_fresh-to.ensures
