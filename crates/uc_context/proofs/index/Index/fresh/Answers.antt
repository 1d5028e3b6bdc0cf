use Rattle.uc_context.proofs.Noting.{fresh_by_uses}
use Rattle.uc_context.proofs.index.Index.fresh.Goals as goal

pub returns : goal.returns
returns c = λ es h. fresh_by_uses c.args.self.now.numbers es c.least_unused.result h.uses c.least_unused.ensures.unused c.least_unused.ensures.least
