use Rattle.std.proofs.Common.{ap}
use Rattle.uc_context.specs.Entries.{number_of}
use Rattle.uc_context.proofs.Noting.{no_use_no_binder}
use Rattle.uc_context.proofs.index.Index.place_before.Goals as goal

pub returns-in_default-clause-binder : goal.returns-in_default-clause-binder
returns-in_default-clause-binder c =
    λ h. no_use_no_binder c.args.self.now.numbers c.args.e.now c.in-Binder.x c.uses.result c.args.rest.now (ap number_of c.in-Binder.is) c.requires c.uses.ensures.uses c.if-uses-gt0.false
