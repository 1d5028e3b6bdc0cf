use Rattle.std.proofs.Common.{arith, ap, ◌∙◌, map}
use Rattle.std.proofs.lemmas.List.{take_all}
use Rattle.uc_context.specs.Opens.{opens_of}
use Rattle.uc_context.specs.Variables.{opened_at}
use Rattle.uc_context.proofs.OpenLists.{opened_all_at-opens_of}
use Rattle.uc_context.proofs.variables.+open_at.Goals as goal

pub open_all_at-returns : goal.open_all_at-returns
open_all_at-returns t c =
    ap opens_of (c.loop-t.invariant ∙ ap (map (opened_at c.args.k c.args.by.now)) (take_all c.loop-t.t-index c.args.ts.now (omega arith))) ∙ opened_all_at-opens_of c.args.k c.args.by.now c.args.ts.now
