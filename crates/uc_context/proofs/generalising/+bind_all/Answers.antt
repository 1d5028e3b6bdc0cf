use Rattle.std.proofs.Common.{arith, ap, ◌∙◌, map}
use Rattle.std.proofs.lemmas.List.{take_all}
use Rattle.uc_context.specs.Opens.{opens_of}
use Rattle.uc_context.specs.Generalising.{all_bound_at}
use Rattle.uc_context.proofs.OpenLists.{each_bound_at-opens_of}
use Rattle.uc_context.proofs.generalising.+bind_all.Goals as goal

pub bind_each-returns : goal.bind_each-returns
bind_each-returns t c =
    ap opens_of (c.loop-t.invariant ∙ ap (map (all_bound_at c.args.numbers.now c.args.k)) (take_all c.loop-t.t-index c.args.ts.now (omega arith)))
    ∙ each_bound_at-opens_of c.args.numbers.now c.args.k c.args.ts.now
