use Rattle.std.proofs.Common.{arith, sym, ap, ◌∙◌, ◌+◌, List}
use Rattle.std.proofs.lemmas.Iterator.{items_from_drains}
use Rattle.std.proofs.lemmas.Iterator.Adapters.{YieldsList-from_vec}
use Rattle.std.proofs.lemmas.List.{map-id}
use Rattle.std.specs.List.{splice}
use Rattle.uc_context.specs.declared.entry.Entry.{Entry}
use Rattle.uc_context.proofs.solving.exchange.Goals as goal

pub returns-clause-ok : goal.returns-clause-ok
returns-clause-ok c =
    let h = c.in_ok-splice.ensures.items in
    let drained = items_from_drains h.1 (h.3.1.0, h.3.1.1, λ _. (h.3.0, h.3.1.2)) (YieldsList-from_vec c.args.new.items h.2.0 (omega (arith, h.2.1))) in
    h.4 ∙ ap (λ (es : List Entry). splice c.args.entries.now.items c.args.place (c.args.place + 1) es) (sym (map-id h.1) ∙ drained)
