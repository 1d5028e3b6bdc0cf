use Rattle.std.proofs.Common.{List, Bor, map, take, sym, ap, ◌∙◌}
use Rattle.std.proofs.lemmas.List.{take-map}
use Rattle.uc_scratch.specs.declared.written.Written.{Written}
use Rattle.uc_scratch.proofs.quantified.Quantified.leave.Goals as goal

pub returns : goal.returns
returns c =
    let now = λ (ws : Bor (List Written)). ws.now in
    ap (map now) c.truncate.ensures.items ∙ sym (take-map now c.args.depth c.self.inside.quantifiers.items) ∙ ap (take c.args.depth) c.self.view_is
