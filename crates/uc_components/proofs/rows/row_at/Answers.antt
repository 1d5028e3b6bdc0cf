use Rattle.std.proofs.Common.{◌<◌, length, ap, sym, ◌∙◌, arith, []}
use Rattle.std.proofs.lemmas.List.{length-map, get_or-map}
use Rattle.uc_components.proofs.rows.row_at.Goals as goal

pub returns : goal.returns
returns g c = c.as_slice.ensures.value ∙ ap (λ r. r.items) c.index.ensures ∙ sym (get_or-map (λ r. r.items) c.args.rows.now.items c.args.at _ [] (omega (arith, c.requires, length-map c.args.rows.now.items (λ r. r.items))))
