use Rattle.std.proofs.Common.{◌<◌, length, ap, sym, ◌∙◌, arith, [], set}
use Rattle.std.proofs.lemmas.List.{length-map, get_or-map, map-set}
use Rattle.uc_components.specs.Rows.{lists}
use Rattle.uc_components.proofs.rows.take_row.Goals as goal

pub returns-clause-items : goal.returns-clause-items
returns-clause-items g c = ap (λ r. r.items) c.replace.ensures.value ∙ ap (λ r. r.items) c.index_mut.ensures.value
    ∙ sym (get_or-map (λ r. r.items) c.args.rows.now.items c.args.at _ [] (omega (arith, c.requires, length-map c.args.rows.now.items (λ r. r.items))))

pub returns-clause-rows : goal.returns-clause-rows
returns-clause-rows g c = map-set (λ r. r.items) c.args.rows.now.items c.args.at c.replace.new.dest
    ∙ ap (λ xs. set (lists c.args.rows.now) c.args.at xs) (ap (λ r. r.items) c.replace.ensures.after ∙ c.new.ensures.items)
