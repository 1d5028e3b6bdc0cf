use Rattle.uc_components.proofs.Pushed.{push_lists}
use Rattle.std.proofs.Common.{arith, ◌<◌, length}
use Rattle.std.proofs.lemmas.List.{length-map}
use Rattle.uc_components.proofs.rows.push_at.Goals as goal

pub returns : goal.returns
returns g c = push_lists c.args.rows.now.items c.args.at c.args.item c.push.new.self _ (omega (arith, c.requires, length-map c.args.rows.now.items (λ row. row.items))) c.index_mut.ensures.value c.in_ok-push.ensures.items
