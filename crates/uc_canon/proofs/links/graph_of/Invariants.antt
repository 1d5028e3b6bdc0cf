use Rattle.std.proofs.Common.{◌≡◌, map, take}
use Rattle.uc_canon.specs.Numbering.{links_of}
use Rattle.uc_canon.proofs.links.graph_of.Given as goal

abbrev pub invariant-loop-item : goal.invariant-loop-item
invariant-loop-item l = map (λ row. row.items) l.edges.items ≡ map links_of (take l.item-index l.items)
