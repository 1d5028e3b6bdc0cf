use Rattle.std.proofs.Common.{◌≡◌, Some, map, take}
use Rattle.uc_tree.specs.Replacing.{by_members, replaced}
use Rattle.uc_canon.proofs.opening.open_component.Given as goal

abbrev pub invariant-loop-item : goal.invariant-loop-item
invariant-loop-item l = map Some l.opened.items ≡ map (replaced (by_members l.members.items)) (take l.item-index l.item-items)
