use Rattle.std.proofs.Common.{◌≡◌, map, take}
use Rattle.uc_tree.specs.declared.item.Item.TheVariants.{Term}
use Rattle.uc_canon.proofs.members.definition_items.Given as goal

abbrev pub invariant-loop-member : goal.invariant-loop-member
invariant-loop-member l = l.items.items ≡ map Term (take l.member-index l.members)
