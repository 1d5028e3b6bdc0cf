use Rattle.std.proofs.Common.{◌≡◌}
use Rattle.uc_canon.specs.Members.{Members, items_of}
use Rattle.uc_canon.proofs.ClosedItems.{AreClosed}
use Rattle.uc_canon.proofs.opening.close_component.Given as goal

abbrev pub invariant-loop-item : goal.invariant-loop-item
invariant-loop-item l = (m : Members) → l.items ≡ items_of m → AreClosed l.own m l.item-index l.definitions.items l.declarations.items
