use Rattle.std.proofs.Common.{◌≡◌, ℕ, List, [], length}
use Rattle.std.specs.List.{count_by}
use Rattle.std.specs.Prelude.{not}
use Rattle.uc_components.specs.Rows.{lists}
use Rattle.uc_components.specs.Order.{stage_of, IsStage, AllKnown, IsOrderUpTo, ArePlaced}
use Rattle.uc_components.proofs.order.ordered.Given as goal

abbrev pub invariant-loop-components : goal.invariant-loop-components
invariant-loop-components l = record {
  stage : IsStage (lists l.links.references) (stage_of l.queue);
  known : AllKnown (lists l.links.references) (stage_of l.queue);
  home : l.queue.home.items ≡ l.fn.home.items;
  count : length l.queue.placed.items ≡ l.fn.count;
  order : (before : List ℕ) × IsOrderUpTo l.graph [] (lists l.components) before × ArePlaced l.fn.home.items l.queue.placed.items before;
}

abbrev pub decreases-loop-components : goal.decreases-loop-components
decreases-loop-components l = count_by not l.queue.placed.items
