use Rattle.std.proofs.Common.{◌≡◌, ℕ, ◌<◌, length, false}
use Rattle.uc_components.specs.Rows.{lists}
use Rattle.uc_components.specs.Searched.{flag}
use Rattle.uc_components.specs.Order.{stage_of, IsStage, IsKnown}
use Rattle.uc_components.proofs.order.begun.Given as goal

abbrev pub invariant-loop-part : goal.invariant-loop-part
invariant-loop-part l = record {
  stage : IsStage (lists l.links.references) (stage_of l.queue);
  known : (k : ℕ) → k < l.part → IsKnown (lists l.links.references) (stage_of l.queue) k;
  new : (c : ℕ) → flag l.queue.placed.items c ≡ false;
  home : l.queue.home.items ≡ l.fn.home.items;
  count : length l.queue.placed.items ≡ l.count;
}
