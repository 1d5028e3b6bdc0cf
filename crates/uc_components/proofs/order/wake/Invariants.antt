use Rattle.std.proofs.Common.{◌≡◌, ℕ, ◌<◌, get_or}
use Rattle.uc_components.specs.Rows.{lists}
use Rattle.uc_components.specs.Order.{stage_of, IsStage, IsKnown}
use Rattle.uc_components.proofs.order.wake.Given as goal

abbrev pub invariant-loop-other : goal.invariant-loop-other
invariant-loop-other l = record {
  stage : IsStage (lists l.links.references) (stage_of l.queue);
  same : l.queue ≡ record l.fn.queue { cursors = l.queue.cursors; ready = l.queue.ready };
  known : (k : ℕ) → k < l.other-index → IsKnown (lists l.links.references) (stage_of l.queue) (get_or l.referrers k 0);
  keeps : (c : ℕ) → IsKnown (lists l.links.references) (stage_of l.fn.queue) c → IsKnown (lists l.links.references) (stage_of l.queue) c;
}
