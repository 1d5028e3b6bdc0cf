use Rattle.std.proofs.Common.{◌≡◌, ℕ, ◌<◌, length}
use Rattle.uc_base.specs.Graph.{Edge}
use Rattle.uc_components.specs.Links.{AreLinks, IsCovered}
use Rattle.uc_components.specs.Rows.{lists}
use Rattle.uc_components.proofs.links.linked.Given as goal

abbrev pub invariant-loop-vertex : goal.invariant-loop-vertex
invariant-loop-vertex l = record {
  links : AreLinks l.graph l.home l.count (lists l.links.references) (lists l.links.referrers);
  covered : (u v : ℕ) → u < l.vertex → Edge l.graph u v → IsCovered l.home (lists l.links.references) u v;
}
