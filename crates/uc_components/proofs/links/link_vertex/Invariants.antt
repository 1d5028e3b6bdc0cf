use Rattle.std.proofs.Common.{◌≡◌, ℕ, ◌<◌, length, get_or}
use Rattle.uc_base.specs.Graph.{row}
use Rattle.uc_components.specs.Links.{AreLinks, IsCovered, Keeps}
use Rattle.uc_components.specs.Rows.{lists}
use Rattle.uc_components.proofs.links.link_vertex.Given as goal

abbrev pub invariant-loop-at : goal.invariant-loop-at
invariant-loop-at l = record {
  links : AreLinks l.graph l.home (length (lists l.fn.links.references)) (lists l.links.references) (lists l.links.referrers);
  covered : (k : ℕ) → k < l.at → IsCovered l.home (lists l.links.references) l.vertex (get_or (row l.graph l.vertex) k 0);
  keeps : Keeps (lists l.fn.links.references) (lists l.links.references);
}
