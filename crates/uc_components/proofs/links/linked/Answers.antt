use Rattle.uc_components.proofs.Linking.{links_len, vertices_more}
use Rattle.uc_components.proofs.links.linked.Goals as goal

pub loop-vertex-preserved : goal.loop-vertex-preserved
loop-vertex-preserved c = record {
  links = links_len _ _ _ _ _ _ c.loop-vertex.invariant.links.len c.in_ok-link_vertex.ensures.links;
  covered = vertices_more _ _ _ _ _ c.in_ok-link_vertex.ensures.keeps c.loop-vertex.invariant.covered c.in_ok-link_vertex.ensures.covered;
}
