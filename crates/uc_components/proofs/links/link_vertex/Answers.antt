use Rattle.std.proofs.Common.{◌≡◌, ◌<◌, ◌≤◌, ℕ, List, length, arith}
use Rattle.uc_base.specs.Graph.{row}
use Rattle.uc_components.proofs.Linking.{edge_here, links_len, keeps_trans, covered_more, covered_at}
use Rattle.uc_components.proofs.links.link_vertex.Goals as goal

pub link_reference-requires-clause-target : goal.link_reference-requires-clause-target
link_reference-requires-clause-target c =
    let lt : c.loop-at.at < length (row c.args.graph.now c.args.vertex) = omega (arith, c.loop-at-test.true, c.degree-at-end.ensures) in
    omega (arith, c.requires.home, c.requires.range c.args.vertex c.reference-target.result (edge_here _ _ _ lt c.reference-target.ensures))

pub loop-at-preserved : goal.loop-at-preserved
loop-at-preserved c = record {
  links = links_len _ _ _ _ _ _ c.loop-at.invariant.links.len c.in_ok-link_reference.ensures.links;
  covered = covered_more _ _ _ _ _ _ _ c.in_ok-link_reference.ensures.keeps c.loop-at.invariant.covered c.reference-target.ensures c.in_ok-link_reference.ensures.covered;
  keeps = keeps_trans _ _ _ c.loop-at.invariant.keeps c.in_ok-link_reference.ensures.keeps;
}

pub returns-clause-covered : goal.returns-clause-covered
returns-clause-covered c = λ v ed.
    let le : length (row c.args.graph.now c.args.vertex) ≤ c.loop-at.at = omega (arith, c.loop-at-test.false, c.degree-at-end.ensures) in
    covered_at _ _ _ _ _ v c.loop-at.invariant.covered le ed
