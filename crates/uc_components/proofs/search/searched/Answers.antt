use Rattle.uc_components.proofs.Finished.{searched_all}
use Rattle.uc_components.proofs.search.searched.Goals as goal

pub returns : goal.returns
returns c = searched_all c.args.graph.now _ _ _ c.loop-vertex.invariant.0 c.loop-vertex.invariant.1 c.loop-vertex.invariant.2 c.loop-vertex-test.false c.len-vertex-end.ensures
