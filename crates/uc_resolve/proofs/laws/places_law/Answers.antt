use Rattle.uc_resolve.proofs.FilePlaces.{file_placed, node_placed}
use Rattle.uc_resolve.proofs.laws.places_law.Goals as goal

pub returns-clause-meanings : goal.returns-clause-meanings
returns-clause-meanings c = file_placed

pub returns-clause-nodes : goal.returns-clause-nodes
returns-clause-nodes c = node_placed
