use Rattle.ucm.specs.Ends.{without_memory}
use Rattle.ucm.proofs.Endings.{memory_text}
use Rattle.ucm.proofs.run.refuse.Goals as goal

pub returns-clause-ends : goal.returns-clause-ends
returns-clause-ends g c = without_memory (rw memory_text c.conclude-in-Err.ensures.ends)
