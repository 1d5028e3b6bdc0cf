use Rattle.std.proofs.Common.{◌≡◌, ◌++◌, drop}
use Rattle.uc_tree.specs.References.{stored_among}
use Rattle.uc_tree.proofs.references.stored_among.Given as goal

abbrev pub invariant-loop-target : goal.invariant-loop-target
invariant-loop-target l = l.refs.items ++ stored_among (drop l.target-index l.targets) ≡ stored_among l.targets
