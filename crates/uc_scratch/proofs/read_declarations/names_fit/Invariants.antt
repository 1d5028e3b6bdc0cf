use Rattle.std.proofs.Common.{◌≡◌, drop}
use Rattle.uc_scratch.specs.FileViews.{constructors_of}
use Rattle.uc_scratch.specs.ItemGrammar as spec
use Rattle.uc_scratch.proofs.read_declarations.names_fit.Given as goal

abbrev pub invariant-loop-constructor : goal.invariant-loop-constructor
invariant-loop-constructor l = spec.names_fit l.name (constructors_of (drop l.constructor-index l.constructors)) ≡ spec.names_fit l.name (constructors_of l.constructors)
