use Rattle.std.proofs.Common.{◌≡◌, true, length}
use Rattle.uc_scratch.specs.Nesting.{fits}
use Rattle.uc_scratch.proofs.DeclarationSteps.{ConstructorsSoFar}
use Rattle.uc_scratch.proofs.read_declarations.read_constructors.Given as goal

abbrev pub invariant-constructors : goal.invariant-constructors
invariant-constructors l = record { so_far : ConstructorsSoFar l.tokens l.rest l.constructors.items; fitting : fits l.depth l.rest ≡ true }

abbrev pub decreases-constructors : goal.decreases-constructors
decreases-constructors l = length l.rest
