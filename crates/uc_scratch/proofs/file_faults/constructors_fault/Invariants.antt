use Rattle.std.proofs.Common.{◌≡◌, drop}
use Rattle.uc_scratch.specs.FileViews.{constructors_of}
use Rattle.uc_scratch.specs.NameSets.{SameNames}
use Rattle.uc_scratch.specs.NameFaults as spec
use Rattle.uc_scratch.proofs.file_faults.constructors_fault.Given as goal

abbrev pub invariant-loop-constructor : goal.invariant-loop-constructor
invariant-loop-constructor l =
    (spec.constructors_fault l.terms l.of (constructors_of (drop l.constructor-index l.constructors)) ≡ spec.constructors_fault l.initial.terms l.of (constructors_of l.constructors))
    × SameNames (spec.constructors_before l.of (constructors_of (drop l.constructor-index l.constructors)) l.terms) (spec.constructors_before l.of (constructors_of l.constructors) l.initial.terms)
