use Rattle.std.proofs.Common.{◌≡◌, max, drop}
use Rattle.uc_scratch.specs.FileViews.{constructors_of}
use Rattle.uc_scratch.specs.FileLevels as spec
use Rattle.uc_scratch.proofs.item_levels.constructors_levels.Given as goal

abbrev pub invariant-loop-constructor : goal.invariant-loop-constructor
invariant-loop-constructor l =
    max l.levels (spec.constructors_levels l.params (constructors_of (drop l.constructor-index l.constructors))) ≡ spec.constructors_levels l.params (constructors_of l.constructors)
