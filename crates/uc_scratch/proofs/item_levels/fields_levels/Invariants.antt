use Rattle.std.proofs.Common.{◌≡◌, ◌+◌, max, drop}
use Rattle.uc_scratch.specs.TypeViews.{type_atoms}
use Rattle.uc_scratch.specs.FileLevels as spec
use Rattle.uc_scratch.proofs.item_levels.fields_levels.Given as goal

abbrev pub invariant-loop-field : goal.invariant-loop-field
invariant-loop-field l = max l.deepest (l.above + spec.fields_levels l.result_levels (type_atoms (drop l.field-index l.fields))) ≡ spec.fields_levels l.result_levels (type_atoms l.fields)
