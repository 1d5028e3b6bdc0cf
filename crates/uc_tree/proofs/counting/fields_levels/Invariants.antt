use Rattle.std.proofs.Common.{◌≡◌, ◌<◌, ◌-◌, ◌^◌, min, max, drop}
use Rattle.uc_tree.specs.Declarations.{fields_of}
use Rattle.uc_tree.specs.Counts.{fields_levels}
use Rattle.uc_tree.proofs.counting.fields_levels.Given as goal

abbrev pub invariant-loop-fields : goal.invariant-loop-fields
invariant-loop-fields l = (l.levels < 2 ^ 32) × (min (max l.levels (fields_levels (fields_of (drop l.fields-index l.ctors)))) (2 ^ 32 - 1) ≡ min (fields_levels (fields_of l.ctors)) (2 ^ 32 - 1))
