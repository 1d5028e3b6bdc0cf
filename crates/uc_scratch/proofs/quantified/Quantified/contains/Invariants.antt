use Rattle.std.proofs.Common.{◌≡◌, map, drop}
use Rattle.uc_scratch.specs.TypeLevels.{some_quantifies}
use Rattle.uc_scratch.proofs.quantified.Quantified.contains.Given as goal

abbrev pub invariant-loop-variables : goal.invariant-loop-variables
invariant-loop-variables l = some_quantifies (map (λ x. x.now) (drop l.variables-index l.variables-items)) l.text ≡ some_quantifies (map (λ x. x.now) l.variables-items) l.text
