use Rattle.std.proofs.Common.{◌≡◌, ◌++◌, map, reverse, drop}
use Rattle.uc_meaning.specs.ExprMeanings.{param_binder}
use Rattle.uc_bodies.proofs.params.enter_all.Given as goal

abbrev pub invariant-loop-param : goal.invariant-loop-param
invariant-loop-param l = reverse (map param_binder (drop l.param-index l.params)) ++ l.binders ≡ reverse (map param_binder l.params) ++ l.initial.binders
