use Rattle.std.proofs.Common.{◌≡◌, ◌++◌, drop}
use Rattle.uc_scratch.specs.TypeExprs.{operand, type_size}
use Rattle.uc_scratch.specs.TypeViews.{type_operand, fronts_before}
use Rattle.uc_scratch.specs.TypeLevels.{type_front}
use Rattle.uc_scratch.proofs.type_scope.+add_quantified.Given as goal

abbrev pub decreases-add_quantified : goal.decreases-add_quantified
decreases-add_quantified l = type_size l.t.now

abbrev pub invariant-loop-front : goal.invariant-loop-front
invariant-loop-front l =
    l.scope ++ type_front (fronts_before (drop l.front-index l.t-inside.fronts.items) (operand (type_operand l.t-inside.last))) ≡ l.initial.scope ++ type_front l.t
