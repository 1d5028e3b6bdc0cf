use Rattle.std.proofs.Common.{◌≡◌, ℕ, arith, sym, ap, ◌∙◌}
use Rattle.uc_tree.specs.Constructors.{parameters}
use Rattle.uc_tree.proofs.Arrows.{parameters_on}
use Rattle.uc_tree.proofs.Joins.{tys_before, tys_before-none}
use Rattle.uc_tree.proofs.constructors.parameters.Goals as goal

pub loop-left-preserved : goal.loop-left-preserved
loop-left-preserved c =
    rw (c.in_ok-push.ensures.items, c.variable.ensures) (parameters_on c.loop-left.parameters.items c.loop-left.left _ c.loop-left-test.true c.loop-left.invariant)

pub returns : goal.returns
returns c =
    let none_left : 0 ≡ c.loop-left.left = omega (arith, c.loop-left-test.false) in
    sym (tys_before-none c.loop-left.parameters.items) ∙ ap (λ (k : ℕ). tys_before c.loop-left.parameters.items (parameters k)) none_left ∙ c.loop-left.invariant
