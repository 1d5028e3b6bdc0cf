use Rattle.std.proofs.Common.{◌≡◌, suc, ◌-◌, ◌∷◌, take, ap, ◌∙◌, arith}
use Rattle.uc_tree.specs.Terms.{lambda}
use Rattle.uc_meaning.specs.ExprMeanings as spec
use Rattle.uc_signatures.specs.PlacedViews.{placed_of}
use Rattle.uc_bodies.proofs.Scopes.{lambdas_more}
use Rattle.uc_bodies.proofs.params.lambdas_over.Goals as goal

pub loop-left-preserved : goal.loop-left-preserved
loop-left-preserved c =
    let k = c.loop-left.left - 1 in
    let e : suc k ≡ c.loop-left.left = omega arith in
    record {
      within = omega arith;
      outwards =
          lambdas_more c.args.params.now k c.index-params-left.result (placed_of c.loop-left.term) (placed_of c.in_ok-term.term) (omega arith) c.index-params-left.is
          (c.in_ok-term.ensures ∙ ap (λ p. (lambda c.loop-left.term.tree, p ∷ c.loop-left.term.places)) c.param_place.ensures)
          ∙ ap (λ n. spec.lambdas_over (take n c.args.params.now) (placed_of c.loop-left.term)) e
          ∙ c.loop-left.invariant.outwards;
    }
