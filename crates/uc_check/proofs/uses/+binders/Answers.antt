use Rattle.std.proofs.Common.{◌+◌, ◌<◌, ◌^◌, arith, sym, ap, ◌∙◌, inl, inr}
use Rattle.uc_tree.specs.PatternViews.{pattern_of}
use Rattle.uc_tree.specs.Patterns as patterns
use Rattle.uc_tree.specs.Patterns.{Pattern, patterns_of}
use Rattle.uc_check.proofs.UsesBelow.{alias_fits, cons_fits, snoc_fits, pattern_part, pattern_part_nodes, binders_fit}
use Rattle.uc_check.proofs.uses.+binders.Goals as goal

pub binders_among-binders_in-count-requires : goal.binders_among-binders_in-count-requires
binders_among-binders_in-count-requires t c = (
  omega (arith, pattern_part c.args.patterns.now c.loop-pattern.pattern-index c.pattern-item.result c.loop-pattern-test.true c.pattern-item.is),
  omega (arith, pattern_part_nodes c.args.patterns.now c.loop-pattern.pattern-index c.pattern-item.result c.loop-pattern-test.true c.pattern-item.is, c.requires),
)

pub binders_among-overflow_add-count : goal.binders_among-overflow_add-count
binders_among-overflow_add-count t c =
    omega (arith, binders_fit c.args.patterns.now c.loop-pattern.pattern-index c.pattern-item.result c.loop-pattern.count c.binders_in-count.result c.loop-pattern-test.true c.pattern-item.is c.loop-pattern.invariant c.binders_in-count.ensures c.requires)

pub binders_in-overflow_add-result : goal.binders_in-overflow_add-result
binders_in-overflow_add-result t c =
    omega (arith, alias_fits c.args.pattern.now c.deref.result.now c.binders_in.result (sym c.pattern.view_is ∙ ap pattern_of c.in-As.is ∙ ap patterns.alias (sym c.deref.ensures)) c.binders_in.ensures c.requires)

pub binders_in-overflow_add-result-in-Cons : goal.binders_in-overflow_add-result-in-Cons
binders_in-overflow_add-result-in-Cons t c =
    let fits : c.binders_in-in-Cons.result + c.binders_in-in-Cons-2.result < 2 ^ 32 =
    elim c.in-Cons.is [
      | inl e ↦ cons_fits c.args.pattern.now c.deref-in-Cons.result.now c.deref-in-Cons-2.result.now c.binders_in-in-Cons.result c.binders_in-in-Cons-2.result
          (sym c.pattern.view_is ∙ ap pattern_of e ∙ ap (λ (p : Pattern). patterns.cons p c.in-Cons.second.value) (sym c.deref-in-Cons.ensures) ∙ ap (patterns.cons c.deref-in-Cons.result.now) (sym c.deref-in-Cons-2.ensures))
          c.binders_in-in-Cons.ensures c.binders_in-in-Cons-2.ensures c.requires
      | inr e ↦ snoc_fits c.args.pattern.now c.deref-in-Cons.result.now c.deref-in-Cons-2.result.now c.binders_in-in-Cons.result c.binders_in-in-Cons-2.result
          (sym c.pattern.view_is ∙ ap pattern_of e ∙ ap (λ (p : Pattern). patterns.snoc p c.in-Cons.second.value) (sym c.deref-in-Cons.ensures) ∙ ap (patterns.snoc c.deref-in-Cons.result.now) (sym c.deref-in-Cons-2.ensures))
          c.binders_in-in-Cons.ensures c.binders_in-in-Cons-2.ensures c.requires
    ] in
    omega (arith, fits)
