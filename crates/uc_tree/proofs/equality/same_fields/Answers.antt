use Rattle.std.proofs.Common.{rules, arith, length, ap, sym, ◌∙◌}
use Rattle.uc_tree.specs.Types.{tys_of}
use Rattle.uc_tree.specs.Declarations.{fields_of}
use Rattle.uc_tree.proofs.Lists.{same_on, same_at, same_whole, length-fields_of, get_or-fields_of}
use Rattle.uc_tree.proofs.equality.same_fields.Goals as goal

pub returns-then-cs-ds : goal.returns-then-cs-ds
returns-then-cs-ds c =
    (λ h. search rules, λ e. absurd (c.if-cs-ds.true (sym (length-fields_of c.args.cs.now) ∙ ap length e ∙ length-fields_of c.args.ds.now)))

pub loop-i-preserved : goal.loop-i-preserved
loop-i-preserved c =
    same_on (fields_of c.args.cs.now) (fields_of c.args.ds.now) c.loop-i.i (tys_of c.index-cs-i.result.items) (tys_of c.index-ds-i.result.items)
    (omega (arith, c.loop-i-test.true, length-fields_of c.args.cs.now)) (omega (arith, c.loop-i-test.true, c.if-cs-ds.false, length-fields_of c.args.ds.now))
    (get_or-fields_of c.args.cs.now c.loop-i.i c.index-cs-i.result c.loop-i-test.true c.index-cs-i.is)
    (get_or-fields_of c.args.ds.now c.loop-i.i c.index-ds-i.result (omega (arith, c.loop-i-test.true, c.if-cs-ds.false)) c.index-ds-i.is)
    (sym (ap tys_of c.deref.ensures.value) ∙ c.same_types.ensures.0 (search rules) ∙ ap tys_of c.deref-in-loop-i.ensures.value) c.loop-i.invariant

pub returns-then-not-same_types : goal.returns-then-not-same_types
returns-then-not-same_types c = (
  λ h. search rules,
  λ e.
      let h = c.same_types.ensures.1 (ap tys_of c.deref.ensures.value ∙ same_at (fields_of c.args.cs.now) (fields_of c.args.ds.now) c.loop-i.i
      (tys_of c.index-cs-i.result.items) (tys_of c.index-ds-i.result.items) (omega (arith, c.loop-i-test.true, length-fields_of c.args.cs.now))
      (get_or-fields_of c.args.cs.now c.loop-i.i c.index-cs-i.result c.loop-i-test.true c.index-cs-i.is)
      (get_or-fields_of c.args.ds.now c.loop-i.i c.index-ds-i.result (omega (arith, c.loop-i-test.true, c.if-cs-ds.false)) c.index-ds-i.is) e
      ∙ sym (ap tys_of c.deref-in-loop-i.ensures.value)) in
      search rules,
)

pub returns : goal.returns
returns c = (
  λ h. same_whole (fields_of c.args.cs.now) (fields_of c.args.ds.now) c.loop-i.i (length-fields_of c.args.cs.now ∙ c.if-cs-ds.false ∙ sym (length-fields_of c.args.ds.now))
      (omega (arith, c.loop-i-test.false, length-fields_of c.args.cs.now)) c.loop-i.invariant,
  λ e. search rules,
)
