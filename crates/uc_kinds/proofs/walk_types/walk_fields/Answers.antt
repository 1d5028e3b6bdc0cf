use Rattle.std.proofs.Common.{rules, refl}
use Rattle.std.proofs.lemmas.Result.{err_from_is_err_and}
use Rattle.uc_tree.specs.Types.{Ty, tys_of}
use Rattle.uc_tree.specs.Declarations.{fields_of}
use Rattle.uc_kinds.specs.declared.position.Position.TheVariants.{Outside}
use Rattle.uc_kinds.specs.Flaws.{tys_flaws, fields_flaws}
use Rattle.uc_kinds.proofs.Loops.{room, passes, fails}
use Rattle.uc_kinds.proofs.walk_types.walk_fields.Goals as goal

pub walk_types-requires : goal.walk_types-requires
walk_types-requires g c = rw c.deref.ensures.value (room (λ fields. tys_flaws (g.A.Arities.arity_of c.args.arities.now) Outside (tys_of fields.items)) (λ ctors. fields_flaws (g.A.Arities.arity_of c.args.arities.now) (fields_of ctors)) (λ x xs. refl)
    c.args.ctors.now c.loop-fields.fields-index c.fields-item.result c.loop-fields-test.true c.fields-item.is c.loop-fields.passed _ _ c.loop-fields.invariant.1 c.requires)

pub returns-in_err-passed : goal.returns-in_err-passed
returns-in_err-passed g c =
    let p = err_from_is_err_and c.from_residual.result c.from_residual.ensures.1 in
    rw (p.1, p.2) (fails (λ fields. tys_flaws (g.A.Arities.arity_of c.args.arities.now) Outside (tys_of fields.items)) (λ ctors. fields_flaws (g.A.Arities.arity_of c.args.arities.now) (fields_of ctors)) (λ x xs. refl)
    c.args.ctors.now c.loop-fields.fields-index c.fields-item.result c.loop-fields-test.true c.fields-item.is c.loop-fields.passed c.in_err-passed.field-0.0 _ (rw c.deref.ensures.value at c.in_err-passed.ensures) c.loop-fields.invariant.0)

pub loop-fields-preserved : goal.loop-fields-preserved
loop-fields-preserved g c =
    passes (λ fields. tys_flaws (g.A.Arities.arity_of c.args.arities.now) Outside (tys_of fields.items)) (λ ctors. fields_flaws (g.A.Arities.arity_of c.args.arities.now) (fields_of ctors)) (λ x xs. refl)
    c.args.ctors.now c.loop-fields.fields-index c.fields-item.result c.loop-fields-test.true c.fields-item.is c.loop-fields.passed c.in_ok-passed.passed _ _ (rw c.deref.ensures.value at c.in_ok-passed.ensures) c.loop-fields.invariant.0 c.loop-fields.invariant.1
