use Rattle.std.proofs.Common.{arith, rules, refl, List}
use Rattle.std.proofs.lemmas.Result.{err_from_is_err_and}
use Rattle.uc_tree.specs.Types.{Ty, tys_of}
use Rattle.uc_tree.proofs.Sizes.{type_at}
use Rattle.uc_kinds.specs.Flaws.{ty_flaws, tys_flaws}
use Rattle.uc_kinds.proofs.Loops.{room, passes, fails}
use Rattle.uc_kinds.proofs.walk_types.+walk_type.Goals as goal

pub walk_types-walk_type-requires : goal.walk_types-walk_type-requires
walk_types-walk_type-requires g t c κs within = (
  grind (arith, type_at),
  (
    search rules,
    room (ty_flaws (g.A.Arities.arity_of c.args.arities.now) c.args.at) (λ (ts : List Ty). tys_flaws (g.A.Arities.arity_of c.args.arities.now) c.args.at (tys_of ts)) (λ x xs. refl)
        c.args.ts.now c.loop-t.t-index c.t-item.result c.loop-t-test.true c.t-item.is c.loop-t.passed _ _ c.loop-t.invariant.1 c.requires,
  ),
)

pub walk_types-returns-in_err-passed : goal.walk_types-returns-in_err-passed
walk_types-returns-in_err-passed g t c =
    let p = err_from_is_err_and c.from_residual.result c.from_residual.ensures.1 in
    rw (p.1, p.2) (fails (ty_flaws (g.A.Arities.arity_of c.args.arities.now) c.args.at) (λ (ts : List Ty). tys_flaws (g.A.Arities.arity_of c.args.arities.now) c.args.at (tys_of ts)) (λ x xs. refl)
    c.args.ts.now c.loop-t.t-index c.t-item.result c.loop-t-test.true c.t-item.is c.loop-t.passed c.in_err-passed.field-0.0 _ c.in_err-passed.ensures c.loop-t.invariant.0)

pub walk_types-loop-t-preserved : goal.walk_types-loop-t-preserved
walk_types-loop-t-preserved g t c =
    passes (ty_flaws (g.A.Arities.arity_of c.args.arities.now) c.args.at) (λ (ts : List Ty). tys_flaws (g.A.Arities.arity_of c.args.arities.now) c.args.at (tys_of ts)) (λ x xs. refl)
    c.args.ts.now c.loop-t.t-index c.t-item.result c.loop-t-test.true c.t-item.is c.loop-t.passed c.in_ok-passed.passed _ _ c.in_ok-passed.ensures c.loop-t.invariant.0 c.loop-t.invariant.1
