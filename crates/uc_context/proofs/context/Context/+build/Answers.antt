use Rattle.std.proofs.Common.{arith, refl, sym, ap, ◌∙◌}
use Rattle.std.proofs.lemmas.Result.{err_from_is_err_and}
use Rattle.uc_context.specs.OpenViews.{open_of}
use Rattle.uc_context.specs.Contexts.{type_under, types_under}
use Rattle.uc_context.specs.Opens.{bound, rigid, existential, unit, opens_of}
use Rattle.uc_context.proofs.Building.{
  no_level,
  no_room,
  as_bound,
  as_rigid,
  as_existential,
  as_quantified,
  as_arrow,
  as_unit,
  as_tuple,
  as_applied,
  leaf_within,
  quantified_within,
  arrow_within,
  tuple_within,
  applied_within,
  quantified_past,
  argument_past,
  result_past,
  tuple_past,
  applied_past,
  list_past,
  list_more,
  list_ends,
}
use Rattle.uc_context.proofs.context.Context.+build.Goals as goal
use Rattle.uc_context.proofs.context.Context.+build.Goals.{build-then-levels-eq0-via-then-levels-eq0, build-then-levels-eq0-via-else-levels-eq0+then-room-eq0}

pub build-returns-in-Bound-clause-ok : goal.build-returns-in-Bound-clause-ok
build-returns-in-Bound-clause-ok t c =
    leaf_within c.args.levels c.args.room.now (omega arith) (omega arith) _ _ (bound c.in-Bound.i)
    (as_bound c.args.self.now c.args.of.now c.followed.result.now c.followed.ensures.same c.in-Bound.i (sym c.behind-self.view_is ∙ ap open_of c.in-Bound.is)) c.bound.ensures refl refl

pub build-returns-in-Rigid-clause-ok : goal.build-returns-in-Rigid-clause-ok
build-returns-in-Rigid-clause-ok t c =
    leaf_within c.args.levels c.args.room.now (omega arith) (omega arith) _ _ (rigid c.in-Rigid.x)
    (as_rigid c.args.self.now c.args.of.now c.followed.result.now c.followed.ensures.same c.in-Rigid.x (sym c.behind-self.view_is ∙ ap open_of c.in-Rigid.is)) c.rigid.ensures refl refl

pub build-returns-in-Exists-clause-ok : goal.build-returns-in-Exists-clause-ok
build-returns-in-Exists-clause-ok t c =
    leaf_within c.args.levels c.args.room.now (omega arith) (omega arith) _ _ (existential c.in-Exists.x)
    (as_existential c.args.self.now c.args.of.now c.followed.result.now c.followed.ensures.same c.in-Exists.x c.followed.ensures.settled (sym c.behind-self.view_is ∙ ap open_of c.in-Exists.is)) c.existential.ensures refl refl

pub build-returns-in-Unit-clause-ok : goal.build-returns-in-Unit-clause-ok
build-returns-in-Unit-clause-ok t c =
    leaf_within c.args.levels c.args.room.now (omega arith) (omega arith) _ _ unit
    (as_unit c.args.self.now c.args.of.now c.followed.result.now c.followed.ensures.same (sym c.behind-self.view_is ∙ ap open_of c.in-Unit.is)) c.unit.ensures refl refl

pub build-returns-then-levels-eq0-clause-err : goal.build-returns-then-levels-eq0-clause-err
build-returns-then-levels-eq0-clause-err t c =
    elim c.then-levels-eq0.branch [
      | build-then-levels-eq0-via-then-levels-eq0 w ↦ no_level c.args.levels c.args.room.now _ w.if-levels-eq0.true
      | build-then-levels-eq0-via-else-levels-eq0+then-room-eq0 w ↦ no_room c.args.levels c.args.room.now _ w.if-room-eq0.true
    ]

pub build-returns-in_err-t-in-Forall-clause-err : goal.build-returns-in_err-t-in-Forall-clause-err
build-returns-in_err-t-in-Forall-clause-err t c =
    let p = err_from_is_err_and c.from_residual.result c.from_residual.ensures.1 in
    rw (p.1, p.2) (quantified_past c.args.levels c.args.room.now (omega arith) (omega arith) _ _ (type_under c.args.self.now c.deref.result.now)
    (as_quantified c.args.self.now c.args.of.now c.followed.result.now c.followed.ensures.same _ c.deref.result.now (sym c.behind-self.view_is ∙ ap open_of c.in-Forall.is) c.deref.ensures) c.in_err-t-in-Forall.ensures.err)

pub build-returns-in_ok-forall-in-Forall-clause-ok : goal.build-returns-in_ok-forall-in-Forall-clause-ok
build-returns-in_ok-forall-in-Forall-clause-ok t c =
    quantified_within c.args.levels c.args.room.now (omega arith) (omega arith) _ _ (type_under c.args.self.now c.deref.result.now) c.in_ok-t-in-Forall.t c.build.new.room
    (as_quantified c.args.self.now c.args.of.now c.followed.result.now c.followed.ensures.same _ c.deref.result.now (sym c.behind-self.view_is ∙ ap open_of c.in-Forall.is) c.deref.ensures)
    c.in_ok-forall-in-Forall.ensures c.in_ok-t-in-Forall.ensures.ok

pub build-returns-in_err-a-in-Arrow-clause-err : goal.build-returns-in_err-a-in-Arrow-clause-err
build-returns-in_err-a-in-Arrow-clause-err t c =
    let p = err_from_is_err_and c.from_residual-in_err-a-in-Arrow.result c.from_residual-in_err-a-in-Arrow.ensures.1 in
    rw (p.1, p.2) (argument_past c.args.levels c.args.room.now (omega arith) (omega arith) _ _ (type_under c.args.self.now c.deref-in-Arrow.result.now) (type_under c.args.self.now c.in-Arrow.b.value)
    (as_arrow c.args.self.now c.args.of.now c.followed.result.now c.followed.ensures.same _ c.in-Arrow.b.value c.deref-in-Arrow.result.now c.in-Arrow.b.value (sym c.behind-self.view_is ∙ ap open_of c.in-Arrow.is) c.deref-in-Arrow.ensures refl) c.in_err-a-in-Arrow.ensures.err)

pub build-returns-in_err-b-in-Arrow-clause-err : goal.build-returns-in_err-b-in-Arrow-clause-err
build-returns-in_err-b-in-Arrow-clause-err t c =
    let p = err_from_is_err_and c.from_residual-in_err-b-in-Arrow.result c.from_residual-in_err-b-in-Arrow.ensures.1 in
    rw (p.1, p.2) (result_past c.args.levels c.args.room.now (omega arith) (omega arith) _ _ (type_under c.args.self.now c.deref-in-Arrow.result.now) (type_under c.args.self.now c.deref-in-Arrow-2.result.now) c.in_ok-a-in-Arrow.a c.build-in-Arrow.new.room
    (as_arrow c.args.self.now c.args.of.now c.followed.result.now c.followed.ensures.same _ _ c.deref-in-Arrow.result.now c.deref-in-Arrow-2.result.now (sym c.behind-self.view_is ∙ ap open_of c.in-Arrow.is) c.deref-in-Arrow.ensures c.deref-in-Arrow-2.ensures) c.in_ok-a-in-Arrow.ensures.ok c.in_err-b-in-Arrow.ensures.err)

pub build-returns-in_ok-arrow-in-Arrow-clause-ok : goal.build-returns-in_ok-arrow-in-Arrow-clause-ok
build-returns-in_ok-arrow-in-Arrow-clause-ok t c =
    arrow_within c.args.levels c.args.room.now (omega arith) (omega arith) _ _ (type_under c.args.self.now c.deref-in-Arrow.result.now) (type_under c.args.self.now c.deref-in-Arrow-2.result.now) c.in_ok-a-in-Arrow.a c.in_ok-b-in-Arrow.b c.build-in-Arrow.new.room c.build-in-Arrow-2.new.room
    (as_arrow c.args.self.now c.args.of.now c.followed.result.now c.followed.ensures.same _ _ c.deref-in-Arrow.result.now c.deref-in-Arrow-2.result.now (sym c.behind-self.view_is ∙ ap open_of c.in-Arrow.is) c.deref-in-Arrow.ensures c.deref-in-Arrow-2.ensures) c.in_ok-arrow-in-Arrow.ensures c.in_ok-a-in-Arrow.ensures.ok c.in_ok-b-in-Arrow.ensures.ok

pub build-returns-in_err-ts-in-Tuple-clause-err : goal.build-returns-in_err-ts-in-Tuple-clause-err
build-returns-in_err-ts-in-Tuple-clause-err t c =
    let p = err_from_is_err_and c.from_residual-in_err-ts-in-Tuple.result c.from_residual-in_err-ts-in-Tuple.ensures.1 in
    rw (p.1, p.2) (tuple_past c.args.levels c.args.room.now (omega arith) (omega arith) _ _ (types_under c.args.self.now (opens_of c.deref-in-Tuple.result.now))
    (as_tuple c.args.self.now c.args.of.now c.followed.result.now c.followed.ensures.same _ c.deref-in-Tuple.result.now (sym c.behind-self.view_is ∙ ap open_of c.in-Tuple.is) c.deref-in-Tuple.ensures.value) c.in_err-ts-in-Tuple.ensures.err)

pub build-returns-in_err-ts-in-Data-clause-err : goal.build-returns-in_err-ts-in-Data-clause-err
build-returns-in_err-ts-in-Data-clause-err t c =
    let p = err_from_is_err_and c.from_residual-in_err-ts-in-Data.result c.from_residual-in_err-ts-in-Data.ensures.1 in
    rw (p.1, p.2) (applied_past c.args.levels c.args.room.now (omega arith) (omega arith) _ _ c.in-Data.x (types_under c.args.self.now (opens_of c.deref-in-Data.result.now))
    (as_applied c.args.self.now c.args.of.now c.followed.result.now c.followed.ensures.same c.in-Data.x _ c.deref-in-Data.result.now (sym c.behind-self.view_is ∙ ap open_of c.in-Data.is) c.deref-in-Data.ensures.value) c.in_err-ts-in-Data.ensures.err)

pub build-returns-in_ok-ts-in-Tuple-clause-ok : goal.build-returns-in_ok-ts-in-Tuple-clause-ok
build-returns-in_ok-ts-in-Tuple-clause-ok t c =
    tuple_within c.args.levels c.args.room.now (omega arith) (omega arith) _ _ (types_under c.args.self.now (opens_of c.deref-in-Tuple.result.now)) (opens_of c.in_ok-ts-in-Tuple.ts.items) c.build_all.new.room
    (as_tuple c.args.self.now c.args.of.now c.followed.result.now c.followed.ensures.same _ c.deref-in-Tuple.result.now (sym c.behind-self.view_is ∙ ap open_of c.in-Tuple.is) c.deref-in-Tuple.ensures.value) c.tuple.ensures c.in_ok-ts-in-Tuple.ensures.ok

pub build-returns-in_ok-ts-in-Data-clause-ok : goal.build-returns-in_ok-ts-in-Data-clause-ok
build-returns-in_ok-ts-in-Data-clause-ok t c =
    applied_within c.args.levels c.args.room.now (omega arith) (omega arith) _ _ c.in-Data.x (types_under c.args.self.now (opens_of c.deref-in-Data.result.now)) (opens_of c.in_ok-ts-in-Data.ts.items) c.build_all-in-Data.new.room
    (as_applied c.args.self.now c.args.of.now c.followed.result.now c.followed.ensures.same c.in-Data.x _ c.deref-in-Data.result.now (sym c.behind-self.view_is ∙ ap open_of c.in-Data.is) c.deref-in-Data.ensures.value) c.data.ensures c.in_ok-ts-in-Data.ensures.ok

pub build_all-returns-in_err-build-clause-err : goal.build_all-returns-in_err-build-clause-err
build_all-returns-in_err-build-clause-err t c =
    let p = err_from_is_err_and c.from_residual.result c.from_residual.ensures.1 in
    rw (p.1, p.2) (list_past c.args.self.now c.args.ts.now c.loop-t.t-index c.t-item.result c.loop-t-test.true c.t-item.is c.args.levels c.args.room.now c.loop-t.room c.loop-t.invariant.1 _ c.in_err-build.ensures.err)

pub build_all-loop-t-preserved : goal.build_all-loop-t-preserved
build_all-loop-t-preserved t c =
    list_more c.args.self.now c.args.ts.now c.loop-t.t-index c.t-item.result c.loop-t-test.true c.t-item.is c.args.levels c.args.room.now c.loop-t.room c.loop-t.invariant.1
    c.loop-t.built.items _ c.in_ok-build.field-0 c.build.new.room c.loop-t.invariant.0 c.loop-t.invariant.2 c.in_ok-build.ensures.ok c.in_ok-push.ensures.items

pub build_all-returns-clause-ok : goal.build_all-returns-clause-ok
build_all-returns-clause-ok t c =
    list_ends c.args.self.now c.args.ts.now c.loop-t.built.items c.loop-t.t-index c.args.levels c.args.room.now c.loop-t.room c.loop-t-test.false c.loop-t.invariant.0 c.loop-t.invariant.1 c.loop-t.invariant.2
