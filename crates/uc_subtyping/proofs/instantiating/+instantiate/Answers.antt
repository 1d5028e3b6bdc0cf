use Rattle.std.proofs.Common.{◌≡◌, ℕ, ◌+◌, ◌<◌, false, List, [], ◌∷◌, ◌++◌, length, get_or, inl, inr, arith, refl, sym, ap, subst, append_assoc, ◌∙◌}
use Rattle.std.specs.List.{list_any}
use Rattle.std.proofs.lemmas.List.{get_or_default}
use Rattle.std.proofs.lemmas.Result.{err_from_is_err_and, on_ok_weaker, IfErr-weaker}
use Rattle.uc_base.specs.declared.fault.Fault.TheVariants.{IllTyped}
use Rattle.uc_base.specs.declared.place.At.TheVariants.{Nowhere}
use Rattle.uc_context.specs.declared.entry.Entry.TheVariants.{Rigid, Exists, Mark}
use Rattle.uc_context.specs.Entries.{ContextEntries, is_variable}
use Rattle.uc_context.specs.Opens.{Open, bound, rigid, existential, quantified, arrow, unit, tuple, applied, opens_of, open_size, opens_size}
use Rattle.uc_context.specs.Counts.{open_node_count}
use Rattle.uc_context.specs.OpenViews.{open_of}
use Rattle.uc_context.specs.Variables.{opened_at, mentions}
use Rattle.uc_context.proofs.Sizes.{open_at}
use Rattle.uc_subtyping.specs.Ends.{IsRefused}
use Rattle.uc_subtyping.specs.declared.side.Side.{Side}
use Rattle.uc_subtyping.specs.declared.side.Side.TheVariants.{Below, Above}
use Rattle.uc_subtyping.specs.Instances.{Instances, no_instances, instance, other, all_at}
use Rattle.uc_subtyping.specs.Instantiation.{has_rule_by_form, SolvesInstance, SolvesInstances, instance_ill}
use Rattle.uc_subtyping.specs.Outcomes.{done}
use Rattle.uc_subtyping.proofs.Arms.{solved_before, no_form, by_reaching, arrow_pending, ListCall, tuple_call, data_call, count_nodes, by_copy, rigid_in_hand, exists_in_hand, monotypes_rigid, monotypes_exists, rigid_apart, exists_apart, below_ends, above_ends, below_refused, above_refused}
use Rattle.uc_subtyping.proofs.InOrder.{fresh_unused, no_variable, follows_mark}
use Rattle.uc_subtyping.proofs.Opened.{size-opened}
use Rattle.uc_subtyping.proofs.Pending.{Pending, ill_refused, on_ok_always, pending_all, pending_one, pending_next, pending_refused, pending_done, pending_as, one_in_hand, one_done, one_refused, one_large, pending_start, left_at, left_more, left_none}
use Rattle.uc_subtyping.specs.Readiness.{has_here}
use Rattle.uc_subtyping.proofs.instantiating.+instantiate.Goals as goal

pub instantiate-returns-then-not-is_unsolved-clause-err : goal.instantiate-returns-then-not-is_unsolved-clause-err
instantiate-returns-then-not-is_unsolved-clause-err t c =
    ill_refused (SolvesInstance c.args.side c.args.context.now c.args.which c.args.with.now) (IllTyped Nowhere) refl
    (instance_ill (solved_before c.args.context.now c.args.which c.args.with.now (sym c.is_unsolved.ensures ∙ c.if-not-is_unsolved.true)))

pub instantiate-returns-then-can_solve-clause-ok : goal.instantiate-returns-then-can_solve-clause-ok
instantiate-returns-then-can_solve-clause-ok t c =
    by_copy c.args.side c.args.context.now c.solve.new.self c.args.which c.args.with.now c.in_ok-with.with (sym c.is_unsolved.ensures ∙ c.if-not-is_unsolved.false) (sym c.can_solve.ensures.value ∙ c.if-can_solve.true) c.in_ok-with.ensures
    c.in_ok-solve.ensures.solved

pub instantiate_above-push-requires-2 : goal.instantiate_above-push-requires-2
instantiate_above-push-requires-2 t c =
    ap (list_any (is_variable c.fresh-number.result)) c.in_ok-push.ensures.ok
    ∙ follows_mark c.args.context.now c.fresh-number.result c.requires.in_order (fresh_unused c.args.context.now c.fresh-number.result c.fresh-number.ensures.number)

pub instantiate_above-instantiate-requires : goal.instantiate_above-instantiate-requires
instantiate_above-instantiate-requires t c =
    let n : ℕ = c.fresh-number.result in
    let at : c.push-2.new.self ≡ c.args.context.now ++ Mark n ∷ Exists n ∷ [] =
    c.in_ok-push-2.ensures.ok ∙ ap (λ (cs : ContextEntries). cs ++ Exists n ∷ []) c.in_ok-push.ensures.ok ∙ append_assoc c.args.context.now (Mark n ∷ []) (Exists n ∷ []) in
    let is : c.in_ok-opened.opened ≡ opened_at 0 (existential n) c.args.body.now = c.in_ok-opened.ensures ∙ ap (λ (v : Open). opened_at 0 v c.args.body.now) c.existential.ensures in
    let size : open_size c.in_ok-opened.opened ≡ open_size c.args.body.now = ap open_size is ∙ size-opened (existential n) refl 0 c.args.body.now in (
      omega (arith, size),
      (
        monotypes_exists c.args.context.now c.push-2.new.self n at c.requires.monotypes,
        (
          exists_in_hand c.args.context.now n c.args.body.now c.requires.in_order c.requires.in_hand c.fresh-number.ensures.number c.push-2.new.self c.in_ok-opened.opened at is,
          exists_apart c.args.context.now c.args.which n c.args.body.now c.in_ok-opened.opened c.fresh-number.ensures.number c.requires.unsolved is c.requires.apart,
        ),
      ),
    )

pub instantiate_above-returns-in_err-instantiate-clause-err : goal.instantiate_above-returns-in_err-instantiate-clause-err
instantiate_above-returns-in_err-instantiate-clause-err t c =
    let n : ℕ = c.fresh-number.result in
    let at : c.push-2.new.self ≡ c.args.context.now ++ Mark n ∷ Exists n ∷ [] =
    c.in_ok-push-2.ensures.ok ∙ ap (λ (cs : ContextEntries). cs ++ Exists n ∷ []) c.in_ok-push.ensures.ok ∙ append_assoc c.args.context.now (Mark n ∷ []) (Exists n ∷ []) in
    let is : c.in_ok-opened.opened ≡ opened_at 0 (existential n) c.args.body.now = c.in_ok-opened.ensures ∙ ap (λ (v : Open). opened_at 0 v c.args.body.now) c.existential.ensures in
    let p = err_from_is_err_and c.from_residual-in_err-instantiate.result c.from_residual-in_err-instantiate.ensures.1 in
    rw (p.1, p.2) (above_refused c.args.context.now c.push-2.new.self c.args.which n c.args.body.now c.in_ok-opened.opened c.requires.unsolved c.fresh-number.ensures.number _ at is c.in_err-instantiate.ensures.err)

pub instantiate_above-returns-clause-ok : goal.instantiate_above-returns-clause-ok
instantiate_above-returns-clause-ok t c =
    let n : ℕ = c.fresh-number.result in
    let at : c.push-2.new.self ≡ c.args.context.now ++ Mark n ∷ Exists n ∷ [] =
    c.in_ok-push-2.ensures.ok ∙ ap (λ (cs : ContextEntries). cs ++ Exists n ∷ []) c.in_ok-push.ensures.ok ∙ append_assoc c.args.context.now (Mark n ∷ []) (Exists n ∷ []) in
    let is : c.in_ok-opened.opened ≡ opened_at 0 (existential n) c.args.body.now = c.in_ok-opened.ensures ∙ ap (λ (v : Open). opened_at 0 v c.args.body.now) c.existential.ensures in
    subst (λ (cs : ContextEntries). SolvesInstance Above c.args.context.now c.args.which (quantified c.args.body.now) (done cs)) (sym c.drop_from.ensures)
    (above_ends c.args.context.now c.push-2.new.self c.args.which n c.args.body.now c.in_ok-opened.opened c.requires.unsolved c.fresh-number.ensures.number (done c.instantiate.new.context) at is c.in_ok-instantiate.ensures.ok)

pub instantiate_below-push-requires : goal.instantiate_below-push-requires
instantiate_below-push-requires t c = no_variable c.args.context.now c.fresh-number.result (fresh_unused c.args.context.now c.fresh-number.result c.fresh-number.ensures.number)

pub instantiate_below-instantiate-requires : goal.instantiate_below-instantiate-requires
instantiate_below-instantiate-requires t c =
    let n : ℕ = c.fresh-number.result in
    let is : c.in_ok-opened.opened ≡ opened_at 0 (rigid n) c.args.body.now = c.in_ok-opened.ensures ∙ ap (λ (v : Open). opened_at 0 v c.args.body.now) c.rigid.ensures in
    let size : open_size c.in_ok-opened.opened ≡ open_size c.args.body.now = ap open_size is ∙ size-opened (rigid n) refl 0 c.args.body.now in (
      omega (arith, size),
      (
        monotypes_rigid c.args.context.now c.push.new.self n c.in_ok-push.ensures.ok c.requires.monotypes,
        (
          rigid_in_hand c.args.context.now n c.args.body.now c.requires.in_order c.requires.in_hand c.fresh-number.ensures.number c.push.new.self c.in_ok-opened.opened c.in_ok-push.ensures.ok is,
          rigid_apart c.args.which n c.args.body.now c.in_ok-opened.opened is c.requires.apart,
        ),
      ),
    )

pub instantiate_below-returns-in_err-instantiate-clause-err : goal.instantiate_below-returns-in_err-instantiate-clause-err
instantiate_below-returns-in_err-instantiate-clause-err t c =
    let n : ℕ = c.fresh-number.result in
    let is : c.in_ok-opened.opened ≡ opened_at 0 (rigid n) c.args.body.now = c.in_ok-opened.ensures ∙ ap (λ (v : Open). opened_at 0 v c.args.body.now) c.rigid.ensures in
    let p = err_from_is_err_and c.from_residual-in_err-instantiate.result c.from_residual-in_err-instantiate.ensures.1 in
    rw (p.1, p.2) (below_refused c.args.context.now c.push.new.self c.args.which n c.args.body.now c.in_ok-opened.opened c.requires.unsolved c.fresh-number.ensures.number _ c.in_ok-push.ensures.ok is c.in_err-instantiate.ensures.err)

pub instantiate_below-returns-clause-ok : goal.instantiate_below-returns-clause-ok
instantiate_below-returns-clause-ok t c =
    let n : ℕ = c.fresh-number.result in
    let is : c.in_ok-opened.opened ≡ opened_at 0 (rigid n) c.args.body.now = c.in_ok-opened.ensures ∙ ap (λ (v : Open). opened_at 0 v c.args.body.now) c.rigid.ensures in
    subst (λ (cs : ContextEntries). SolvesInstance Below c.args.context.now c.args.which (quantified c.args.body.now) (done cs)) (sym c.drop_from.ensures)
    (below_ends c.args.context.now c.push.new.self c.args.which n c.args.body.now c.in_ok-opened.opened c.requires.unsolved c.fresh-number.ensures.number (done c.instantiate.new.context) c.in_ok-push.ensures.ok is c.in_ok-instantiate.ensures.ok)

pub instantiate_part-returns-in_err-with-clause-err : goal.instantiate_part-returns-in_err-with-clause-err
instantiate_part-returns-in_err-with-clause-err t c =
    let p = err_from_is_err_and c.from_residual.result c.from_residual.ensures.1 in
    rw (p.1, p.2) (one_large c.args.side c.args.context.now c.args.which c.args.part.now _ c.in_err-with.ensures.err)

pub instantiate_part-instantiate-requires : goal.instantiate_part-instantiate-requires
instantiate_part-instantiate-requires t c =
    let put = c.in_ok-with.ensures.ok.0 in
    let small = c.in_ok-with.ensures.ok.1 in (
      omega (arith, ap open_size put ∙ c.requires.ready.same_size c.args.which c.args.part.now has_here),
      (c.requires.monotypes, (one_in_hand c.args.side c.args.context.now c.args.which c.args.part.now c.in_ok-with.with put small c.requires.ready, ap (mentions c.args.which) put ∙ c.requires.ready.apart c.args.which c.args.part.now c.args.which c.args.part.now has_here has_here)),
    )

pub instantiate_part-returns-in_err-instantiate-clause-err : goal.instantiate_part-returns-in_err-instantiate-clause-err
instantiate_part-returns-in_err-instantiate-clause-err t c =
    let p = err_from_is_err_and c.from_residual-in_err-instantiate.result c.from_residual-in_err-instantiate.ensures.1 in
    rw (p.1, p.2) (one_refused c.args.side c.args.context.now c.args.which c.args.part.now c.in_ok-with.with c.in_ok-with.ensures.ok.0 c.in_ok-with.ensures.ok.1 _ c.in_err-instantiate.ensures.err)

pub instantiate_part-returns-clause-ok : goal.instantiate_part-returns-clause-ok
instantiate_part-returns-clause-ok t c =
    one_done c.args.side c.args.context.now c.args.which c.args.part.now c.in_ok-with.with c.in_ok-with.ensures.ok.0 c.in_ok-with.ensures.ok.1 c.instantiate.new.context c.in_ok-instantiate.ensures.ok

pub instantiate_by_form-returns-then-not-is_after-clause-err : goal.instantiate_by_form-returns-then-not-is_after-clause-err
instantiate_by_form-returns-then-not-is_after-clause-err t c =
    ill_refused (SolvesInstance c.args.side c.args.context.now c.args.which c.args.with.now) (IllTyped Nowhere) refl
    (instance_ill (no_form c.args.context.now c.args.which c.args.with.now (existential c.in-Exists.other) (sym c.with.view_is ∙ ap open_of c.in-Exists.is) c.requires.no_solution (sym c.is_after.ensures ∙ c.if-not-is_after.true)))

pub instantiate_by_form-returns-else-not-is_after-clause-ok : goal.instantiate_by_form-returns-else-not-is_after-clause-ok
instantiate_by_form-returns-else-not-is_after-clause-ok t c =
    on_ok_always c.solve.result (SolvesInstance c.args.side c.args.context.now c.args.which c.args.with.now (done c.solve.new.self))
    (by_reaching c.args.side c.args.context.now c.args.which c.args.with.now c.requires.in_order c.requires.monotypes c.requires.unsolved c.requires.in_hand c.requires.apart c.requires.no_solution c.solve.new.self c.in-Exists.other c.existential.result (sym c.with.view_is ∙ ap open_of c.in-Exists.is) (sym c.is_after.ensures ∙ c.if-not-is_after.false) c.existential.ensures c.solve.ensures.solved)

pub instantiate_by_form-instantiate_part-requires : goal.instantiate_by_form-instantiate_part-requires
instantiate_by_form-instantiate_part-requires t c =
    let is : c.args.with.now ≡ arrow c.deref.result.now c.in-Arrow.b.value = sym c.with.view_is ∙ ap open_of c.in-Arrow.is ∙ ap (λ (v : Open). arrow v c.in-Arrow.b.value) (sym c.deref.ensures) in
    let first : Pending (SolvesInstance c.args.side c.args.context.now c.args.which c.args.with.now) c.solve_with_arrow.new.self (instance c.other.result c.in_ok-argument-in-Arrow.argument c.deref.result.now (instance c.args.side c.in_ok-argument-in-Arrow.result c.in-Arrow.b.value no_instances)) =
    subst (λ (r : Side). Pending (SolvesInstance c.args.side c.args.context.now c.args.which c.args.with.now) c.solve_with_arrow.new.self (instance r c.in_ok-argument-in-Arrow.argument c.deref.result.now (instance c.args.side c.in_ok-argument-in-Arrow.result c.in-Arrow.b.value no_instances))) (sym c.other.ensures)
    (arrow_pending c.args.side c.args.context.now c.args.which c.args.with.now c.requires.in_order c.requires.monotypes c.requires.unsolved c.requires.in_hand c.requires.apart c.requires.no_solution c.solve_with_arrow.new.self c.in_ok-argument-in-Arrow.argument c.in_ok-argument-in-Arrow.result c.deref.result.now c.in-Arrow.b.value is c.in_ok-argument-in-Arrow.ensures.numbers c.in_ok-argument-in-Arrow.ensures.ok) in
    (omega (arith, ap open_size is), (first.monotypes, pending_one (SolvesInstance c.args.side c.args.context.now c.args.which c.args.with.now) c.other.result c.in_ok-argument-in-Arrow.argument c.deref.result.now (instance c.args.side c.in_ok-argument-in-Arrow.result c.in-Arrow.b.value no_instances) c.solve_with_arrow.new.self first))

pub instantiate_by_form-returns-in_err-instantiate_part-in-Arrow-clause-err : goal.instantiate_by_form-returns-in_err-instantiate_part-in-Arrow-clause-err
instantiate_by_form-returns-in_err-instantiate_part-in-Arrow-clause-err t c =
    let is : c.args.with.now ≡ arrow c.deref.result.now c.in-Arrow.b.value = sym c.with.view_is ∙ ap open_of c.in-Arrow.is ∙ ap (λ (v : Open). arrow v c.in-Arrow.b.value) (sym c.deref.ensures) in
    let first : Pending (SolvesInstance c.args.side c.args.context.now c.args.which c.args.with.now) c.solve_with_arrow.new.self (instance c.other.result c.in_ok-argument-in-Arrow.argument c.deref.result.now (instance c.args.side c.in_ok-argument-in-Arrow.result c.in-Arrow.b.value no_instances)) =
    subst (λ (r : Side). Pending (SolvesInstance c.args.side c.args.context.now c.args.which c.args.with.now) c.solve_with_arrow.new.self (instance r c.in_ok-argument-in-Arrow.argument c.deref.result.now (instance c.args.side c.in_ok-argument-in-Arrow.result c.in-Arrow.b.value no_instances))) (sym c.other.ensures)
    (arrow_pending c.args.side c.args.context.now c.args.which c.args.with.now c.requires.in_order c.requires.monotypes c.requires.unsolved c.requires.in_hand c.requires.apart c.requires.no_solution c.solve_with_arrow.new.self c.in_ok-argument-in-Arrow.argument c.in_ok-argument-in-Arrow.result c.deref.result.now c.in-Arrow.b.value is c.in_ok-argument-in-Arrow.ensures.numbers c.in_ok-argument-in-Arrow.ensures.ok) in
    let p = err_from_is_err_and c.from_residual-in_err-instantiate_part-in-Arrow.result c.from_residual-in_err-instantiate_part-in-Arrow.ensures.1 in
    rw (p.1, p.2) (pending_refused (SolvesInstance c.args.side c.args.context.now c.args.which c.args.with.now) c.other.result c.in_ok-argument-in-Arrow.argument c.deref.result.now (instance c.args.side c.in_ok-argument-in-Arrow.result c.in-Arrow.b.value no_instances) c.solve_with_arrow.new.self first _ c.in_err-instantiate_part-in-Arrow.ensures.err)

pub instantiate_by_form-instantiate_part-requires-in-Arrow : goal.instantiate_by_form-instantiate_part-requires-in-Arrow
instantiate_by_form-instantiate_part-requires-in-Arrow t c =
    let is : c.args.with.now ≡ arrow c.deref.result.now c.deref-in-Arrow.result.now = sym c.with.view_is ∙ ap open_of c.in-Arrow.is ∙ ap (λ (v : Open). arrow v c.in-Arrow.b.value) (sym c.deref.ensures) ∙ ap (arrow c.deref.result.now) (sym c.deref-in-Arrow.ensures) in
    let first : Pending (SolvesInstance c.args.side c.args.context.now c.args.which c.args.with.now) c.solve_with_arrow.new.self (instance c.other.result c.in_ok-argument-in-Arrow.argument c.deref.result.now (instance c.args.side c.in_ok-argument-in-Arrow.result c.deref-in-Arrow.result.now no_instances)) =
    subst (λ (r : Side). Pending (SolvesInstance c.args.side c.args.context.now c.args.which c.args.with.now) c.solve_with_arrow.new.self (instance r c.in_ok-argument-in-Arrow.argument c.deref.result.now (instance c.args.side c.in_ok-argument-in-Arrow.result c.deref-in-Arrow.result.now no_instances))) (sym c.other.ensures)
    (arrow_pending c.args.side c.args.context.now c.args.which c.args.with.now c.requires.in_order c.requires.monotypes c.requires.unsolved c.requires.in_hand c.requires.apart c.requires.no_solution c.solve_with_arrow.new.self c.in_ok-argument-in-Arrow.argument c.in_ok-argument-in-Arrow.result c.deref.result.now c.deref-in-Arrow.result.now is c.in_ok-argument-in-Arrow.ensures.numbers c.in_ok-argument-in-Arrow.ensures.ok) in
    let second : Pending (SolvesInstance c.args.side c.args.context.now c.args.which c.args.with.now) c.instantiate_part.new.context (instance c.args.side c.in_ok-argument-in-Arrow.result c.deref-in-Arrow.result.now no_instances) =
    pending_next (SolvesInstance c.args.side c.args.context.now c.args.which c.args.with.now) c.other.result c.in_ok-argument-in-Arrow.argument c.deref.result.now (instance c.args.side c.in_ok-argument-in-Arrow.result c.deref-in-Arrow.result.now no_instances) c.solve_with_arrow.new.self first c.instantiate_part.new.context c.in_ok-instantiate_part-in-Arrow.ensures.ok in
    (omega (arith, ap open_size is), (second.monotypes, second.ready))

pub instantiate_by_form-returns-in_ok-instantiate_part-in-Arrow-clause-ok : goal.instantiate_by_form-returns-in_ok-instantiate_part-in-Arrow-clause-ok
instantiate_by_form-returns-in_ok-instantiate_part-in-Arrow-clause-ok t c =
    let is : c.args.with.now ≡ arrow c.deref.result.now c.deref-in-Arrow.result.now = sym c.with.view_is ∙ ap open_of c.in-Arrow.is ∙ ap (λ (v : Open). arrow v c.in-Arrow.b.value) (sym c.deref.ensures) ∙ ap (arrow c.deref.result.now) (sym c.deref-in-Arrow.ensures) in
    let first : Pending (SolvesInstance c.args.side c.args.context.now c.args.which c.args.with.now) c.solve_with_arrow.new.self (instance c.other.result c.in_ok-argument-in-Arrow.argument c.deref.result.now (instance c.args.side c.in_ok-argument-in-Arrow.result c.deref-in-Arrow.result.now no_instances)) =
    subst (λ (r : Side). Pending (SolvesInstance c.args.side c.args.context.now c.args.which c.args.with.now) c.solve_with_arrow.new.self (instance r c.in_ok-argument-in-Arrow.argument c.deref.result.now (instance c.args.side c.in_ok-argument-in-Arrow.result c.deref-in-Arrow.result.now no_instances))) (sym c.other.ensures)
    (arrow_pending c.args.side c.args.context.now c.args.which c.args.with.now c.requires.in_order c.requires.monotypes c.requires.unsolved c.requires.in_hand c.requires.apart c.requires.no_solution c.solve_with_arrow.new.self c.in_ok-argument-in-Arrow.argument c.in_ok-argument-in-Arrow.result c.deref.result.now c.deref-in-Arrow.result.now is c.in_ok-argument-in-Arrow.ensures.numbers c.in_ok-argument-in-Arrow.ensures.ok) in
    let second : Pending (SolvesInstance c.args.side c.args.context.now c.args.which c.args.with.now) c.instantiate_part.new.context (instance c.args.side c.in_ok-argument-in-Arrow.result c.deref-in-Arrow.result.now no_instances) =
    pending_next (SolvesInstance c.args.side c.args.context.now c.args.which c.args.with.now) c.other.result c.in_ok-argument-in-Arrow.argument c.deref.result.now (instance c.args.side c.in_ok-argument-in-Arrow.result c.deref-in-Arrow.result.now no_instances) c.solve_with_arrow.new.self first c.instantiate_part.new.context c.in_ok-instantiate_part-in-Arrow.ensures.ok in
    on_ok_weaker c.instantiate_part-in-Arrow.result
    (λ d. pending_done (SolvesInstance c.args.side c.args.context.now c.args.which c.args.with.now) c.instantiate_part-in-Arrow.new.context (pending_next (SolvesInstance c.args.side c.args.context.now c.args.which c.args.with.now) c.args.side c.in_ok-argument-in-Arrow.result c.deref-in-Arrow.result.now no_instances c.instantiate_part.new.context second c.instantiate_part-in-Arrow.new.context d))
    c.instantiate_part-in-Arrow.ensures.ok

pub instantiate_by_form-returns-in_ok-instantiate_part-in-Arrow-clause-err : goal.instantiate_by_form-returns-in_ok-instantiate_part-in-Arrow-clause-err
instantiate_by_form-returns-in_ok-instantiate_part-in-Arrow-clause-err t c =
    let is : c.args.with.now ≡ arrow c.deref.result.now c.deref-in-Arrow.result.now = sym c.with.view_is ∙ ap open_of c.in-Arrow.is ∙ ap (λ (v : Open). arrow v c.in-Arrow.b.value) (sym c.deref.ensures) ∙ ap (arrow c.deref.result.now) (sym c.deref-in-Arrow.ensures) in
    let first : Pending (SolvesInstance c.args.side c.args.context.now c.args.which c.args.with.now) c.solve_with_arrow.new.self (instance c.other.result c.in_ok-argument-in-Arrow.argument c.deref.result.now (instance c.args.side c.in_ok-argument-in-Arrow.result c.deref-in-Arrow.result.now no_instances)) =
    subst (λ (r : Side). Pending (SolvesInstance c.args.side c.args.context.now c.args.which c.args.with.now) c.solve_with_arrow.new.self (instance r c.in_ok-argument-in-Arrow.argument c.deref.result.now (instance c.args.side c.in_ok-argument-in-Arrow.result c.deref-in-Arrow.result.now no_instances))) (sym c.other.ensures)
    (arrow_pending c.args.side c.args.context.now c.args.which c.args.with.now c.requires.in_order c.requires.monotypes c.requires.unsolved c.requires.in_hand c.requires.apart c.requires.no_solution c.solve_with_arrow.new.self c.in_ok-argument-in-Arrow.argument c.in_ok-argument-in-Arrow.result c.deref.result.now c.deref-in-Arrow.result.now is c.in_ok-argument-in-Arrow.ensures.numbers c.in_ok-argument-in-Arrow.ensures.ok) in
    let second : Pending (SolvesInstance c.args.side c.args.context.now c.args.which c.args.with.now) c.instantiate_part.new.context (instance c.args.side c.in_ok-argument-in-Arrow.result c.deref-in-Arrow.result.now no_instances) =
    pending_next (SolvesInstance c.args.side c.args.context.now c.args.which c.args.with.now) c.other.result c.in_ok-argument-in-Arrow.argument c.deref.result.now (instance c.args.side c.in_ok-argument-in-Arrow.result c.deref-in-Arrow.result.now no_instances) c.solve_with_arrow.new.self first c.instantiate_part.new.context c.in_ok-instantiate_part-in-Arrow.ensures.ok in
    IfErr-weaker c.instantiate_part-in-Arrow.result (IsRefused (SolvesInstances c.instantiate_part.new.context (instance c.args.side c.in_ok-argument-in-Arrow.result c.deref-in-Arrow.result.now no_instances))) (IsRefused (SolvesInstance c.args.side c.args.context.now c.args.which c.args.with.now)) (pending_all (SolvesInstance c.args.side c.args.context.now c.args.which c.args.with.now) c.instantiate_part.new.context (instance c.args.side c.in_ok-argument-in-Arrow.result c.deref-in-Arrow.result.now no_instances) second) c.instantiate_part-in-Arrow.ensures.err

pub instantiate_by_form-overflow_cast-len : goal.instantiate_by_form-overflow_cast-len
instantiate_by_form-overflow_cast-len t c = omega (arith, c.len.ensures, ap open_node_count (sym c.with.view_is ∙ ap open_of c.in-Tuple.is), c.requires.in_hand.small.nodes, count_nodes c.in-Tuple.ts.items)

pub instantiate_by_form-instantiate_each-requires : goal.instantiate_by_form-instantiate_each-requires
instantiate_by_form-instantiate_each-requires t c =
    let is : c.args.with.now ≡ tuple (opens_of c.in-Tuple.ts.items) = sym c.with.view_is ∙ ap open_of c.in-Tuple.is in
    let count : c.len.result ≡ length c.in-Tuple.ts.items = omega (arith, c.len.ensures, c.in-Tuple.ts.ok.0) in
    let call : ListCall (SolvesInstance c.args.side c.args.context.now c.args.which c.args.with.now) c.solve_with_tuple.new.self c.args.side c.deref-in-Tuple.result.now c.deref-in-Tuple-2.result.now =
    tuple_call c.args.side c.args.context.now c.args.which c.args.with.now c.requires.in_order c.requires.monotypes c.requires.unsolved c.requires.in_hand c.requires.apart c.requires.no_solution c.solve_with_tuple.new.self c.deref-in-Tuple.result.now c.in_ok-numbers-in-Tuple.numbers.items c.deref-in-Tuple-2.result.now c.in-Tuple.ts.items c.len.result
    c.deref-in-Tuple-2.ensures.value c.deref-in-Tuple.ensures.value count c.in_ok-numbers-in-Tuple.ensures.numbers is c.in_ok-numbers-in-Tuple.ensures.ok in
    let size : open_size c.args.with.now ≡ opens_size (opens_of c.deref-in-Tuple-2.result.now) + 1 = ap open_size is ∙ ap (λ (us : List Open). opens_size (opens_of us) + 1) (sym c.deref-in-Tuple-2.ensures.value) in
    (omega (arith, size), (call.pending.monotypes, (call.pending.ready, call.as_many)))

pub instantiate_by_form-returns-in_ok-numbers-in-Tuple-clause-ok : goal.instantiate_by_form-returns-in_ok-numbers-in-Tuple-clause-ok
instantiate_by_form-returns-in_ok-numbers-in-Tuple-clause-ok t c =
    let is : c.args.with.now ≡ tuple (opens_of c.in-Tuple.ts.items) = sym c.with.view_is ∙ ap open_of c.in-Tuple.is in
    let count : c.len.result ≡ length c.in-Tuple.ts.items = omega (arith, c.len.ensures, c.in-Tuple.ts.ok.0) in
    let call : ListCall (SolvesInstance c.args.side c.args.context.now c.args.which c.args.with.now) c.solve_with_tuple.new.self c.args.side c.deref-in-Tuple.result.now c.deref-in-Tuple-2.result.now =
    tuple_call c.args.side c.args.context.now c.args.which c.args.with.now c.requires.in_order c.requires.monotypes c.requires.unsolved c.requires.in_hand c.requires.apart c.requires.no_solution c.solve_with_tuple.new.self c.deref-in-Tuple.result.now c.in_ok-numbers-in-Tuple.numbers.items c.deref-in-Tuple-2.result.now c.in-Tuple.ts.items c.len.result
    c.deref-in-Tuple-2.ensures.value c.deref-in-Tuple.ensures.value count c.in_ok-numbers-in-Tuple.ensures.numbers is c.in_ok-numbers-in-Tuple.ensures.ok in
    on_ok_weaker c.instantiate_each.result (λ d. call.pending.ends (done c.instantiate_each.new.context) d) c.instantiate_each.ensures.ok

pub instantiate_by_form-returns-in_ok-numbers-in-Tuple-clause-err : goal.instantiate_by_form-returns-in_ok-numbers-in-Tuple-clause-err
instantiate_by_form-returns-in_ok-numbers-in-Tuple-clause-err t c =
    let is : c.args.with.now ≡ tuple (opens_of c.in-Tuple.ts.items) = sym c.with.view_is ∙ ap open_of c.in-Tuple.is in
    let count : c.len.result ≡ length c.in-Tuple.ts.items = omega (arith, c.len.ensures, c.in-Tuple.ts.ok.0) in
    let call : ListCall (SolvesInstance c.args.side c.args.context.now c.args.which c.args.with.now) c.solve_with_tuple.new.self c.args.side c.deref-in-Tuple.result.now c.deref-in-Tuple-2.result.now =
    tuple_call c.args.side c.args.context.now c.args.which c.args.with.now c.requires.in_order c.requires.monotypes c.requires.unsolved c.requires.in_hand c.requires.apart c.requires.no_solution c.solve_with_tuple.new.self c.deref-in-Tuple.result.now c.in_ok-numbers-in-Tuple.numbers.items c.deref-in-Tuple-2.result.now c.in-Tuple.ts.items c.len.result
    c.deref-in-Tuple-2.ensures.value c.deref-in-Tuple.ensures.value count c.in_ok-numbers-in-Tuple.ensures.numbers is c.in_ok-numbers-in-Tuple.ensures.ok in
    IfErr-weaker c.instantiate_each.result (IsRefused (SolvesInstances c.solve_with_tuple.new.self (all_at c.args.side c.deref-in-Tuple.result.now (opens_of c.deref-in-Tuple-2.result.now)))) (IsRefused (SolvesInstance c.args.side c.args.context.now c.args.which c.args.with.now)) (pending_all (SolvesInstance c.args.side c.args.context.now c.args.which c.args.with.now) c.solve_with_tuple.new.self (all_at c.args.side c.deref-in-Tuple.result.now (opens_of c.deref-in-Tuple-2.result.now)) call.pending) c.instantiate_each.ensures.err

pub instantiate_by_form-overflow_cast-len-in-Data : goal.instantiate_by_form-overflow_cast-len-in-Data
instantiate_by_form-overflow_cast-len-in-Data t c = omega (arith, c.len-in-Data.ensures, ap open_node_count (sym c.with.view_is ∙ ap open_of c.in-Data.is), c.requires.in_hand.small.nodes, count_nodes c.in-Data.ts.items)

pub instantiate_by_form-instantiate_each-requires-in-Data : goal.instantiate_by_form-instantiate_each-requires-in-Data
instantiate_by_form-instantiate_each-requires-in-Data t c =
    let is : c.args.with.now ≡ applied c.in-Data.head (opens_of c.in-Data.ts.items) = sym c.with.view_is ∙ ap open_of c.in-Data.is in
    let count : c.len-in-Data.result ≡ length c.in-Data.ts.items = omega (arith, c.len-in-Data.ensures, c.in-Data.ts.ok.0) in
    let call : ListCall (SolvesInstance c.args.side c.args.context.now c.args.which c.args.with.now) c.solve_with_data.new.self c.args.side c.deref-in-Data.result.now c.deref-in-Data-2.result.now =
    data_call c.args.side c.args.context.now c.args.which c.args.with.now c.requires.in_order c.requires.monotypes c.requires.unsolved c.requires.in_hand c.requires.apart c.requires.no_solution c.solve_with_data.new.self c.deref-in-Data.result.now c.in_ok-numbers-in-Data.numbers.items c.deref-in-Data-2.result.now c.in-Data.ts.items c.len-in-Data.result
    c.deref-in-Data-2.ensures.value c.deref-in-Data.ensures.value count c.in_ok-numbers-in-Data.ensures.numbers c.in-Data.head is c.in_ok-numbers-in-Data.ensures.ok in
    let size : open_size c.args.with.now ≡ opens_size (opens_of c.deref-in-Data-2.result.now) + 1 = ap open_size is ∙ ap (λ (us : List Open). opens_size (opens_of us) + 1) (sym c.deref-in-Data-2.ensures.value) in
    (omega (arith, size), (call.pending.monotypes, (call.pending.ready, call.as_many)))

pub instantiate_by_form-returns-in_ok-numbers-in-Data-clause-ok : goal.instantiate_by_form-returns-in_ok-numbers-in-Data-clause-ok
instantiate_by_form-returns-in_ok-numbers-in-Data-clause-ok t c =
    let is : c.args.with.now ≡ applied c.in-Data.head (opens_of c.in-Data.ts.items) = sym c.with.view_is ∙ ap open_of c.in-Data.is in
    let count : c.len-in-Data.result ≡ length c.in-Data.ts.items = omega (arith, c.len-in-Data.ensures, c.in-Data.ts.ok.0) in
    let call : ListCall (SolvesInstance c.args.side c.args.context.now c.args.which c.args.with.now) c.solve_with_data.new.self c.args.side c.deref-in-Data.result.now c.deref-in-Data-2.result.now =
    data_call c.args.side c.args.context.now c.args.which c.args.with.now c.requires.in_order c.requires.monotypes c.requires.unsolved c.requires.in_hand c.requires.apart c.requires.no_solution c.solve_with_data.new.self c.deref-in-Data.result.now c.in_ok-numbers-in-Data.numbers.items c.deref-in-Data-2.result.now c.in-Data.ts.items c.len-in-Data.result
    c.deref-in-Data-2.ensures.value c.deref-in-Data.ensures.value count c.in_ok-numbers-in-Data.ensures.numbers c.in-Data.head is c.in_ok-numbers-in-Data.ensures.ok in
    on_ok_weaker c.instantiate_each-in-Data.result (λ d. call.pending.ends (done c.instantiate_each-in-Data.new.context) d) c.instantiate_each-in-Data.ensures.ok

pub instantiate_by_form-returns-in_ok-numbers-in-Data-clause-err : goal.instantiate_by_form-returns-in_ok-numbers-in-Data-clause-err
instantiate_by_form-returns-in_ok-numbers-in-Data-clause-err t c =
    let is : c.args.with.now ≡ applied c.in-Data.head (opens_of c.in-Data.ts.items) = sym c.with.view_is ∙ ap open_of c.in-Data.is in
    let count : c.len-in-Data.result ≡ length c.in-Data.ts.items = omega (arith, c.len-in-Data.ensures, c.in-Data.ts.ok.0) in
    let call : ListCall (SolvesInstance c.args.side c.args.context.now c.args.which c.args.with.now) c.solve_with_data.new.self c.args.side c.deref-in-Data.result.now c.deref-in-Data-2.result.now =
    data_call c.args.side c.args.context.now c.args.which c.args.with.now c.requires.in_order c.requires.monotypes c.requires.unsolved c.requires.in_hand c.requires.apart c.requires.no_solution c.solve_with_data.new.self c.deref-in-Data.result.now c.in_ok-numbers-in-Data.numbers.items c.deref-in-Data-2.result.now c.in-Data.ts.items c.len-in-Data.result
    c.deref-in-Data-2.ensures.value c.deref-in-Data.ensures.value count c.in_ok-numbers-in-Data.ensures.numbers c.in-Data.head is c.in_ok-numbers-in-Data.ensures.ok in
    IfErr-weaker c.instantiate_each-in-Data.result (IsRefused (SolvesInstances c.solve_with_data.new.self (all_at c.args.side c.deref-in-Data.result.now (opens_of c.deref-in-Data-2.result.now)))) (IsRefused (SolvesInstance c.args.side c.args.context.now c.args.which c.args.with.now)) (pending_all (SolvesInstance c.args.side c.args.context.now c.args.which c.args.with.now) c.solve_with_data.new.self (all_at c.args.side c.deref-in-Data.result.now (opens_of c.deref-in-Data-2.result.now)) call.pending) c.instantiate_each-in-Data.ensures.err

pub instantiate_by_form-returns-in-Bound-clause-err : goal.instantiate_by_form-returns-in-Bound-clause-err
instantiate_by_form-returns-in-Bound-clause-err t c =
    let no_rule : (u : Open) → c.args.with.now ≡ u → has_rule_by_form c.args.context.now c.args.which u ≡ false → IsRefused (SolvesInstance c.args.side c.args.context.now c.args.which c.args.with.now) (IllTyped Nowhere) =
    λ u is f. ill_refused (SolvesInstance c.args.side c.args.context.now c.args.which c.args.with.now) (IllTyped Nowhere) refl (instance_ill (no_form c.args.context.now c.args.which c.args.with.now u is c.requires.no_solution f)) in
    elim c.in-Bound.is [
      | inl p ↦ no_rule (bound p.0) (sym c.with.view_is ∙ ap open_of p.1) refl
      | inr (inl p) ↦ no_rule (rigid p.0) (sym c.with.view_is ∙ ap open_of p.1) refl
      | inr (inr p) ↦ no_rule unit (sym c.with.view_is ∙ ap open_of p) refl
    ]

pub instantiate_each-loop-at-init : goal.instantiate_each-loop-at-init
instantiate_each-loop-at-init t c =
    pending_start (SolvesInstances c.args.context.now (all_at c.args.side c.args.numbers.now (opens_of c.args.types.now))) c.args.side c.args.numbers.now c.args.types.now c.args.context.now
    (record { monotypes = c.requires.monotypes; ready = c.requires.ready; ends = λ o d. d })

pub instantiate_each-instantiate_part-requires : goal.instantiate_each-instantiate_part-requires
instantiate_each-instantiate_part-requires t c =
    let n : ℕ = get_or c.args.numbers.now c.loop-at.at 0 in
    let number : n ≡ get_or c.args.numbers.now c.loop-at.at n = get_or_default c.args.numbers.now c.loop-at.at 0 n (omega (arith, c.requires.as_many, c.loop-at-test.true)) in
    let rest : Instances = left_at c.args.side c.args.numbers.now c.args.types.now (c.loop-at.at + 1) in
    let p : Pending (SolvesInstances c.args.context.now (all_at c.args.side c.args.numbers.now (opens_of c.args.types.now))) c.loop-at.context (instance c.args.side n c.index-types-at.result rest) =
    pending_as (SolvesInstances c.args.context.now (all_at c.args.side c.args.numbers.now (opens_of c.args.types.now))) c.loop-at.context c.loop-at.context (left_at c.args.side c.args.numbers.now c.args.types.now c.loop-at.at) (instance c.args.side n c.index-types-at.result rest) refl
    (left_more c.args.side c.args.numbers.now c.args.types.now c.requires.as_many c.loop-at.at n c.index-types-at.result c.loop-at-test.true number c.index-types-at.is) c.loop-at.invariant in (
      omega (arith, open_at c.args.types.now c.loop-at.at c.index-types-at.result c.loop-at-test.true, ap open_size c.index-types-at.is),
      (p.monotypes, pending_one (SolvesInstances c.args.context.now (all_at c.args.side c.args.numbers.now (opens_of c.args.types.now))) c.args.side n c.index-types-at.result rest c.loop-at.context p),
    )

pub instantiate_each-returns-in_err-instantiate_part-clause-err : goal.instantiate_each-returns-in_err-instantiate_part-clause-err
instantiate_each-returns-in_err-instantiate_part-clause-err t c =
    let n : ℕ = get_or c.args.numbers.now c.loop-at.at 0 in
    let number : n ≡ get_or c.args.numbers.now c.loop-at.at n = get_or_default c.args.numbers.now c.loop-at.at 0 n (omega (arith, c.requires.as_many, c.loop-at-test.true)) in
    let rest : Instances = left_at c.args.side c.args.numbers.now c.args.types.now (c.loop-at.at + 1) in
    let p : Pending (SolvesInstances c.args.context.now (all_at c.args.side c.args.numbers.now (opens_of c.args.types.now))) c.loop-at.context (instance c.args.side n c.index-types-at.result rest) =
    pending_as (SolvesInstances c.args.context.now (all_at c.args.side c.args.numbers.now (opens_of c.args.types.now))) c.loop-at.context c.loop-at.context (left_at c.args.side c.args.numbers.now c.args.types.now c.loop-at.at) (instance c.args.side n c.index-types-at.result rest) refl
    (left_more c.args.side c.args.numbers.now c.args.types.now c.requires.as_many c.loop-at.at n c.index-types-at.result c.loop-at-test.true number c.index-types-at.is) c.loop-at.invariant in
    let q = err_from_is_err_and c.from_residual.result c.from_residual.ensures.1 in
    rw (q.1, q.2) (pending_refused (SolvesInstances c.args.context.now (all_at c.args.side c.args.numbers.now (opens_of c.args.types.now))) c.args.side n c.index-types-at.result rest c.loop-at.context p _ c.in_err-instantiate_part.ensures.err)

pub instantiate_each-loop-at-preserved : goal.instantiate_each-loop-at-preserved
instantiate_each-loop-at-preserved t c =
    let n : ℕ = get_or c.args.numbers.now c.loop-at.at 0 in
    let number : n ≡ get_or c.args.numbers.now c.loop-at.at n = get_or_default c.args.numbers.now c.loop-at.at 0 n (omega (arith, c.requires.as_many, c.loop-at-test.true)) in
    let rest : Instances = left_at c.args.side c.args.numbers.now c.args.types.now (c.loop-at.at + 1) in
    let p : Pending (SolvesInstances c.args.context.now (all_at c.args.side c.args.numbers.now (opens_of c.args.types.now))) c.loop-at.context (instance c.args.side n c.index-types-at.result rest) =
    pending_as (SolvesInstances c.args.context.now (all_at c.args.side c.args.numbers.now (opens_of c.args.types.now))) c.loop-at.context c.loop-at.context (left_at c.args.side c.args.numbers.now c.args.types.now c.loop-at.at) (instance c.args.side n c.index-types-at.result rest) refl
    (left_more c.args.side c.args.numbers.now c.args.types.now c.requires.as_many c.loop-at.at n c.index-types-at.result c.loop-at-test.true number c.index-types-at.is) c.loop-at.invariant in
    pending_next (SolvesInstances c.args.context.now (all_at c.args.side c.args.numbers.now (opens_of c.args.types.now))) c.args.side n c.index-types-at.result rest c.loop-at.context p c.instantiate_part.new.context c.in_ok-instantiate_part.ensures.ok

pub instantiate_each-returns-clause-ok : goal.instantiate_each-returns-clause-ok
instantiate_each-returns-clause-ok t c =
    pending_done (SolvesInstances c.args.context.now (all_at c.args.side c.args.numbers.now (opens_of c.args.types.now))) c.loop-at.context
    (pending_as (SolvesInstances c.args.context.now (all_at c.args.side c.args.numbers.now (opens_of c.args.types.now))) c.loop-at.context c.loop-at.context (left_at c.args.side c.args.numbers.now c.args.types.now c.loop-at.at) no_instances refl
    (left_none c.args.side c.args.numbers.now c.args.types.now c.loop-at.at c.requires.as_many c.loop-at-test.false) c.loop-at.invariant)
