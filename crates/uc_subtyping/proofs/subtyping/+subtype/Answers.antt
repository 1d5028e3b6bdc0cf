use Rattle.std.proofs.Common.{◌≡◌, ℕ, ◌+◌, ◌<◌, false, List, [], ◌∷◌, ◌++◌, length, arith, refl, sym, ap, subst, append_assoc, ◌∙◌}
use Rattle.std.specs.List.{list_any}
use Rattle.std.proofs.lemmas.Bool.{false≢true}
use Rattle.std.proofs.lemmas.Result.{err_from_is_err_and, on_ok_weaker, IfErr-weaker}
use Rattle.uc_base.specs.declared.fault.Fault.TheVariants.{IllTyped}
use Rattle.uc_base.specs.declared.place.At.TheVariants.{Nowhere}
use Rattle.uc_context.specs.declared.entry.Entry.TheVariants.{Rigid, Exists, Mark}
use Rattle.uc_context.specs.Entries.{ContextEntries, is_variable}
use Rattle.uc_context.specs.Opens.{Open, rigid, existential, quantified, arrow, tuple, applied, none, more, opens_of}
use Rattle.uc_context.specs.Counts.{open_node_count, opens_node_count}
use Rattle.uc_context.specs.OpenViews.{open_of}
use Rattle.uc_context.specs.Variables.{opened_at, mentions}
use Rattle.uc_subtyping.specs.Ends.{IsRefused}
use Rattle.uc_subtyping.specs.InHand.{IsInHand}
use Rattle.uc_subtyping.specs.Outcomes.{done, refused}
use Rattle.uc_subtyping.proofs.Counting.{quantifiers, quantifiers_of}
use Rattle.uc_subtyping.proofs.Falling.{weight}
use Rattle.uc_subtyping.specs.declared.side.Side.TheVariants.{Below, Above}
use Rattle.uc_subtyping.specs.Instantiation.{SolvesInstance}
use Rattle.uc_subtyping.specs.Subtyping.{is_existential, SolvesSubtype, SolvesSubtypes, subtype_ill}
use Rattle.uc_subtyping.proofs.Arms.{rigid_in_hand, exists_in_hand, monotypes_rigid, monotypes_exists}
use Rattle.uc_subtyping.proofs.InOrder.{fresh_unused, no_variable, follows_mark}
use Rattle.uc_subtyping.proofs.Pairs.{PendingPairs, pairs_lower, pairs_upper, pairs_next, pairs_refused, pairs_fall, pairs_done, put_in_hand, pair_done, pair_refused, pair_falls, left_large, right_large}
use Rattle.uc_subtyping.proofs.Pending.{ill_refused, refused_as}
use Rattle.uc_subtyping.proofs.SubtypeArms.{by_existential, by_below, by_above, below_apart, above_apart, node_other, arrow_pairs, argument_left, argument_right, result_left, result_right, arrow_room, tuple_parts, data_parts, tuple_room, data_room, tuple_count, data_count, by_tuple, by_data, by_rigid, by_unit, same_length, node_plain, right_room, left_room, lists_pairs, opens_left, opens_left-more, opens_left-none, opens_left-all, current_at, nodes_at, pairs_as, in_hand_rigid, in_hand_exists, right_ends, right_refused, left_ends, left_refused, right_falls, left_falls}
use Rattle.uc_subtyping.proofs.subtyping.+subtype.Goals as goal

pub subtype_left-push-requires-2 : goal.subtype_left-push-requires-2
subtype_left-push-requires-2 t c =
    ap (list_any (is_variable c.fresh-number.result)) c.in_ok-push.ensures.ok
    ∙ follows_mark c.args.context.now c.fresh-number.result c.requires.in_order (fresh_unused c.args.context.now c.fresh-number.result c.fresh-number.ensures.number)

pub subtype_left-subtype-requires : goal.subtype_left-subtype-requires
subtype_left-subtype-requires t c =
    let n : ℕ = c.fresh-number.result in
    let at : c.push-2.new.self ≡ c.args.context.now ++ Mark n ∷ Exists n ∷ [] =
    c.in_ok-push-2.ensures.ok ∙ ap (λ (cs : ContextEntries). cs ++ Exists n ∷ []) c.in_ok-push.ensures.ok ∙ append_assoc c.args.context.now (Mark n ∷ []) (Exists n ∷ []) in
    let is : c.in_ok-opened.opened ≡ opened_at 0 (existential n) c.args.body.now = c.in_ok-opened.ensures ∙ ap (λ (v : Open). opened_at 0 v c.args.body.now) c.existential.ensures in
    let falls = left_falls c.args.context.now c.push-2.new.self n c.args.body.now c.args.upper.now c.in_ok-opened.opened c.fresh-number.ensures.number at is in (
      omega (arith, falls),
      (
        monotypes_exists c.args.context.now c.push-2.new.self n at c.requires.monotypes,
        (
          exists_in_hand c.args.context.now n c.args.body.now c.requires.in_order c.requires.lower c.fresh-number.ensures.number c.push-2.new.self c.in_ok-opened.opened at is,
          in_hand_exists c.args.context.now c.push-2.new.self n c.args.upper.now c.requires.in_order c.fresh-number.ensures.number c.requires.upper at,
        ),
      ),
    )

pub subtype_left-returns-in_err-subtype-clause-err : goal.subtype_left-returns-in_err-subtype-clause-err
subtype_left-returns-in_err-subtype-clause-err t c =
    let n : ℕ = c.fresh-number.result in
    let at : c.push-2.new.self ≡ c.args.context.now ++ Mark n ∷ Exists n ∷ [] =
    c.in_ok-push-2.ensures.ok ∙ ap (λ (cs : ContextEntries). cs ++ Exists n ∷ []) c.in_ok-push.ensures.ok ∙ append_assoc c.args.context.now (Mark n ∷ []) (Exists n ∷ []) in
    let is : c.in_ok-opened.opened ≡ opened_at 0 (existential n) c.args.body.now = c.in_ok-opened.ensures ∙ ap (λ (v : Open). opened_at 0 v c.args.body.now) c.existential.ensures in
    let p = err_from_is_err_and c.from_residual-in_err-subtype.result c.from_residual-in_err-subtype.ensures.1 in
    rw (p.1, p.2) (left_refused c.args.context.now c.push-2.new.self n c.args.body.now c.args.upper.now c.in_ok-opened.opened c.fresh-number.ensures.number _ c.requires.plain at is c.in_err-subtype.ensures.err)

pub subtype_left-returns-clause-ok : goal.subtype_left-returns-clause-ok
subtype_left-returns-clause-ok t c =
    let n : ℕ = c.fresh-number.result in
    let at : c.push-2.new.self ≡ c.args.context.now ++ Mark n ∷ Exists n ∷ [] =
    c.in_ok-push-2.ensures.ok ∙ ap (λ (cs : ContextEntries). cs ++ Exists n ∷ []) c.in_ok-push.ensures.ok ∙ append_assoc c.args.context.now (Mark n ∷ []) (Exists n ∷ []) in
    let is : c.in_ok-opened.opened ≡ opened_at 0 (existential n) c.args.body.now = c.in_ok-opened.ensures ∙ ap (λ (v : Open). opened_at 0 v c.args.body.now) c.existential.ensures in
    subst (λ (cs : ContextEntries). SolvesSubtype c.args.context.now (quantified c.args.body.now) c.args.upper.now (done cs)) (sym c.drop_from.ensures)
    (left_ends c.args.context.now c.push-2.new.self n c.args.body.now c.args.upper.now c.in_ok-opened.opened c.fresh-number.ensures.number (done c.subtype.new.context) c.requires.plain at is c.in_ok-subtype.ensures.ok)

pub subtype_right-push-requires : goal.subtype_right-push-requires
subtype_right-push-requires t c = no_variable c.args.context.now c.fresh-number.result (fresh_unused c.args.context.now c.fresh-number.result c.fresh-number.ensures.number)

pub subtype_right-subtype-requires : goal.subtype_right-subtype-requires
subtype_right-subtype-requires t c =
    let n : ℕ = c.fresh-number.result in
    let is : c.in_ok-opened.opened ≡ opened_at 0 (rigid n) c.args.body.now = c.in_ok-opened.ensures ∙ ap (λ (v : Open). opened_at 0 v c.args.body.now) c.rigid.ensures in
    let hand = rigid_in_hand c.args.context.now n c.args.body.now c.requires.in_order c.requires.upper c.fresh-number.ensures.number c.push.new.self c.in_ok-opened.opened c.in_ok-push.ensures.ok is in
    let falls = right_falls c.args.context.now c.push.new.self n c.args.lower.now c.args.body.now c.in_ok-opened.opened c.fresh-number.ensures.number c.in_ok-push.ensures.ok is c.requires.lower.small hand.small in (
      omega (arith, falls),
      (
        monotypes_rigid c.args.context.now c.push.new.self n c.in_ok-push.ensures.ok c.requires.monotypes,
        (in_hand_rigid c.args.context.now c.push.new.self n c.args.lower.now c.requires.in_order c.fresh-number.ensures.number c.requires.lower c.in_ok-push.ensures.ok, hand),
      ),
    )

pub subtype_right-returns-in_err-subtype-clause-err : goal.subtype_right-returns-in_err-subtype-clause-err
subtype_right-returns-in_err-subtype-clause-err t c =
    let n : ℕ = c.fresh-number.result in
    let is : c.in_ok-opened.opened ≡ opened_at 0 (rigid n) c.args.body.now = c.in_ok-opened.ensures ∙ ap (λ (v : Open). opened_at 0 v c.args.body.now) c.rigid.ensures in
    let p = err_from_is_err_and c.from_residual-in_err-subtype.result c.from_residual-in_err-subtype.ensures.1 in
    rw (p.1, p.2) (right_refused c.args.context.now c.push.new.self n c.args.lower.now c.args.body.now c.in_ok-opened.opened c.fresh-number.ensures.number _ c.in_ok-push.ensures.ok is c.in_err-subtype.ensures.err)

pub subtype_right-returns-clause-ok : goal.subtype_right-returns-clause-ok
subtype_right-returns-clause-ok t c =
    let n : ℕ = c.fresh-number.result in
    let is : c.in_ok-opened.opened ≡ opened_at 0 (rigid n) c.args.body.now = c.in_ok-opened.ensures ∙ ap (λ (v : Open). opened_at 0 v c.args.body.now) c.rigid.ensures in
    subst (λ (cs : ContextEntries). SolvesSubtype c.args.context.now c.args.lower.now (quantified c.args.body.now) (done cs)) (sym c.drop_from.ensures)
    (right_ends c.args.context.now c.push.new.self n c.args.lower.now c.args.body.now c.in_ok-opened.opened c.fresh-number.ensures.number (done c.subtype.new.context) c.in_ok-push.ensures.ok is c.in_ok-subtype.ensures.ok)

pub subtype_part-returns-in_err-lower-clause-err : goal.subtype_part-returns-in_err-lower-clause-err
subtype_part-returns-in_err-lower-clause-err t c =
    let p = err_from_is_err_and c.from_residual.result c.from_residual.ensures.1 in
    rw (p.1, p.2) (left_large c.args.context.now c.args.lower.now c.args.upper.now _ c.in_err-lower.ensures.err)

pub subtype_part-returns-in_err-upper-clause-err : goal.subtype_part-returns-in_err-upper-clause-err
subtype_part-returns-in_err-upper-clause-err t c =
    let p = err_from_is_err_and c.from_residual-in_err-upper.result c.from_residual-in_err-upper.ensures.1 in
    rw (p.1, p.2) (right_large c.args.context.now c.args.lower.now c.args.upper.now _ c.in_err-upper.ensures.err)

pub subtype_part-subtype-requires : goal.subtype_part-subtype-requires
subtype_part-subtype-requires t c =
    let falls =
    pair_falls c.args.context.now c.args.lower.now c.args.upper.now c.in_ok-lower.lower c.in_ok-upper.upper c.in_ok-lower.ensures.ok.0 c.in_ok-upper.ensures.ok.0 c.in_ok-lower.ensures.ok.1 c.in_ok-upper.ensures.ok.1 c.requires.monotypes in (
      omega (arith, falls),
      (
        c.requires.monotypes,
        (
          put_in_hand c.args.context.now c.args.lower.now c.in_ok-lower.lower c.requires.in_order c.requires.lower c.in_ok-lower.ensures.ok.0 c.in_ok-lower.ensures.ok.1,
          put_in_hand c.args.context.now c.args.upper.now c.in_ok-upper.upper c.requires.in_order c.requires.upper c.in_ok-upper.ensures.ok.0 c.in_ok-upper.ensures.ok.1,
        ),
      ),
    )

pub subtype_part-returns-in_err-subtype-clause-err : goal.subtype_part-returns-in_err-subtype-clause-err
subtype_part-returns-in_err-subtype-clause-err t c =
    let p = err_from_is_err_and c.from_residual-in_err-subtype.result c.from_residual-in_err-subtype.ensures.1 in
    rw (p.1, p.2) (pair_refused c.args.context.now c.args.lower.now c.args.upper.now c.in_ok-lower.lower c.in_ok-upper.upper c.in_ok-lower.ensures.ok.0 c.in_ok-upper.ensures.ok.0 c.in_ok-lower.ensures.ok.1 c.in_ok-upper.ensures.ok.1 _ c.in_err-subtype.ensures.err)

pub subtype_part-returns-clause-ok : goal.subtype_part-returns-clause-ok
subtype_part-returns-clause-ok t c =
    pair_done c.args.context.now c.args.lower.now c.args.upper.now c.in_ok-lower.lower c.in_ok-upper.upper c.in_ok-lower.ensures.ok.0 c.in_ok-upper.ensures.ok.0 c.in_ok-lower.ensures.ok.1 c.in_ok-upper.ensures.ok.1 c.subtype.new.context c.in_ok-subtype.ensures.ok

pub subtype_each-loop-at-init : goal.subtype_each-loop-at-init
subtype_each-loop-at-init t c =
    pairs_as (SolvesSubtypes c.args.context.now (opens_of c.args.lower.now) (opens_of c.args.upper.now)) c.args.context.now (weight c.args.context.now (quantifiers_of (opens_of c.args.lower.now) + quantifiers_of (opens_of c.args.upper.now))) c.args.context.now c.args.context.now (opens_of c.args.lower.now) (opens_left c.args.lower.now 0) (opens_of c.args.upper.now) (opens_left c.args.upper.now 0) refl (opens_left-all c.args.lower.now) (opens_left-all c.args.upper.now)
    (lists_pairs c.args.context.now (opens_of c.args.lower.now) (opens_of c.args.upper.now) c.requires.monotypes c.requires.in_order c.requires.known_lower c.requires.known_upper c.requires.current_lower c.requires.current_upper)

pub subtype_each-subtype_part-requires : goal.subtype_each-subtype_part-requires
subtype_each-subtype_part-requires t c =
    let within : c.loop-at.at < length c.args.upper.now = omega (arith, c.requires.as_many, c.loop-at-test.true) in
    let p : PendingPairs (SolvesSubtypes c.args.context.now (opens_of c.args.lower.now) (opens_of c.args.upper.now)) c.args.context.now (weight c.args.context.now (quantifiers_of (opens_of c.args.lower.now) + quantifiers_of (opens_of c.args.upper.now))) c.loop-at.context (more c.index-lower-at.result (opens_left c.args.lower.now (c.loop-at.at + 1))) (more c.index-upper-at.result (opens_left c.args.upper.now (c.loop-at.at + 1))) =
    pairs_as (SolvesSubtypes c.args.context.now (opens_of c.args.lower.now) (opens_of c.args.upper.now)) c.args.context.now (weight c.args.context.now (quantifiers_of (opens_of c.args.lower.now) + quantifiers_of (opens_of c.args.upper.now))) c.loop-at.context c.loop-at.context (opens_left c.args.lower.now c.loop-at.at) (more c.index-lower-at.result (opens_left c.args.lower.now (c.loop-at.at + 1))) (opens_left c.args.upper.now c.loop-at.at) (more c.index-upper-at.result (opens_left c.args.upper.now (c.loop-at.at + 1))) refl
    (opens_left-more c.args.lower.now c.loop-at.at c.index-lower-at.result c.loop-at-test.true c.index-lower-at.is) (opens_left-more c.args.upper.now c.loop-at.at c.index-upper-at.result within c.index-upper-at.is) c.loop-at.invariant in
    let falls =
    pairs_fall (SolvesSubtypes c.args.context.now (opens_of c.args.lower.now) (opens_of c.args.upper.now)) c.args.context.now (weight c.args.context.now (quantifiers_of (opens_of c.args.lower.now) + quantifiers_of (opens_of c.args.upper.now))) c.index-lower-at.result c.index-upper-at.result (opens_left c.args.lower.now (c.loop-at.at + 1)) (opens_left c.args.upper.now (c.loop-at.at + 1)) c.loop-at.context p (opens_node_count (opens_of c.args.lower.now) + opens_node_count (opens_of c.args.upper.now))
    (current_at c.args.context.now c.args.lower.now c.loop-at.at c.index-lower-at.result c.requires.current_lower c.loop-at-test.true c.index-lower-at.is) (current_at c.args.context.now c.args.upper.now c.loop-at.at c.index-upper-at.result c.requires.current_upper within c.index-upper-at.is)
    (omega (arith, nodes_at c.args.lower.now c.loop-at.at c.index-lower-at.result c.loop-at-test.true c.index-lower-at.is, nodes_at c.args.upper.now c.loop-at.at c.index-upper-at.result within c.index-upper-at.is)) in
    (omega (arith, falls), (p.monotypes, (p.in_order, (pairs_lower (SolvesSubtypes c.args.context.now (opens_of c.args.lower.now) (opens_of c.args.upper.now)) c.args.context.now (weight c.args.context.now (quantifiers_of (opens_of c.args.lower.now) + quantifiers_of (opens_of c.args.upper.now))) c.index-lower-at.result c.index-upper-at.result (opens_left c.args.lower.now (c.loop-at.at + 1)) (opens_left c.args.upper.now (c.loop-at.at + 1)) c.loop-at.context p, pairs_upper (SolvesSubtypes c.args.context.now (opens_of c.args.lower.now) (opens_of c.args.upper.now)) c.args.context.now (weight c.args.context.now (quantifiers_of (opens_of c.args.lower.now) + quantifiers_of (opens_of c.args.upper.now))) c.index-lower-at.result c.index-upper-at.result (opens_left c.args.lower.now (c.loop-at.at + 1)) (opens_left c.args.upper.now (c.loop-at.at + 1)) c.loop-at.context p))))

pub subtype_each-returns-in_err-subtype_part-clause-err : goal.subtype_each-returns-in_err-subtype_part-clause-err
subtype_each-returns-in_err-subtype_part-clause-err t c =
    let within : c.loop-at.at < length c.args.upper.now = omega (arith, c.requires.as_many, c.loop-at-test.true) in
    let p : PendingPairs (SolvesSubtypes c.args.context.now (opens_of c.args.lower.now) (opens_of c.args.upper.now)) c.args.context.now (weight c.args.context.now (quantifiers_of (opens_of c.args.lower.now) + quantifiers_of (opens_of c.args.upper.now))) c.loop-at.context (more c.index-lower-at.result (opens_left c.args.lower.now (c.loop-at.at + 1))) (more c.index-upper-at.result (opens_left c.args.upper.now (c.loop-at.at + 1))) =
    pairs_as (SolvesSubtypes c.args.context.now (opens_of c.args.lower.now) (opens_of c.args.upper.now)) c.args.context.now (weight c.args.context.now (quantifiers_of (opens_of c.args.lower.now) + quantifiers_of (opens_of c.args.upper.now))) c.loop-at.context c.loop-at.context (opens_left c.args.lower.now c.loop-at.at) (more c.index-lower-at.result (opens_left c.args.lower.now (c.loop-at.at + 1))) (opens_left c.args.upper.now c.loop-at.at) (more c.index-upper-at.result (opens_left c.args.upper.now (c.loop-at.at + 1))) refl
    (opens_left-more c.args.lower.now c.loop-at.at c.index-lower-at.result c.loop-at-test.true c.index-lower-at.is) (opens_left-more c.args.upper.now c.loop-at.at c.index-upper-at.result within c.index-upper-at.is) c.loop-at.invariant in
    let q = err_from_is_err_and c.from_residual.result c.from_residual.ensures.1 in
    rw (q.1, q.2) (pairs_refused (SolvesSubtypes c.args.context.now (opens_of c.args.lower.now) (opens_of c.args.upper.now)) c.args.context.now (weight c.args.context.now (quantifiers_of (opens_of c.args.lower.now) + quantifiers_of (opens_of c.args.upper.now))) c.index-lower-at.result c.index-upper-at.result (opens_left c.args.lower.now (c.loop-at.at + 1)) (opens_left c.args.upper.now (c.loop-at.at + 1)) c.loop-at.context p _ c.in_err-subtype_part.ensures.err)

pub subtype_each-loop-at-preserved : goal.subtype_each-loop-at-preserved
subtype_each-loop-at-preserved t c =
    let within : c.loop-at.at < length c.args.upper.now = omega (arith, c.requires.as_many, c.loop-at-test.true) in
    let p : PendingPairs (SolvesSubtypes c.args.context.now (opens_of c.args.lower.now) (opens_of c.args.upper.now)) c.args.context.now (weight c.args.context.now (quantifiers_of (opens_of c.args.lower.now) + quantifiers_of (opens_of c.args.upper.now))) c.loop-at.context (more c.index-lower-at.result (opens_left c.args.lower.now (c.loop-at.at + 1))) (more c.index-upper-at.result (opens_left c.args.upper.now (c.loop-at.at + 1))) =
    pairs_as (SolvesSubtypes c.args.context.now (opens_of c.args.lower.now) (opens_of c.args.upper.now)) c.args.context.now (weight c.args.context.now (quantifiers_of (opens_of c.args.lower.now) + quantifiers_of (opens_of c.args.upper.now))) c.loop-at.context c.loop-at.context (opens_left c.args.lower.now c.loop-at.at) (more c.index-lower-at.result (opens_left c.args.lower.now (c.loop-at.at + 1))) (opens_left c.args.upper.now c.loop-at.at) (more c.index-upper-at.result (opens_left c.args.upper.now (c.loop-at.at + 1))) refl
    (opens_left-more c.args.lower.now c.loop-at.at c.index-lower-at.result c.loop-at-test.true c.index-lower-at.is) (opens_left-more c.args.upper.now c.loop-at.at c.index-upper-at.result within c.index-upper-at.is) c.loop-at.invariant in
    pairs_next (SolvesSubtypes c.args.context.now (opens_of c.args.lower.now) (opens_of c.args.upper.now)) c.args.context.now (weight c.args.context.now (quantifiers_of (opens_of c.args.lower.now) + quantifiers_of (opens_of c.args.upper.now))) c.index-lower-at.result c.index-upper-at.result (opens_left c.args.lower.now (c.loop-at.at + 1)) (opens_left c.args.upper.now (c.loop-at.at + 1)) c.loop-at.context p c.subtype_part.new.context c.in_ok-subtype_part.ensures.ok

pub subtype_each-returns-clause-ok : goal.subtype_each-returns-clause-ok
subtype_each-returns-clause-ok t c =
    pairs_done (SolvesSubtypes c.args.context.now (opens_of c.args.lower.now) (opens_of c.args.upper.now)) c.args.context.now (weight c.args.context.now (quantifiers_of (opens_of c.args.lower.now) + quantifiers_of (opens_of c.args.upper.now))) c.loop-at.context
    (pairs_as (SolvesSubtypes c.args.context.now (opens_of c.args.lower.now) (opens_of c.args.upper.now)) c.args.context.now (weight c.args.context.now (quantifiers_of (opens_of c.args.lower.now) + quantifiers_of (opens_of c.args.upper.now))) c.loop-at.context c.loop-at.context (opens_left c.args.lower.now c.loop-at.at) none (opens_left c.args.upper.now c.loop-at.at) none refl (opens_left-none c.args.lower.now c.loop-at.at c.loop-at-test.false)
    (opens_left-none c.args.upper.now c.loop-at.at (omega (arith, c.requires.as_many, c.loop-at-test.false))) c.loop-at.invariant)

pub subtype-subtype_right-requires : goal.subtype-subtype_right-requires
subtype-subtype_right-requires t c =
    let at : c.args.upper.now ≡ quantified c.deref.result.now = sym c.upper.view_is ∙ ap open_of c.in-Forall.is ∙ ap quantified (sym c.deref.ensures) in (
      omega (arith, right_room c.args.context.now c.args.lower.now c.args.upper.now c.deref.result.now c.requires.lower.small c.requires.upper.small at),
      (c.requires.monotypes, (c.tell_in_order.ensures, (c.requires.lower, subst (IsInHand c.args.context.now) at c.requires.upper))),
    )

pub subtype-subtype_left-requires : goal.subtype-subtype_left-requires
subtype-subtype_left-requires t c =
    let is : c.args.lower.now ≡ quantified c.deref-in-Forall-node.result.now = sym c.lower.view_is ∙ ap open_of c.in-Forall-node.is ∙ ap quantified (sym c.deref-in-Forall-node.ensures) in (
      omega (arith, left_room c.args.context.now c.args.lower.now c.args.upper.now c.deref-in-Forall-node.result.now c.requires.lower.small c.requires.upper.small is),
      (
        c.requires.monotypes,
        (c.tell_in_order.ensures, (subst (IsInHand c.args.context.now) is c.requires.lower, (c.requires.upper, node_plain c.upper.inside.node c.args.upper.now c.upper.view_is c.in_default.not-Forall))),
      ),
    )

pub subtype-returns-then-not-has_rule : goal.subtype-returns-then-not-has_rule
subtype-returns-then-not-has_rule t c = record {
  ok = tt;
  err = ill_refused (SolvesSubtype c.args.context.now c.args.lower.now c.args.upper.now) (IllTyped Nowhere) refl
      (subtype_ill (node_plain c.lower.inside.node c.args.lower.now c.lower.view_is c.in_default-node.not-Forall) (node_plain c.upper.inside.node c.args.upper.now c.upper.view_is c.in_default.not-Forall)
      (λ r. false≢true (sym c.if-not-has_rule.true ∙ c.has_rule.ensures.1 r)));
}

pub subtype-subtype_by_form-requires : goal.subtype-subtype_by_form-requires
subtype-subtype_by_form-requires t c = (
  omega arith,
  (
    c.requires.monotypes,
    (
      c.tell_in_order.ensures,
      (
        c.requires.lower,
        (
          c.requires.upper,
          (
            node_plain c.lower.inside.node c.args.lower.now c.lower.view_is c.in_default-node.not-Forall,
            (node_plain c.upper.inside.node c.args.upper.now c.upper.view_is c.in_default.not-Forall, c.has_rule.ensures.0 c.if-not-has_rule.false),
          ),
        ),
      ),
    ),
  ),
)

pub subtype_by_form-subtype_part-requires : goal.subtype_by_form-subtype_part-requires
subtype_by_form-subtype_part-requires t c =
    let is : c.args.lower.now ≡ arrow c.deref-in-Arrow-Arrow.result.now c.in-Arrow-Arrow.b.value = sym c.lower.view_is ∙ ap open_of c.in-Arrow-Arrow.is-0 ∙ ap (λ (v : Open). arrow v c.in-Arrow-Arrow.b.value) (sym c.deref-in-Arrow-Arrow.ensures) in
    let at : c.args.upper.now ≡ arrow c.deref.result.now c.in-Arrow-Arrow.d.value = sym c.upper.view_is ∙ ap open_of c.in-Arrow-Arrow.is-1 ∙ ap (λ (v : Open). arrow v c.in-Arrow-Arrow.d.value) (sym c.deref.ensures) in
    let first : PendingPairs (SolvesSubtype c.args.context.now c.args.lower.now c.args.upper.now) c.args.context.now (weight c.args.context.now (quantifiers c.args.lower.now + quantifiers c.args.upper.now)) c.args.context.now (more c.deref.result.now (more c.in-Arrow-Arrow.b.value none)) (more c.deref-in-Arrow-Arrow.result.now (more c.in-Arrow-Arrow.d.value none)) = arrow_pairs c.args.context.now c.args.lower.now c.args.upper.now c.deref-in-Arrow-Arrow.result.now c.in-Arrow-Arrow.b.value c.deref.result.now c.in-Arrow-Arrow.d.value c.requires.monotypes c.requires.in_order c.requires.lower c.requires.upper c.requires.rule is at in
    let falls = pairs_fall (SolvesSubtype c.args.context.now c.args.lower.now c.args.upper.now) c.args.context.now (weight c.args.context.now (quantifiers c.args.lower.now + quantifiers c.args.upper.now)) c.deref.result.now c.deref-in-Arrow-Arrow.result.now (more c.in-Arrow-Arrow.b.value none) (more c.in-Arrow-Arrow.d.value none) c.args.context.now first (open_node_count c.deref-in-Arrow-Arrow.result.now + open_node_count c.in-Arrow-Arrow.b.value + open_node_count c.deref.result.now + open_node_count c.in-Arrow-Arrow.d.value) (argument_right c.args.context.now c.args.lower.now c.args.upper.now c.deref-in-Arrow-Arrow.result.now c.in-Arrow-Arrow.b.value c.deref.result.now c.in-Arrow-Arrow.d.value c.requires.monotypes c.requires.in_order c.requires.lower c.requires.upper c.requires.rule is at) (argument_left c.args.context.now c.args.lower.now c.args.upper.now c.deref-in-Arrow-Arrow.result.now c.in-Arrow-Arrow.b.value c.deref.result.now c.in-Arrow-Arrow.d.value c.requires.monotypes c.requires.in_order c.requires.lower c.requires.upper c.requires.rule is at) (omega arith) in
    let room = arrow_room c.args.context.now c.args.lower.now c.args.upper.now c.deref-in-Arrow-Arrow.result.now c.in-Arrow-Arrow.b.value c.deref.result.now c.in-Arrow-Arrow.d.value c.requires.monotypes c.requires.in_order c.requires.lower c.requires.upper c.requires.rule is at in
    (omega (arith, falls, room), (first.monotypes, (first.in_order, (pairs_lower (SolvesSubtype c.args.context.now c.args.lower.now c.args.upper.now) c.args.context.now (weight c.args.context.now (quantifiers c.args.lower.now + quantifiers c.args.upper.now)) c.deref.result.now c.deref-in-Arrow-Arrow.result.now (more c.in-Arrow-Arrow.b.value none) (more c.in-Arrow-Arrow.d.value none) c.args.context.now first, pairs_upper (SolvesSubtype c.args.context.now c.args.lower.now c.args.upper.now) c.args.context.now (weight c.args.context.now (quantifiers c.args.lower.now + quantifiers c.args.upper.now)) c.deref.result.now c.deref-in-Arrow-Arrow.result.now (more c.in-Arrow-Arrow.b.value none) (more c.in-Arrow-Arrow.d.value none) c.args.context.now first))))

pub subtype_by_form-returns-in_err-subtype_part-in-Arrow-Arrow-clause-err : goal.subtype_by_form-returns-in_err-subtype_part-in-Arrow-Arrow-clause-err
subtype_by_form-returns-in_err-subtype_part-in-Arrow-Arrow-clause-err t c =
    let is : c.args.lower.now ≡ arrow c.deref-in-Arrow-Arrow.result.now c.in-Arrow-Arrow.b.value = sym c.lower.view_is ∙ ap open_of c.in-Arrow-Arrow.is-0 ∙ ap (λ (v : Open). arrow v c.in-Arrow-Arrow.b.value) (sym c.deref-in-Arrow-Arrow.ensures) in
    let at : c.args.upper.now ≡ arrow c.deref.result.now c.in-Arrow-Arrow.d.value = sym c.upper.view_is ∙ ap open_of c.in-Arrow-Arrow.is-1 ∙ ap (λ (v : Open). arrow v c.in-Arrow-Arrow.d.value) (sym c.deref.ensures) in
    let first : PendingPairs (SolvesSubtype c.args.context.now c.args.lower.now c.args.upper.now) c.args.context.now (weight c.args.context.now (quantifiers c.args.lower.now + quantifiers c.args.upper.now)) c.args.context.now (more c.deref.result.now (more c.in-Arrow-Arrow.b.value none)) (more c.deref-in-Arrow-Arrow.result.now (more c.in-Arrow-Arrow.d.value none)) = arrow_pairs c.args.context.now c.args.lower.now c.args.upper.now c.deref-in-Arrow-Arrow.result.now c.in-Arrow-Arrow.b.value c.deref.result.now c.in-Arrow-Arrow.d.value c.requires.monotypes c.requires.in_order c.requires.lower c.requires.upper c.requires.rule is at in
    let q = err_from_is_err_and c.from_residual.result c.from_residual.ensures.1 in
    rw (q.1, q.2) (pairs_refused (SolvesSubtype c.args.context.now c.args.lower.now c.args.upper.now) c.args.context.now (weight c.args.context.now (quantifiers c.args.lower.now + quantifiers c.args.upper.now)) c.deref.result.now c.deref-in-Arrow-Arrow.result.now (more c.in-Arrow-Arrow.b.value none) (more c.in-Arrow-Arrow.d.value none) c.args.context.now first _ c.in_err-subtype_part-in-Arrow-Arrow.ensures.err)

pub subtype_by_form-subtype_part-requires-in-Arrow-Arrow : goal.subtype_by_form-subtype_part-requires-in-Arrow-Arrow
subtype_by_form-subtype_part-requires-in-Arrow-Arrow t c =
    let is : c.args.lower.now ≡ arrow c.deref-in-Arrow-Arrow.result.now c.deref-in-Arrow-Arrow-2.result.now = sym c.lower.view_is ∙ ap open_of c.in-Arrow-Arrow.is-0 ∙ ap (λ (v : Open). arrow v c.in-Arrow-Arrow.b.value) (sym c.deref-in-Arrow-Arrow.ensures) ∙ ap (arrow c.deref-in-Arrow-Arrow.result.now) (sym c.deref-in-Arrow-Arrow-2.ensures) in
    let at : c.args.upper.now ≡ arrow c.deref.result.now c.deref-in-Arrow-Arrow-3.result.now = sym c.upper.view_is ∙ ap open_of c.in-Arrow-Arrow.is-1 ∙ ap (λ (v : Open). arrow v c.in-Arrow-Arrow.d.value) (sym c.deref.ensures) ∙ ap (arrow c.deref.result.now) (sym c.deref-in-Arrow-Arrow-3.ensures) in
    let first : PendingPairs (SolvesSubtype c.args.context.now c.args.lower.now c.args.upper.now) c.args.context.now (weight c.args.context.now (quantifiers c.args.lower.now + quantifiers c.args.upper.now)) c.args.context.now (more c.deref.result.now (more c.deref-in-Arrow-Arrow-2.result.now none)) (more c.deref-in-Arrow-Arrow.result.now (more c.deref-in-Arrow-Arrow-3.result.now none)) = arrow_pairs c.args.context.now c.args.lower.now c.args.upper.now c.deref-in-Arrow-Arrow.result.now c.deref-in-Arrow-Arrow-2.result.now c.deref.result.now c.deref-in-Arrow-Arrow-3.result.now c.requires.monotypes c.requires.in_order c.requires.lower c.requires.upper c.requires.rule is at in
    let second : PendingPairs (SolvesSubtype c.args.context.now c.args.lower.now c.args.upper.now) c.args.context.now (weight c.args.context.now (quantifiers c.args.lower.now + quantifiers c.args.upper.now)) c.subtype_part.new.context (more c.deref-in-Arrow-Arrow-2.result.now none) (more c.deref-in-Arrow-Arrow-3.result.now none) = pairs_next (SolvesSubtype c.args.context.now c.args.lower.now c.args.upper.now) c.args.context.now (weight c.args.context.now (quantifiers c.args.lower.now + quantifiers c.args.upper.now)) c.deref.result.now c.deref-in-Arrow-Arrow.result.now (more c.deref-in-Arrow-Arrow-2.result.now none) (more c.deref-in-Arrow-Arrow-3.result.now none) c.args.context.now first c.subtype_part.new.context c.in_ok-subtype_part-in-Arrow-Arrow.ensures.ok in
    let falls = pairs_fall (SolvesSubtype c.args.context.now c.args.lower.now c.args.upper.now) c.args.context.now (weight c.args.context.now (quantifiers c.args.lower.now + quantifiers c.args.upper.now)) c.deref-in-Arrow-Arrow-2.result.now c.deref-in-Arrow-Arrow-3.result.now none none c.subtype_part.new.context second (open_node_count c.deref-in-Arrow-Arrow.result.now + open_node_count c.deref-in-Arrow-Arrow-2.result.now + open_node_count c.deref.result.now + open_node_count c.deref-in-Arrow-Arrow-3.result.now) (result_left c.args.context.now c.args.lower.now c.args.upper.now c.deref-in-Arrow-Arrow.result.now c.deref-in-Arrow-Arrow-2.result.now c.deref.result.now c.deref-in-Arrow-Arrow-3.result.now c.requires.monotypes c.requires.in_order c.requires.lower c.requires.upper c.requires.rule is at) (result_right c.args.context.now c.args.lower.now c.args.upper.now c.deref-in-Arrow-Arrow.result.now c.deref-in-Arrow-Arrow-2.result.now c.deref.result.now c.deref-in-Arrow-Arrow-3.result.now c.requires.monotypes c.requires.in_order c.requires.lower c.requires.upper c.requires.rule is at) (omega arith) in
    let room = arrow_room c.args.context.now c.args.lower.now c.args.upper.now c.deref-in-Arrow-Arrow.result.now c.deref-in-Arrow-Arrow-2.result.now c.deref.result.now c.deref-in-Arrow-Arrow-3.result.now c.requires.monotypes c.requires.in_order c.requires.lower c.requires.upper c.requires.rule is at in
    (omega (arith, falls, room), (second.monotypes, (second.in_order, (pairs_lower (SolvesSubtype c.args.context.now c.args.lower.now c.args.upper.now) c.args.context.now (weight c.args.context.now (quantifiers c.args.lower.now + quantifiers c.args.upper.now)) c.deref-in-Arrow-Arrow-2.result.now c.deref-in-Arrow-Arrow-3.result.now none none c.subtype_part.new.context second, pairs_upper (SolvesSubtype c.args.context.now c.args.lower.now c.args.upper.now) c.args.context.now (weight c.args.context.now (quantifiers c.args.lower.now + quantifiers c.args.upper.now)) c.deref-in-Arrow-Arrow-2.result.now c.deref-in-Arrow-Arrow-3.result.now none none c.subtype_part.new.context second))))

pub subtype_by_form-returns-in_ok-subtype_part-in-Arrow-Arrow-clause-ok : goal.subtype_by_form-returns-in_ok-subtype_part-in-Arrow-Arrow-clause-ok
subtype_by_form-returns-in_ok-subtype_part-in-Arrow-Arrow-clause-ok t c =
    let is : c.args.lower.now ≡ arrow c.deref-in-Arrow-Arrow.result.now c.deref-in-Arrow-Arrow-2.result.now = sym c.lower.view_is ∙ ap open_of c.in-Arrow-Arrow.is-0 ∙ ap (λ (v : Open). arrow v c.in-Arrow-Arrow.b.value) (sym c.deref-in-Arrow-Arrow.ensures) ∙ ap (arrow c.deref-in-Arrow-Arrow.result.now) (sym c.deref-in-Arrow-Arrow-2.ensures) in
    let at : c.args.upper.now ≡ arrow c.deref.result.now c.deref-in-Arrow-Arrow-3.result.now = sym c.upper.view_is ∙ ap open_of c.in-Arrow-Arrow.is-1 ∙ ap (λ (v : Open). arrow v c.in-Arrow-Arrow.d.value) (sym c.deref.ensures) ∙ ap (arrow c.deref.result.now) (sym c.deref-in-Arrow-Arrow-3.ensures) in
    let first : PendingPairs (SolvesSubtype c.args.context.now c.args.lower.now c.args.upper.now) c.args.context.now (weight c.args.context.now (quantifiers c.args.lower.now + quantifiers c.args.upper.now)) c.args.context.now (more c.deref.result.now (more c.deref-in-Arrow-Arrow-2.result.now none)) (more c.deref-in-Arrow-Arrow.result.now (more c.deref-in-Arrow-Arrow-3.result.now none)) = arrow_pairs c.args.context.now c.args.lower.now c.args.upper.now c.deref-in-Arrow-Arrow.result.now c.deref-in-Arrow-Arrow-2.result.now c.deref.result.now c.deref-in-Arrow-Arrow-3.result.now c.requires.monotypes c.requires.in_order c.requires.lower c.requires.upper c.requires.rule is at in
    let second : PendingPairs (SolvesSubtype c.args.context.now c.args.lower.now c.args.upper.now) c.args.context.now (weight c.args.context.now (quantifiers c.args.lower.now + quantifiers c.args.upper.now)) c.subtype_part.new.context (more c.deref-in-Arrow-Arrow-2.result.now none) (more c.deref-in-Arrow-Arrow-3.result.now none) = pairs_next (SolvesSubtype c.args.context.now c.args.lower.now c.args.upper.now) c.args.context.now (weight c.args.context.now (quantifiers c.args.lower.now + quantifiers c.args.upper.now)) c.deref.result.now c.deref-in-Arrow-Arrow.result.now (more c.deref-in-Arrow-Arrow-2.result.now none) (more c.deref-in-Arrow-Arrow-3.result.now none) c.args.context.now first c.subtype_part.new.context c.in_ok-subtype_part-in-Arrow-Arrow.ensures.ok in
    on_ok_weaker c.subtype_part-in-Arrow-Arrow.result (λ e. pairs_done (SolvesSubtype c.args.context.now c.args.lower.now c.args.upper.now) c.args.context.now (weight c.args.context.now (quantifiers c.args.lower.now + quantifiers c.args.upper.now)) c.subtype_part-in-Arrow-Arrow.new.context (pairs_next (SolvesSubtype c.args.context.now c.args.lower.now c.args.upper.now) c.args.context.now (weight c.args.context.now (quantifiers c.args.lower.now + quantifiers c.args.upper.now)) c.deref-in-Arrow-Arrow-2.result.now c.deref-in-Arrow-Arrow-3.result.now none none c.subtype_part.new.context second c.subtype_part-in-Arrow-Arrow.new.context e)) c.subtype_part-in-Arrow-Arrow.ensures.ok

pub subtype_by_form-returns-in_ok-subtype_part-in-Arrow-Arrow-clause-err : goal.subtype_by_form-returns-in_ok-subtype_part-in-Arrow-Arrow-clause-err
subtype_by_form-returns-in_ok-subtype_part-in-Arrow-Arrow-clause-err t c =
    let is : c.args.lower.now ≡ arrow c.deref-in-Arrow-Arrow.result.now c.deref-in-Arrow-Arrow-2.result.now = sym c.lower.view_is ∙ ap open_of c.in-Arrow-Arrow.is-0 ∙ ap (λ (v : Open). arrow v c.in-Arrow-Arrow.b.value) (sym c.deref-in-Arrow-Arrow.ensures) ∙ ap (arrow c.deref-in-Arrow-Arrow.result.now) (sym c.deref-in-Arrow-Arrow-2.ensures) in
    let at : c.args.upper.now ≡ arrow c.deref.result.now c.deref-in-Arrow-Arrow-3.result.now = sym c.upper.view_is ∙ ap open_of c.in-Arrow-Arrow.is-1 ∙ ap (λ (v : Open). arrow v c.in-Arrow-Arrow.d.value) (sym c.deref.ensures) ∙ ap (arrow c.deref.result.now) (sym c.deref-in-Arrow-Arrow-3.ensures) in
    let first : PendingPairs (SolvesSubtype c.args.context.now c.args.lower.now c.args.upper.now) c.args.context.now (weight c.args.context.now (quantifiers c.args.lower.now + quantifiers c.args.upper.now)) c.args.context.now (more c.deref.result.now (more c.deref-in-Arrow-Arrow-2.result.now none)) (more c.deref-in-Arrow-Arrow.result.now (more c.deref-in-Arrow-Arrow-3.result.now none)) = arrow_pairs c.args.context.now c.args.lower.now c.args.upper.now c.deref-in-Arrow-Arrow.result.now c.deref-in-Arrow-Arrow-2.result.now c.deref.result.now c.deref-in-Arrow-Arrow-3.result.now c.requires.monotypes c.requires.in_order c.requires.lower c.requires.upper c.requires.rule is at in
    let second : PendingPairs (SolvesSubtype c.args.context.now c.args.lower.now c.args.upper.now) c.args.context.now (weight c.args.context.now (quantifiers c.args.lower.now + quantifiers c.args.upper.now)) c.subtype_part.new.context (more c.deref-in-Arrow-Arrow-2.result.now none) (more c.deref-in-Arrow-Arrow-3.result.now none) = pairs_next (SolvesSubtype c.args.context.now c.args.lower.now c.args.upper.now) c.args.context.now (weight c.args.context.now (quantifiers c.args.lower.now + quantifiers c.args.upper.now)) c.deref.result.now c.deref-in-Arrow-Arrow.result.now (more c.deref-in-Arrow-Arrow-2.result.now none) (more c.deref-in-Arrow-Arrow-3.result.now none) c.args.context.now first c.subtype_part.new.context c.in_ok-subtype_part-in-Arrow-Arrow.ensures.ok in
    IfErr-weaker c.subtype_part-in-Arrow-Arrow.result (IsRefused (SolvesSubtypes c.subtype_part.new.context (more c.deref-in-Arrow-Arrow-2.result.now none) (more c.deref-in-Arrow-Arrow-3.result.now none))) (IsRefused (SolvesSubtype c.args.context.now c.args.lower.now c.args.upper.now)) (pairs_refused (SolvesSubtype c.args.context.now c.args.lower.now c.args.upper.now) c.args.context.now (weight c.args.context.now (quantifiers c.args.lower.now + quantifiers c.args.upper.now)) c.deref-in-Arrow-Arrow-2.result.now c.deref-in-Arrow-Arrow-3.result.now none none c.subtype_part.new.context second) c.subtype_part-in-Arrow-Arrow.ensures.err

pub subtype_by_form-returns-in-Rigid-Rigid-clause-ok : goal.subtype_by_form-returns-in-Rigid-Rigid-clause-ok
subtype_by_form-returns-in-Rigid-Rigid-clause-ok t c = by_rigid c.args.context.now c.args.lower.now c.args.upper.now c.requires.rule _ _ (sym c.lower.view_is ∙ ap open_of c.in-Rigid-Rigid.is-0) (sym c.upper.view_is ∙ ap open_of c.in-Rigid-Rigid.is-1)

pub subtype_by_form-returns-in-Unit-Unit-clause-ok : goal.subtype_by_form-returns-in-Unit-Unit-clause-ok
subtype_by_form-returns-in-Unit-Unit-clause-ok t c = by_unit c.args.context.now c.args.lower.now c.args.upper.now c.requires.rule (sym c.lower.view_is ∙ ap open_of c.in-Unit-Unit.is-0) (sym c.upper.view_is ∙ ap open_of c.in-Unit-Unit.is-1)

pub subtype_by_form-subtype_each-requires : goal.subtype_by_form-subtype_each-requires
subtype_by_form-subtype_each-requires t c =
    let is : c.args.lower.now ≡ tuple (opens_of c.deref-in-Tuple-Tuple.result.now) = sym c.lower.view_is ∙ ap open_of c.in-Tuple-Tuple.is-0 ∙ ap (λ (us : List Open). tuple (opens_of us)) (sym c.deref-in-Tuple-Tuple.ensures.value) in
    let at : c.args.upper.now ≡ tuple (opens_of c.deref-in-Tuple-Tuple-2.result.now) = sym c.upper.view_is ∙ ap open_of c.in-Tuple-Tuple.is-1 ∙ ap (λ (us : List Open). tuple (opens_of us)) (sym c.deref-in-Tuple-Tuple-2.ensures.value) in
    let left = tuple_parts c.args.context.now c.args.lower.now c.requires.lower (opens_of c.deref-in-Tuple-Tuple.result.now) is in
    let right = tuple_parts c.args.context.now c.args.upper.now c.requires.upper (opens_of c.deref-in-Tuple-Tuple-2.result.now) at in (
      omega (arith, tuple_room c.args.context.now c.args.lower.now c.args.upper.now (opens_of c.deref-in-Tuple-Tuple.result.now) (opens_of c.deref-in-Tuple-Tuple-2.result.now) is at),
      (
        c.requires.monotypes,
        (c.requires.in_order, (left.0, (right.0, (left.1, (right.1, same_length c.deref-in-Tuple-Tuple.result.now c.deref-in-Tuple-Tuple-2.result.now (tuple_count c.args.context.now c.args.lower.now c.args.upper.now c.requires.rule (opens_of c.deref-in-Tuple-Tuple.result.now) (opens_of c.deref-in-Tuple-Tuple-2.result.now) is at)))))),
      ),
    )

pub subtype_by_form-returns-in-Tuple-Tuple-clause-ok : goal.subtype_by_form-returns-in-Tuple-Tuple-clause-ok
subtype_by_form-returns-in-Tuple-Tuple-clause-ok t c =
    let is : c.args.lower.now ≡ tuple (opens_of c.deref-in-Tuple-Tuple.result.now) = sym c.lower.view_is ∙ ap open_of c.in-Tuple-Tuple.is-0 ∙ ap (λ (us : List Open). tuple (opens_of us)) (sym c.deref-in-Tuple-Tuple.ensures.value) in
    let at : c.args.upper.now ≡ tuple (opens_of c.deref-in-Tuple-Tuple-2.result.now) = sym c.upper.view_is ∙ ap open_of c.in-Tuple-Tuple.is-1 ∙ ap (λ (us : List Open). tuple (opens_of us)) (sym c.deref-in-Tuple-Tuple-2.ensures.value) in
    on_ok_weaker c.subtype_each.result (λ e. by_tuple c.args.context.now c.args.lower.now c.args.upper.now c.requires.rule (opens_of c.deref-in-Tuple-Tuple.result.now) (opens_of c.deref-in-Tuple-Tuple-2.result.now) (done c.subtype_each.new.context) is at e) c.subtype_each.ensures.ok

pub subtype_by_form-returns-in-Tuple-Tuple-clause-err : goal.subtype_by_form-returns-in-Tuple-Tuple-clause-err
subtype_by_form-returns-in-Tuple-Tuple-clause-err t c =
    let is : c.args.lower.now ≡ tuple (opens_of c.deref-in-Tuple-Tuple.result.now) = sym c.lower.view_is ∙ ap open_of c.in-Tuple-Tuple.is-0 ∙ ap (λ (us : List Open). tuple (opens_of us)) (sym c.deref-in-Tuple-Tuple.ensures.value) in
    let at : c.args.upper.now ≡ tuple (opens_of c.deref-in-Tuple-Tuple-2.result.now) = sym c.upper.view_is ∙ ap open_of c.in-Tuple-Tuple.is-1 ∙ ap (λ (us : List Open). tuple (opens_of us)) (sym c.deref-in-Tuple-Tuple-2.ensures.value) in
    IfErr-weaker c.subtype_each.result (IsRefused (SolvesSubtypes c.args.context.now (opens_of c.deref-in-Tuple-Tuple.result.now) (opens_of c.deref-in-Tuple-Tuple-2.result.now))) (IsRefused (SolvesSubtype c.args.context.now c.args.lower.now c.args.upper.now))
    (λ fault r. refused_as (SolvesSubtypes c.args.context.now (opens_of c.deref-in-Tuple-Tuple.result.now) (opens_of c.deref-in-Tuple-Tuple-2.result.now)) (SolvesSubtype c.args.context.now c.args.lower.now c.args.upper.now) fault (λ why e. by_tuple c.args.context.now c.args.lower.now c.args.upper.now c.requires.rule (opens_of c.deref-in-Tuple-Tuple.result.now) (opens_of c.deref-in-Tuple-Tuple-2.result.now) (refused why) is at e) r) c.subtype_each.ensures.err

pub subtype_by_form-subtype_each-requires-in-Data-Data : goal.subtype_by_form-subtype_each-requires-in-Data-Data
subtype_by_form-subtype_each-requires-in-Data-Data t c =
    let is : c.args.lower.now ≡ applied c.in-Data-Data.field-0-0 (opens_of c.deref-in-Data-Data.result.now) = sym c.lower.view_is ∙ ap open_of c.in-Data-Data.is-0 ∙ ap (λ (us : List Open). applied c.in-Data-Data.field-0-0 (opens_of us)) (sym c.deref-in-Data-Data.ensures.value) in
    let at : c.args.upper.now ≡ applied c.in-Data-Data.field-0-1 (opens_of c.deref-in-Data-Data-2.result.now) = sym c.upper.view_is ∙ ap open_of c.in-Data-Data.is-1 ∙ ap (λ (us : List Open). applied c.in-Data-Data.field-0-1 (opens_of us)) (sym c.deref-in-Data-Data-2.ensures.value) in
    let left = data_parts c.args.context.now c.args.lower.now c.requires.lower (opens_of c.deref-in-Data-Data.result.now) c.in-Data-Data.field-0-0 is in
    let right = data_parts c.args.context.now c.args.upper.now c.requires.upper (opens_of c.deref-in-Data-Data-2.result.now) c.in-Data-Data.field-0-1 at in (
      omega (arith, data_room c.args.context.now c.args.lower.now c.args.upper.now (opens_of c.deref-in-Data-Data.result.now) (opens_of c.deref-in-Data-Data-2.result.now) c.in-Data-Data.field-0-0 c.in-Data-Data.field-0-1 is at),
      (
        c.requires.monotypes,
        (c.requires.in_order, (left.0, (right.0, (left.1, (right.1, same_length c.deref-in-Data-Data.result.now c.deref-in-Data-Data-2.result.now (data_count c.args.context.now c.args.lower.now c.args.upper.now c.requires.rule c.in-Data-Data.field-0-0 c.in-Data-Data.field-0-1 (opens_of c.deref-in-Data-Data.result.now) (opens_of c.deref-in-Data-Data-2.result.now) is at)))))),
      ),
    )

pub subtype_by_form-returns-in-Data-Data-clause-ok : goal.subtype_by_form-returns-in-Data-Data-clause-ok
subtype_by_form-returns-in-Data-Data-clause-ok t c =
    let is : c.args.lower.now ≡ applied c.in-Data-Data.field-0-0 (opens_of c.deref-in-Data-Data.result.now) = sym c.lower.view_is ∙ ap open_of c.in-Data-Data.is-0 ∙ ap (λ (us : List Open). applied c.in-Data-Data.field-0-0 (opens_of us)) (sym c.deref-in-Data-Data.ensures.value) in
    let at : c.args.upper.now ≡ applied c.in-Data-Data.field-0-1 (opens_of c.deref-in-Data-Data-2.result.now) = sym c.upper.view_is ∙ ap open_of c.in-Data-Data.is-1 ∙ ap (λ (us : List Open). applied c.in-Data-Data.field-0-1 (opens_of us)) (sym c.deref-in-Data-Data-2.ensures.value) in
    on_ok_weaker c.subtype_each-in-Data-Data.result (λ e. by_data c.args.context.now c.args.lower.now c.args.upper.now c.requires.rule c.in-Data-Data.field-0-0 c.in-Data-Data.field-0-1 (opens_of c.deref-in-Data-Data.result.now) (opens_of c.deref-in-Data-Data-2.result.now) (done c.subtype_each-in-Data-Data.new.context) is at e) c.subtype_each-in-Data-Data.ensures.ok

pub subtype_by_form-returns-in-Data-Data-clause-err : goal.subtype_by_form-returns-in-Data-Data-clause-err
subtype_by_form-returns-in-Data-Data-clause-err t c =
    let is : c.args.lower.now ≡ applied c.in-Data-Data.field-0-0 (opens_of c.deref-in-Data-Data.result.now) = sym c.lower.view_is ∙ ap open_of c.in-Data-Data.is-0 ∙ ap (λ (us : List Open). applied c.in-Data-Data.field-0-0 (opens_of us)) (sym c.deref-in-Data-Data.ensures.value) in
    let at : c.args.upper.now ≡ applied c.in-Data-Data.field-0-1 (opens_of c.deref-in-Data-Data-2.result.now) = sym c.upper.view_is ∙ ap open_of c.in-Data-Data.is-1 ∙ ap (λ (us : List Open). applied c.in-Data-Data.field-0-1 (opens_of us)) (sym c.deref-in-Data-Data-2.ensures.value) in
    IfErr-weaker c.subtype_each-in-Data-Data.result (IsRefused (SolvesSubtypes c.args.context.now (opens_of c.deref-in-Data-Data.result.now) (opens_of c.deref-in-Data-Data-2.result.now))) (IsRefused (SolvesSubtype c.args.context.now c.args.lower.now c.args.upper.now))
    (λ fault r. refused_as (SolvesSubtypes c.args.context.now (opens_of c.deref-in-Data-Data.result.now) (opens_of c.deref-in-Data-Data-2.result.now)) (SolvesSubtype c.args.context.now c.args.lower.now c.args.upper.now) fault (λ why e. by_data c.args.context.now c.args.lower.now c.args.upper.now c.requires.rule c.in-Data-Data.field-0-0 c.in-Data-Data.field-0-1 (opens_of c.deref-in-Data-Data.result.now) (opens_of c.deref-in-Data-Data-2.result.now) (refused why) is at e) r) c.subtype_each-in-Data-Data.ensures.err

pub subtype_by_form-returns-then-same_open-clause-ok : goal.subtype_by_form-returns-then-same_open-clause-ok
subtype_by_form-returns-then-same_open-clause-ok t c =
    let is : c.args.lower.now ≡ existential c.in-Exists.x = sym c.lower.view_is ∙ ap open_of c.in-Exists.is in
    by_existential c.args.context.now c.args.lower.now c.args.upper.now c.requires.rule c.in-Exists.x c.in-Exists.x is (sym (c.same_open.ensures.0 c.if-same_open.true) ∙ is) refl

pub subtype_by_form-returns-in-Exists-clause-ok : goal.subtype_by_form-returns-in-Exists-clause-ok
subtype_by_form-returns-in-Exists-clause-ok t c =
    let is : c.args.lower.now ≡ existential c.in-Exists.x = sym c.lower.view_is ∙ ap open_of c.in-Exists.is in
    let apart : mentions c.in-Exists.x c.args.upper.now ≡ false =
    below_apart c.args.context.now c.args.lower.now c.args.upper.now c.requires.rule c.in-Exists.x is
    (λ y at same. false≢true (sym c.if-same_open.false ∙ c.same_open.ensures.1 (is ∙ ap existential same ∙ sym at))) in
    on_ok_weaker c.instantiate.result (λ d. by_below c.args.context.now c.args.lower.now c.args.upper.now c.requires.rule c.in-Exists.x (done c.instantiate.new.context) is c.requires.plain_upper apart d) c.instantiate.ensures.ok

pub subtype_by_form-returns-in-Exists-clause-err : goal.subtype_by_form-returns-in-Exists-clause-err
subtype_by_form-returns-in-Exists-clause-err t c =
    let is : c.args.lower.now ≡ existential c.in-Exists.x = sym c.lower.view_is ∙ ap open_of c.in-Exists.is in
    let apart : mentions c.in-Exists.x c.args.upper.now ≡ false =
    below_apart c.args.context.now c.args.lower.now c.args.upper.now c.requires.rule c.in-Exists.x is
    (λ y at same. false≢true (sym c.if-same_open.false ∙ c.same_open.ensures.1 (is ∙ ap existential same ∙ sym at))) in
    IfErr-weaker c.instantiate.result (IsRefused (SolvesInstance Below c.args.context.now c.in-Exists.x c.args.upper.now)) (IsRefused (SolvesSubtype c.args.context.now c.args.lower.now c.args.upper.now))
    (λ fault r. refused_as (SolvesInstance Below c.args.context.now c.in-Exists.x c.args.upper.now) (SolvesSubtype c.args.context.now c.args.lower.now c.args.upper.now) fault
    (λ why d. by_below c.args.context.now c.args.lower.now c.args.upper.now c.requires.rule c.in-Exists.x (refused why) is c.requires.plain_upper apart d) r) c.instantiate.ensures.err

pub subtype_by_form-returns-in-Exists-node : goal.subtype_by_form-returns-in-Exists-node
subtype_by_form-returns-in-Exists-node t c =
    let at : c.args.upper.now ≡ existential c.in-Exists-node.y = sym c.upper.view_is ∙ ap open_of c.in-Exists-node.is in
    let another : is_existential c.args.lower.now ≡ false = node_other c.lower.inside.node c.args.lower.now c.lower.view_is c.in_default.not-Exists in
    let apart : mentions c.in-Exists-node.y c.args.lower.now ≡ false = above_apart c.args.context.now c.args.lower.now c.args.upper.now c.requires.rule c.in-Exists-node.y at another in
    record {
      ok = on_ok_weaker c.instantiate-in-Exists-node.result
          (λ d. by_above c.args.context.now c.args.lower.now c.args.upper.now c.requires.rule c.in-Exists-node.y (done c.instantiate-in-Exists-node.new.context) at c.requires.plain_lower another apart d)
          c.instantiate-in-Exists-node.ensures.ok;
      err = IfErr-weaker c.instantiate-in-Exists-node.result (IsRefused (SolvesInstance Above c.args.context.now c.in-Exists-node.y c.args.lower.now)) (IsRefused (SolvesSubtype c.args.context.now c.args.lower.now c.args.upper.now))
          (λ fault r. refused_as (SolvesInstance Above c.args.context.now c.in-Exists-node.y c.args.lower.now) (SolvesSubtype c.args.context.now c.args.lower.now c.args.upper.now) fault
          (λ why d. by_above c.args.context.now c.args.lower.now c.args.upper.now c.requires.rule c.in-Exists-node.y (refused why) at c.requires.plain_lower another apart d) r) c.instantiate-in-Exists-node.ensures.err;
    }
