use Rattle.std.proofs.Common.{◌≡◌, ℕ, length, sym, ap, subst, ◌∙◌}
use Rattle.std.proofs.lemmas.Result.{err_from_is_err_and}
use Rattle.uc_kinds.specs.PatternTyping.{Known}
use Rattle.uc_context.specs.Closing.{open_from}
use Rattle.uc_context.specs.Opens.{Open}
use Rattle.uc_soundness.specs.WellFormed.{IsTypeIn}
use Rattle.uc_tree.specs.Nodes.{term_nodes, ty_nodes}
use Rattle.uc_tree.specs.Terms.{Term}
use Rattle.uc_tree.specs.Types.{Ty}
use Rattle.uc_typing.specs.Components.{HasMemberOutcome, member_stop}
use Rattle.uc_typing.specs.Fronts.{front_count}
use Rattle.uc_typing.specs.Stops.{stops}
use Rattle.uc_patterns.specs.declared.state.State.{State}
use Rattle.uc_patterns.specs.Spots.{passed}
use Rattle.uc_check.specs.Walks.{IsAsked, IsChecked, ahead, first_state, MeetsIn}
use Rattle.uc_check.proofs.FindSteps.{state_by}
use Rattle.uc_check.proofs.FindWalks.{stopped_as}
use Rattle.uc_check.proofs.MemberRules.{signed, signature_typed, signed_asked, signed_found, signed_stops, meets_as}
use Rattle.uc_check.proofs.members.type_signed.Goals as goal

pub meet-requires-clause-asked : goal.meet-requires-clause-asked
meet-requires-clause-asked g c =
    let known : Known = g.K.TargetTypes.known c.args.known.now in
    let ty : Ty = c.args.signature.now in
    let e : Term = c.args.body.now in
    let k : ℕ = length (ty_nodes ty) in
    let start : State = record { context = c.first_state-state.result.context; sight = c.first_state-state.result.sight; spot = c.pass_type.new.spot } in
    let at_first : c.first_state-state.result ≡ first_state c.args.member = c.first_state-state.ensures in
    let there : start ≡ ahead k (first_state c.args.member) =
    state_by start (first_state c.args.member).context (first_state c.args.member).sight (passed (first_state c.args.member).spot k) (ap (λ (s : State). s.context) at_first) (ap (λ (s : State). s.sight) at_first) (c.pass_type.ensures ∙ ap (λ (s : State). passed s.spot k) at_first) in
    let of : Open = c.in_ok-of.of in
    let is : of ≡ open_from ty = c.in_ok-of.ensures in
    subst (λ (s : State). IsAsked known s (front_count of) e) (sym there) (subst (λ (t : Open). IsAsked known (ahead k (first_state c.args.member)) (front_count t) e) (sym is) (signed_asked known c.requires.known c.args.member ty e c.requires.formed c.requires.small))

pub meet-requires-clause-typed : goal.meet-requires-clause-typed
meet-requires-clause-typed g c =
    let known : Known = g.K.TargetTypes.known c.args.known.now in
    let ty : Ty = c.args.signature.now in
    let e : Term = c.args.body.now in
    let k : ℕ = length (ty_nodes ty) in
    let start : State = record { context = c.first_state-state.result.context; sight = c.first_state-state.result.sight; spot = c.pass_type.new.spot } in
    let at_first : c.first_state-state.result ≡ first_state c.args.member = c.first_state-state.ensures in
    let there : start ≡ ahead k (first_state c.args.member) =
    state_by start (first_state c.args.member).context (first_state c.args.member).sight (passed (first_state c.args.member).spot k) (ap (λ (s : State). s.context) at_first) (ap (λ (s : State). s.sight) at_first) (c.pass_type.ensures ∙ ap (λ (s : State). passed s.spot k) at_first) in
    let of : Open = c.in_ok-of.of in
    let is : of ≡ open_from ty = c.in_ok-of.ensures in
    subst (λ (s : State). IsTypeIn known.arity s.context 0 of) (sym there) (subst (IsTypeIn known.arity (first_state c.args.member).context 0) (sym is) (signature_typed known c.requires.known c.args.member ty e c.requires.formed c.requires.small))

pub returns-in_err-meet-clause-err : goal.returns-in_err-meet-clause-err
returns-in_err-meet-clause-err g c =
    let known : Known = g.K.TargetTypes.known c.args.known.now in
    let ty : Ty = c.args.signature.now in
    let e : Term = c.args.body.now in
    let k : ℕ = length (ty_nodes ty) in
    let start : State = record { context = c.first_state-state.result.context; sight = c.first_state-state.result.sight; spot = c.pass_type.new.spot } in
    let at_first : c.first_state-state.result ≡ first_state c.args.member = c.first_state-state.ensures in
    let there : start ≡ ahead k (first_state c.args.member) =
    state_by start (first_state c.args.member).context (first_state c.args.member).sight (passed (first_state c.args.member).spot k) (ap (λ (s : State). s.context) at_first) (ap (λ (s : State). s.sight) at_first) (c.pass_type.ensures ∙ ap (λ (s : State). passed s.spot k) at_first) in
    let of : Open = c.in_ok-of.of in
    let is : of ≡ open_from ty = c.in_ok-of.ensures in
    let p = err_from_is_err_and c.from_residual-in_err-meet.result c.from_residual-in_err-meet.ensures.1 in
    rw (p.1, p.2) (stopped_as start.spot.member c.args.member (λ stop. MeetsIn known start e of (stops stop)) (λ stop. HasMemberOutcome known (signed known c.requires.known c.args.member ty e) (member_stop stop)) _ (ap (λ (s : State). s.spot.member) there)
    (λ stop d. signed_stops known c.requires.known c.args.member ty e stop of is (subst (λ (s : State). MeetsIn known s e of (stops stop)) there d)) c.in_err-meet.ensures.err)

pub returns-clause-ok : goal.returns-clause-ok
returns-clause-ok g c =
    let known : Known = g.K.TargetTypes.known c.args.known.now in
    let ty : Ty = c.args.signature.now in
    let e : Term = c.args.body.now in
    let k : ℕ = length (ty_nodes ty) in
    let start : State = record { context = c.first_state-state.result.context; sight = c.first_state-state.result.sight; spot = c.pass_type.new.spot } in
    let at_first : c.first_state-state.result ≡ first_state c.args.member = c.first_state-state.ensures in
    let there : start ≡ ahead k (first_state c.args.member) =
    state_by start (first_state c.args.member).context (first_state c.args.member).sight (passed (first_state c.args.member).spot k) (ap (λ (s : State). s.context) at_first) (ap (λ (s : State). s.sight) at_first) (c.pass_type.ensures ∙ ap (λ (s : State). passed s.spot k) at_first) in
    let of : Open = c.in_ok-of.of in
    let is : of ≡ open_from ty = c.in_ok-of.ensures in
    let w : IsChecked (MeetsIn known (ahead k (first_state c.args.member)) e of) (ahead k (first_state c.args.member)) c.meet.new.state (length (term_nodes e)) = meets_as known start (ahead k (first_state c.args.member)) there e of c.meet.new.state (length (term_nodes e)) c.in_ok-meet.ensures.ok in
    signed_found known c.requires.known c.args.member ty e c.meet.new.state (length (term_nodes e)) of c.in_ok-ty.ty is w c.in_ok-ty.ensures
