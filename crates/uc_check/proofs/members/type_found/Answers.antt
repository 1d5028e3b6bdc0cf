use Rattle.std.proofs.Common.{false, ◌≡◌, ℕ, List, length, sym, ap, subst, ◌∙◌, inr}
use Rattle.std.proofs.lemmas.Result.{err_from_is_err_and}
use Rattle.uc_base.specs.declared.fault.Fault.TheVariants.{TypeTooLarge}
use Rattle.uc_base.specs.declared.place.At.TheVariants as at
use Rattle.uc_kinds.specs.PatternTyping.{Known}
use Rattle.uc_context.specs.Closing.{open_from, is_closed}
use Rattle.uc_context.specs.Counts.{IsSmall}
use Rattle.uc_context.specs.Generalising.{generalised}
use Rattle.uc_context.specs.Occurring.{existentials_of}
use Rattle.uc_context.specs.Opens.{Open}
use Rattle.uc_tree.specs.Nodes.{term_nodes}
use Rattle.uc_tree.specs.Terms.{Term}
use Rattle.uc_typing.specs.Components.{HasNoTypeFound}
use Rattle.uc_typing.specs.Stops.{too_large, gives_none}
use Rattle.uc_patterns.specs.declared.state.State.{State}
use Rattle.uc_check.specs.Walks.{IsAsked, IsFound, first_state, SynthesizesIn}
use Rattle.uc_check.proofs.FindSteps.{found_as_start}
use Rattle.uc_check.proofs.FindWalks.{stopped_as}
use Rattle.uc_check.proofs.MemberRules.{member_asked, found_closed, found_type, found_large, none_found, at_none, at_some, only_large}
use Rattle.uc_check.proofs.members.type_found.Goals as goal

pub synthesize-requires : goal.synthesize-requires
synthesize-requires g c =
    let known : Known = g.K.TargetTypes.known c.args.known.now in
    let e : Term = c.args.term.now in
    let start : State = c.first_state-state.result in
    let at_first : start ≡ first_state c.args.member = c.first_state-state.ensures in
    record { asked = subst (λ (s : State). IsAsked known s 0 e) (sym at_first) (member_asked known c.requires.known c.args.member e c.requires.formed c.requires.small) }

pub returns-in_err-found-clause-err : goal.returns-in_err-found-clause-err
returns-in_err-found-clause-err g c =
    let known : Known = g.K.TargetTypes.known c.args.known.now in
    let e : Term = c.args.term.now in
    let start : State = c.first_state-state.result in
    let at_first : start ≡ first_state c.args.member = c.first_state-state.ensures in
    let p = err_from_is_err_and c.from_residual.result c.from_residual.ensures.1 in
    rw (p.1, p.2) (stopped_as start.spot.member c.args.member (λ stop. SynthesizesIn known start e (gives_none stop)) (λ stop. HasNoTypeFound known e stop) _ (ap (λ (s : State). s.spot.member) at_first)
    (λ stop d. none_found known c.requires.known c.args.member e c.requires.formed c.requires.small stop (subst (λ (s : State). SynthesizesIn known s e (gives_none stop)) at_first d)) c.in_err-found.ensures.err)

pub returns-in-Err-TypeTooLarge-clause-err : goal.returns-in-Err-TypeTooLarge-clause-err
returns-in-Err-TypeTooLarge-clause-err g c =
    let known : Known = g.K.TargetTypes.known c.args.known.now in
    let e : Term = c.args.term.now in
    let start : State = c.first_state-state.result in
    let at_first : start ≡ first_state c.args.member = c.first_state-state.ensures in
    let new : State = c.synthesize.new.state in
    let found : Open = c.in_ok-found.found in
    let w : IsFound (SynthesizesIn known (first_state c.args.member) e) (first_state c.args.member) new (length (term_nodes e)) found = found_as_start known start (first_state c.args.member) at_first e new (length (term_nodes e)) found c.in_ok-found.ensures.ok in
    let numbers : List ℕ = c.deref.result.now in
    let are : numbers ≡ existentials_of found = c.deref.ensures.value ∙ c.in_ok-numbers.ensures in
    inr (
      too_large 1,
      ap (λ (s : State). TypeTooLarge (at.Spot s.spot)) at_first,
      found_large known c.requires.known c.args.member e c.requires.formed c.requires.small new (length (term_nodes e)) found w numbers are (only_large c.in-Err-TypeTooLarge.field-0 c.in-Err-TypeTooLarge.field-0-0 (IsSmall (generalised numbers found) → ⊥) c.in-Err-TypeTooLarge.field-0-is c.in-Err-TypeTooLarge.ensures.err),
    )

pub unreachable-requires : goal.unreachable-requires
unreachable-requires g c =
    let known : Known = g.K.TargetTypes.known c.args.known.now in
    let e : Term = c.args.term.now in
    let start : State = c.first_state-state.result in
    let at_first : start ≡ first_state c.args.member = c.first_state-state.ensures in
    let new : State = c.synthesize.new.state in
    let found : Open = c.in_ok-found.found in
    let w : IsFound (SynthesizesIn known (first_state c.args.member) e) (first_state c.args.member) new (length (term_nodes e)) found = found_as_start known start (first_state c.args.member) at_first e new (length (term_nodes e)) found c.in_ok-found.ensures.ok in
    let numbers : List ℕ = c.deref.result.now in
    let are : numbers ≡ existentials_of found = c.deref.ensures.value ∙ c.in_ok-numbers.ensures in
    found_closed known c.requires.known c.args.member e c.requires.formed c.requires.small new (length (term_nodes e)) found w numbers c.in-Ok.generalised are c.in-Ok.ensures.ok.0
    (at_none c.in_ok-ty.field-0 (is_closed c.in-Ok.generalised ≡ false) (λ t. open_from t ≡ c.in-Ok.generalised) c.in-None.is c.in_ok-ty.ensures.ok)

pub returns-clause-ok : goal.returns-clause-ok
returns-clause-ok g c =
    let known : Known = g.K.TargetTypes.known c.args.known.now in
    let e : Term = c.args.term.now in
    let start : State = c.first_state-state.result in
    let at_first : start ≡ first_state c.args.member = c.first_state-state.ensures in
    let new : State = c.synthesize.new.state in
    let found : Open = c.in_ok-found.found in
    let w : IsFound (SynthesizesIn known (first_state c.args.member) e) (first_state c.args.member) new (length (term_nodes e)) found = found_as_start known start (first_state c.args.member) at_first e new (length (term_nodes e)) found c.in_ok-found.ensures.ok in
    let numbers : List ℕ = c.deref.result.now in
    let are : numbers ≡ existentials_of found = c.deref.ensures.value ∙ c.in_ok-numbers.ensures in
    found_type known c.requires.known c.args.member e c.requires.formed c.requires.small new (length (term_nodes e)) found w numbers c.in-Ok.generalised c.in-Some.ty are c.in-Ok.ensures.ok.0 c.in-Ok.ensures.ok.1
    (at_some c.in_ok-ty.field-0 c.in-Some.ty (is_closed c.in-Ok.generalised ≡ false) (λ t. open_from t ≡ c.in-Ok.generalised) c.in-Some.is c.in_ok-ty.ensures.ok)
