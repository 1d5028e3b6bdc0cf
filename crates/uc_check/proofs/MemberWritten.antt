-- What members come to is well-formed.
use Rattle.std.proofs.Common.{[], None, refl, sym, subst}
use Rattle.std.proofs.lemmas.Option.{none-some}
use Rattle.uc_kinds.specs.PatternTyping.{Known}
use Rattle.uc_context.specs.Closing.{open_from}
use Rattle.uc_context.specs.Counts.{IsSmall}
use Rattle.uc_context.specs.Entries.{is_rigid}
use Rattle.uc_context.specs.Opens.{Open}
use Rattle.uc_soundness.specs.WellFormed.{IsTypeIn}
use Rattle.uc_soundness.proofs.Extending.{same_test}
use Rattle.uc_tree.specs.declared.definition.Definition.{Definition}
use Rattle.uc_tree.specs.Terms.{Term}
use Rattle.uc_tree.specs.Types.{Ty}
use Rattle.uc_typing.specs.Components.{HasTypeFound, type_found, MemberOutcome, member_type, member_stop, HasMemberOutcome, signed_member, signed_stop, unsigned_member, unsigned_stop}
use Rattle.uc_typing.specs.Scopes.{no_sight}
use Rattle.uc_typing.specs.Stops.{gives}
use Rattle.uc_sound_typing.specs.Formed.{IsFormedKnown, IsFormed, IsFormedDefinition}
use Rattle.uc_sound_typing.specs.Seeing.{none_bound, IsSeen}
use Rattle.uc_sound_typing.proofs.Terms.{TypeExtended}
use Rattle.uc_sound_typing.proofs.TermsExtend.{synthesizes_extends}
use Rattle.uc_check.specs.Answers.{IsAnswer}
use Rattle.uc_check.proofs.MemberClosed.{generalised_typed, type_from}

seen_nothing : IsSeen [] no_sight
seen_nothing = record { variables = none_bound; rigids = tt }

-- a type that is found is well-formed and within limits
found_formed : {known : Known} {e : Term} {u : Open} → HasTypeFound known e u → IsFormedKnown known → IsFormed known 0 0 e → IsTypeIn known.arity [] 0 u × IsSmall u
found_formed (type_found {known = known} {t = t} {es = es} d is small) formed h =
    let x : TypeExtended known.arity [] (gives t es) = synthesizes_extends d formed 0 h tt seen_nothing in
    (subst (IsTypeIn known.arity [] 0) (sym is) (generalised_typed known.arity es (λ y. same_test (is_rigid y) (λ z. refl) (λ z s. refl) x.1) t x.2), small)

pub found_answer : (known : Known) (e : Term) (ty : Ty) → HasTypeFound known e (open_from ty) → IsFormedKnown known → IsFormed known 0 0 e → IsAnswer known (record { signature = None; body = e }) ty
found_answer known e ty w formed h = let f = found_formed w formed h in record { written = type_from known.arity 0 ty f.0; small = λ none. f.1 }

-- what a member comes to
abbrev pub AnswerOf : Known → Definition → MemberOutcome → Type 0
AnswerOf known d (member_type ty) = IsAnswer known d ty
AnswerOf known d (member_stop stop) = Unit {0}

pub member_answer : {known : Known} {d : Definition} {o : MemberOutcome} → HasMemberOutcome known d o → IsFormedKnown known → IsFormedDefinition known d → AnswerOf known d o
member_answer (signed_member {ty = ty} d) formed h = record { written = h.0; small = λ none. absurd (none-some ty (sym none)) }
member_answer (signed_stop d) formed h = tt
member_answer (unsigned_member {known = known} {ty = ty} {e = e} d) formed h = found_answer known e ty d formed h.1
member_answer (unsigned_stop d) formed h = tt
