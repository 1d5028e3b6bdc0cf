-- Members of components have the types that they come to.
use Rattle.std.proofs.Common.{◌≡◌, ℕ, ◌+◌, true, List, [], length, refl, sym, ap, subst, ◌∙◌, arith}
use Rattle.uc_tree.specs.declared.definition.Definition.{Definition}
use Rattle.uc_tree.specs.Nodes.{ty_nodes}
use Rattle.uc_tree.specs.Terms.{Term}
use Rattle.uc_tree.specs.Types.{Ty}
use Rattle.uc_kinds.specs.PatternTyping.{Known}
use Rattle.uc_kinds.specs.Polytypes as poly
use Rattle.uc_kinds.specs.Polytypes.{closed_poly}
use Rattle.uc_kinds.specs.Subtyping.{IsSubtype}
use Rattle.uc_kinds.specs.Typing.{HasType, by_subtype, MeetsSignature, no_scope, DefinitionHasType, with_signature, without_signature}
use Rattle.uc_context.specs.Closing.{open_from, is_closed}
use Rattle.uc_context.specs.Contexts.{type_under}
use Rattle.uc_context.specs.Entries.{ContextEntries}
use Rattle.uc_context.specs.Generalising.{generalised}
use Rattle.uc_context.specs.Occurring.{existentials_of}
use Rattle.uc_context.specs.Opens.{Open}
use Rattle.uc_context.specs.Variables.{mentions}
use Rattle.uc_context.proofs.Replacing.{mentioned-declared}
use Rattle.uc_context.proofs.Unsolved.{unsolved}
use Rattle.uc_soundness.specs.Valuations.{Valuation, value, all_below}
use Rattle.uc_soundness.specs.WellFormed.{IsTypeIn, IsWellFormedContext}
use Rattle.uc_soundness.proofs.Extending.{same_rigids}
use Rattle.uc_soundness.proofs.GoingOn.{valuations_go_on}
use Rattle.uc_soundness.proofs.Outcomes.{Extended}
use Rattle.uc_soundness.proofs.Types.{type_declared}
use Rattle.uc_soundness.proofs.WellFormed.{well_formed_order}
use Rattle.uc_subtyping.specs.Outcomes.{done}
use Rattle.uc_typing.specs.Checking.{Synthesizes, synthesizes_small, synthesizes_large, synthesizes_stop, Meets}
use Rattle.uc_typing.specs.Components.{HasTypeFound, type_found, MemberOutcome, member_type, member_stop, HasMemberOutcome, signed_member, signed_stop, unsigned_member, unsigned_stop}
use Rattle.uc_typing.specs.Fronts.{front_count}
use Rattle.uc_typing.specs.Scopes.{Sight, no_sight}
use Rattle.uc_typing.specs.Stops.{leaves, TypeOutcome, gives, gives_none}
use Rattle.uc_sound_typing.specs.Formed.{IsFormedKnown, IsWritten, IsFormed, written_front, IsFormedDefinition}
use Rattle.uc_sound_typing.specs.Seeing.{none_bound, no_values, IsSeen}
use Rattle.uc_sound_typing.proofs.Choosing.{AreChosen, valuation_chosen}
use Rattle.uc_sound_typing.proofs.Quantifying.{value_by, numbered, counted, quantifiers, numbered_mono, value_mentioned, value_generalised, closed_from, numbers_scope, quantified_type}
use Rattle.uc_sound_typing.proofs.Reflexive.{type_reflexive}
use Rattle.uc_sound_typing.proofs.SoundForms.{GivenType}
use Rattle.uc_sound_typing.proofs.SoundTerms.{synthesizes_sound, meets_sound}
use Rattle.uc_sound_typing.proofs.Terms.{TypeExtended}
use Rattle.uc_sound_typing.proofs.TermsExtend.{synthesizes_extends, meets_extends}
use Rattle.uc_sound_typing.proofs.WrittenTypes.{open_typed, open_same, front_written, value_open}

seen_nothing : IsSeen [] no_sight
seen_nothing = record { variables = none_bound; rigids = tt }

-- each type is unit
nothing : Valuation 0
nothing = record { stands_for = λ x. poly.unit }

pub signed_sound : (known : Known) (at : ℕ) (e : Term) (ty : Ty) (fs : ContextEntries) → Meets known no_sight at [] e (open_from ty) (leaves fs) → IsFormedKnown known → IsWritten known.arity 0 ty → IsFormed known 0 (written_front ty) e
    → MeetsSignature known no_scope e (closed_poly ty)
signed_sound known at e ty fs d formed w h =
    let front : front_count (open_from ty) ≡ written_front ty = ap front_count (sym (open_same 0 ty)) ∙ front_written [] 0 ty in
    let moved : written_front ty ≡ front_count (open_from ty) + 0 = omega (arith, front) in
    let body : IsFormed known 0 (front_count (open_from ty) + 0) e = subst (λ (j : ℕ). IsFormed known 0 j e) moved h in
    let typed = open_typed known.arity [] ty w in
    let x : Extended known.arity [] (done fs) = meets_extends d formed 0 body tt seen_nothing typed in
    let r = valuations_go_on known.arity 0 [] fs x.0 nothing tt in
    subst (MeetsSignature known no_scope e) (value_open r.0 ty) (meets_sound d 0 formed 0 body tt seen_nothing typed r.0 r.1 [] no_values)

-- the type that is found has the solutions put in
abbrev IsUnder : TypeOutcome → Type 0
IsUnder (gives t fs) = (s : Open) × (t ≡ type_under fs s)
IsUnder (gives_none stop) = Unit {0}

found_under : {known : Known} {sight : Sight} {at : ℕ} {es : ContextEntries} {e : Term} {o : TypeOutcome} → Synthesizes known sight at es e o → IsUnder o
found_under (synthesizes_small {t = t} d small is) = (t, is)
found_under (synthesizes_large d large) = tt
found_under (synthesizes_stop d) = tt

-- the existentials of a type that is found stand for rigid variables
module _ (known : Known) (fs : ContextEntries) (t : Open) (wf : IsWellFormedContext known.arity fs) (typed : IsTypeIn known.arity fs 0 t) (under : IsUnder (gives t fs)) {outer : ℕ} (σ : Valuation outer) where
  value_numbered : (xs : List ℕ) → AreChosen known.arity (numbered 0 xs) σ fs → value σ t ≡ value_by outer (λ k x. numbered 0 xs x) 0 t
  value_numbered xs chosen =
      value_mentioned σ (numbered 0 xs) 0 t
      (λ x m. chosen x (mentioned-declared x fs t (type_declared known.arity fs 0 t typed) m) (unsolved fs under.0 (well_formed_order known.arity [] fs wf) x (subst (λ (v : Open). mentions x v ≡ true) under.1 m)))

-- a type is found with its existentials as outer rigid variables, which the quantifiers at its front then bind, the outermost first
generalised_sound : (known : Known) (e : Term) (t : Open) (fs : ContextEntries) (ty : Ty) → Synthesizes known no_sight 1 [] e (gives t fs) → open_from ty ≡ generalised (existentials_of t) t
    → IsFormedKnown known → IsFormed known 0 0 e → HasType known no_scope e (closed_poly ty)
generalised_sound known e t fs ty d is formed h =
    let xs : List ℕ = existentials_of t in
    let outer : ℕ = length xs in
    let total : length xs + 0 ≡ outer = omega arith in
    let x : TypeExtended known.arity [] (gives t fs) = synthesizes_extends d formed 0 h tt seen_nothing in
    let r = valuation_chosen known.arity {outer = outer} (numbered 0 xs) fs x.0 (λ y. numbered_mono known.arity outer 0 xs y total) in
    let below : IsSubtype known.arity (all_below outer) (value r.0 t) (value r.0 t) =
    subst (λ (ys : List ℕ). IsSubtype known.arity ys (value r.0 t) (value r.0 t)) (same_rigids outer (all_below outer) x.1) (type_reflexive known.arity r.0 fs t x.0 r.1 x.2) in
    let inferred : GivenType known outer [] no_sight e (gives t fs) = synthesizes_sound d outer formed 0 h tt seen_nothing in
    let inside : HasType known (numbers_scope outer) e (value r.0 t) = by_subtype (value r.0 t) (inferred r.0 r.1 [] no_values) below in
    let by_number : HasType known (numbers_scope outer) e (value_by outer (λ k y. numbered 0 xs y) 0 t) = subst (HasType known (numbers_scope outer) e) (value_numbered known fs t x.0 x.2 (found_under d) r.0 xs r.2) inside in
    let whole : HasType known no_scope e (quantifiers xs (value_by outer (counted xs) 0 t)) = quantified_type known fs outer e t x.2 xs 0 (λ y p. p) (λ n s y p. refl) total by_number in
    let same : closed_poly ty ≡ quantifiers xs (value_by outer (counted xs) 0 t) =
    sym (value_open r.0 ty) ∙ ap (value r.0) is ∙ value_generalised r.0 xs t (subst (λ (v : Open). is_closed v ≡ true) is (closed_from ty)) in
    subst (HasType known no_scope e) (sym same) whole

unsigned_sound : {known : Known} {e : Term} {u : Open} → HasTypeFound known e u → (ty : Ty) → open_from ty ≡ u → IsFormedKnown known → IsFormed known 0 0 e → HasType known no_scope e (closed_poly ty)
unsigned_sound (type_found {known = known} {e = e} {t = t} {es = es} d is small) ty same formed h = generalised_sound known e t es ty d (same ∙ is) formed h

-- what a member comes to is its type
abbrev pub IsTypeOf : Known → Definition → MemberOutcome → Type 0
IsTypeOf known d (member_type ty) = DefinitionHasType known d ty
IsTypeOf known d (member_stop stop) = Unit {0}

pub member_sound : {known : Known} {d : Definition} {o : MemberOutcome} → HasMemberOutcome known d o → IsFormedKnown known → IsFormedDefinition known d → IsTypeOf known d o
member_sound (signed_member {known = known} {ty = ty} {e = e} {es = es} d) formed h = with_signature (signed_sound known (1 + length (ty_nodes ty)) e ty es d formed h.0 h.1)
member_sound (signed_stop d) formed h = tt
member_sound (unsigned_member {ty = ty} d) formed h = without_signature (unsigned_sound d ty refl formed h.1)
member_sound (unsigned_stop d) formed h = tt
