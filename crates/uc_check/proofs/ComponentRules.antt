-- What components come to, as far as a loop over their members has come.
use Rattle.std.proofs.Common.{◌≡◌, ℕ, suc, ◌+◌, ◌<◌, ◌≤◌, List, [], ◌∷◌, ◌++◌, take, drop, Option, Some, None, All, length, get_or, refl, sym, ap, subst, ◌∙◌, inl, inr, arith}
use Rattle.std.proofs.lemmas.List.{take_more}
use Rattle.uc_base.specs.declared.fault.Fault.{Fault}
use Rattle.uc_base.specs.declared.fault.Fault.TheVariants.{NeedsSignature}
use Rattle.uc_base.specs.declared.place.At.TheVariants as at
use Rattle.uc_kinds.specs.PatternTyping.{Known}
use Rattle.uc_kinds.specs.Typing.{DefinitionHasType}
use Rattle.uc_tree.specs.declared.definition.Definition.{Definition}
use Rattle.uc_tree.specs.Types.{Ty}
use Rattle.uc_typing.specs.Components.{HasMemberOutcome, member_type, member_stop, CheckOutcome, types, needs, stopped_at, HaveOutcomes, all_have_types, member_has_type, member_stops, missing_signature, HasOutcome, missing}
use Rattle.uc_typing.specs.Stops.{Stop, needs_signature, ill_typed, too_large}
use Rattle.uc_patterns.specs.Spots.{fault_at, IsStopped}
use Rattle.uc_check.specs.Answers.{fault_of, IsFaultOf, AreTyped, IsAnswer, AreAnswers}
use Rattle.uc_sound_typing.specs.Formed.{IsFormedKnown, IsFormedDefinition}
use Rattle.uc_sound_typing.proofs.Members.{member_sound}
use Rattle.uc_check.proofs.MemberWritten.{member_answer}
use Rattle.uc_check.proofs.UsesBelow.{left_at, left_none}

-- the fault of a stop
pub fault_stopped : (k : ℕ) (stop : Stop) → fault_of (stopped_at k stop) ≡ Some (fault_at k stop)
fault_stopped k (needs_signature n) = refl
fault_stopped k (ill_typed n) = refl
fault_stopped k (too_large n) = refl

pub stopped_fault : (k : ℕ) (P : Stop → Type 0) (Q : CheckOutcome → Type 0) (fault : Fault) → ((stop : Stop) → P stop → Q (stopped_at k stop)) → IsStopped k P fault → IsFaultOf Q fault
stopped_fault k P Q fault f (inl is) = inl is
stopped_fault k P Q fault f (inr s) = inr (stopped_at k s.0, fault_stopped k s.0 ∙ ap (λ (x : Fault). Some x) (sym s.1), f s.0 s.2)

-- a signature that is missing
pub missing_fault : (known : Known) (ds : List Definition) (k : ℕ) → missing_signature ds ≡ Some k → IsFaultOf (HasOutcome known ds) (NeedsSignature (at.Spot (record { member = k; node = 0 })))
missing_fault known ds k is = inr (needs (record { member = k; node = 0 }), refl, missing is refl)

-- members that are left, from whose outcomes that of all follows; those before them have types
pub record PendingMembers (known : Known) (ds : List Definition) (k : ℕ) (found : List Ty) : Type 0 where
  pub ends : (o : CheckOutcome) → HaveOutcomes known k (drop k ds) found o → HaveOutcomes known 0 ds [] o
  pub typed : AreTyped known (take k ds) found
  pub answers : AreAnswers known (take k ds) found

typed_more : (known : Known) (ds : List Definition) (tys : List Ty) (d : Definition) (ty : Ty) → AreTyped known ds tys → DefinitionHasType known d ty → AreTyped known (ds ++ d ∷ []) (tys ++ ty ∷ [])
typed_more known [] [] d ty h t = (t, tt)
typed_more known [] (u ∷ us) d ty h t = absurd h
typed_more known (e ∷ es) [] d ty h t = absurd h
typed_more known (e ∷ es) (u ∷ us) d ty h t = (h.0, typed_more known es us d ty h.1 t)

answers_more : (known : Known) (ds : List Definition) (tys : List Ty) (d : Definition) (ty : Ty) → AreAnswers known ds tys → IsAnswer known d ty → AreAnswers known (ds ++ d ∷ []) (tys ++ ty ∷ [])
answers_more known [] [] d ty h t = (t, tt)
answers_more known [] (u ∷ us) d ty h t = absurd h
answers_more known (e ∷ es) [] d ty h t = absurd h
answers_more known (e ∷ es) (u ∷ us) d ty h t = (h.0, answers_more known es us d ty h.1 t)

took_more : (ds : List Definition) (k : ℕ) (d : Definition) → k < length ds → d ≡ get_or ds k d → take (k + 1) ds ≡ take k ds ++ d ∷ []
took_more ds k d within is = take_more ds k d within ∙ ap (λ (e : Definition). take k ds ++ e ∷ []) (sym is)

module _ (known : Known) (ds : List Definition) where
  module _ (k : ℕ) (found : List Ty) (p : PendingMembers known ds k found) where
    module _ (d : Definition) (within : k < length ds) (is : d ≡ get_or ds k d) where
      pub members_next : (ty : Ty) (after : List Ty) → after ≡ found ++ ty ∷ [] → HasMemberOutcome known d (member_type ty) → IsFormedKnown known → IsFormedDefinition known d → PendingMembers known ds (k + 1) after
      members_next ty after after_is w known_is formed =
          let same : k + 1 ≡ suc k = omega arith in
          record {
            ends = λ o h. p.ends o (subst (λ (es : List Definition). HaveOutcomes known k es found o) (sym (left_at ds k d within is)) (member_has_type w after_is (subst (λ (m : ℕ). HaveOutcomes known m (drop (k + 1) ds) after o) same h)));
            typed = subst (λ (tys : List Ty). AreTyped known (take (k + 1) ds) tys) (sym after_is) (subst (λ (es : List Definition). AreTyped known es (found ++ ty ∷ [])) (sym (took_more ds k d within is)) (typed_more known (take k ds) found d ty p.typed (member_sound w known_is formed)));
            answers = subst (λ (tys : List Ty). AreAnswers known (take (k + 1) ds) tys) (sym after_is) (subst (λ (es : List Definition). AreAnswers known es (found ++ ty ∷ [])) (sym (took_more ds k d within is)) (answers_more known (take k ds) found d ty p.answers (member_answer w known_is formed)));
          }

      pub members_stop : (stop : Stop) → HasMemberOutcome known d (member_stop stop) → HaveOutcomes known 0 ds [] (stopped_at k stop)
      members_stop stop w = p.ends (stopped_at k stop) (subst (λ (es : List Definition). HaveOutcomes known k es found (stopped_at k stop)) (sym (left_at ds k d within is)) (member_stops w refl))

    pub members_end : length ds ≤ k → HaveOutcomes known 0 ds [] (types found)
    members_end end = p.ends (types found) (subst (λ (es : List Definition). HaveOutcomes known k es found (types found)) (sym (left_none ds k end)) all_have_types)

-- what holds of all holds of one
pub all_at : (P : Definition → Type 0) (ds : List Definition) (k : ℕ) (d : Definition) → All P ds → k < length ds → d ≡ get_or ds k d → P d
all_at P ds k d all within is = subst P (sym is) (all k d within)

-- what isn't there
pub none_left : (o : Option ℕ) → ((x : ℕ) → o ≡ Some x → ⊥) → o ≡ None
none_left None f = refl
none_left (Some x) f = absurd (f x refl)
