-- What components come to: at most one thing, and the same where links are replaced by others of equal types.
use Rattle.std.proofs.Common.{◌≡◌, ℕ, zero, suc, ◌+◌, Bool, true, false, cond, List, [], ◌∷◌, ◌++◌, map, length, Option, Some, None, refl, sym, ap, ap₂, subst, subst₂, ◌∙◌}
use Rattle.std.proofs.lemmas.Option.{same_Some}
use Rattle.uc_base.specs.declared.reference.Ref.{Ref}
use Rattle.uc_tree.specs.declared.definition.Definition.{Definition}
use Rattle.uc_tree.specs.Nodes.{ty_nodes}
use Rattle.uc_tree.specs.Terms.{Term}
use Rattle.uc_tree.specs.Types.{Ty, Tys}
use Rattle.uc_tree.specs.Types as types
use Rattle.uc_kinds.specs.PatternTyping.{Known}
use Rattle.uc_context.specs.Closing.{open_from, opens_from}
use Rattle.uc_context.specs.Counts.{IsSmall}
use Rattle.uc_context.specs.Entries.{ContextEntries}
use Rattle.uc_context.specs.Generalising.{generalised}
use Rattle.uc_context.specs.Occurring.{existentials_of}
use Rattle.uc_context.specs.Opens.{Open}
use Rattle.uc_subtyping.specs.Laws.{SubtypesHaveOneOutcome}
use Rattle.uc_typing.specs.Checking.{Synthesizes, Meets}
use Rattle.uc_typing.specs.Components.{HasTypeFound, type_found, HasNoTypeFound, no_type_found, type_too_large, MemberOutcome, member_type, member_stop, HasMemberOutcome, signed_member, signed_stop, unsigned_member, unsigned_stop}
use Rattle.uc_typing.specs.Components.{CheckOutcome, types, needs, stopped_at, HaveOutcomes, all_have_types, member_has_type, member_stops, is_cycle, number_or, first_unsigned, missing_signature, with_members, HasOutcome, missing, by_members, HasWatchOutcome, watch_type, watch_stop}
use Rattle.uc_typing.specs.Relinking.{relinked, definition_relinked, KeepsTypes}
use Rattle.uc_typing.specs.Scopes.{no_sight}
use Rattle.uc_typing.specs.Stops.{Stop, leaves, stops, gives, gives_none, too_large}
use Rattle.uc_typing.proofs.OneOutcome.{SameType, gives_same, gives_none_same, gives_not_none, stops_same, leaves_not_stops, one_synthesis, one_meeting}
use Rattle.uc_typing.proofs.RelinkedOutcomes.{synthesis_stays, meeting_stays}
use Rattle.uc_typing.proofs.RelinkedTerms.{term_own}

-- two closed types that are one with variables are one
mutual
  open_from_same : (t u : Ty) → open_from t ≡ open_from u → t ≡ u
  open_from_same (types.variable m) (types.variable n) p = cc
  open_from_same (types.quantified t) (types.quantified u) p = let e : t ≡ u = open_from_same t u cc in cc
  open_from_same (types.arrow a b) (types.arrow c d) p = let e : a ≡ c = open_from_same a c cc in let f : b ≡ d = open_from_same b d cc in cc
  open_from_same types.unit types.unit p = refl
  open_from_same (types.tuple ts) (types.tuple us) p = let e : ts ≡ us = opens_from_same ts us cc in cc
  open_from_same (types.applied h ts) (types.applied k us) p = let e : ts ≡ us = opens_from_same ts us cc in cc
  open_from_same _ _ p = cc

  opens_from_same : (ts us : Tys) → opens_from ts ≡ opens_from us → ts ≡ us
  opens_from_same types.none types.none p = refl
  opens_from_same (types.more t ts) (types.more u us) p = let e : t ≡ u = open_from_same t u cc in let f : ts ≡ us = opens_from_same ts us cc in cc
  opens_from_same _ _ p = cc

some_not_none : {n : ℕ} → Some n ≡ None → ⊥
some_not_none p = cc

member_type_same : {t u : Ty} → member_type t ≡ member_type u → t ≡ u
member_type_same p = cc

member_stop_same : {s s' : Stop} → member_stop s ≡ member_stop s' → s ≡ s'
member_stop_same p = cc

type_not_stop : {t : Ty} {s : Stop} → member_type t ≡ member_stop s → ⊥
type_not_stop p = cc

module _ (one : SubtypesHaveOneOutcome) where
  generalised_same : {t u : Open} → t ≡ u → generalised (existentials_of t) t ≡ generalised (existentials_of u) u
  generalised_same p = ap (λ (t : Open). generalised (existentials_of t) t) p

  one_found : {known : Known} {e : Term} {t u : Open} → HasTypeFound known e t → HasTypeFound known e u → t ≡ u
  one_found (type_found d g small) (type_found d' g' small') = g ∙ (generalised_same ((gives_same (one_synthesis one d d')).type) ∙ sym g')

  found_not_none : {known : Known} {e : Term} {t : Open} {stop : Stop} → HasTypeFound known e t → HasNoTypeFound known e stop → ⊥
  found_not_none (type_found d g small) (no_type_found d') = gives_not_none (one_synthesis one d d')
  found_not_none (type_found d g small) (type_too_large d' large) = large (subst IsSmall (g ∙ generalised_same ((gives_same (one_synthesis one d d')).type)) small)

  one_stop : {known : Known} {e : Term} {stop stop' : Stop} → HasNoTypeFound known e stop → HasNoTypeFound known e stop' → stop ≡ stop'
  one_stop (no_type_found d) (no_type_found d') = gives_none_same (one_synthesis one d d')
  one_stop (no_type_found d) (type_too_large d' large) = absurd (gives_not_none (one_synthesis one d' d))
  one_stop (type_too_large d large) (no_type_found d') = absurd (gives_not_none (one_synthesis one d d'))
  one_stop (type_too_large d large) (type_too_large d' large') = refl

  one_member : {known : Known} {d : Definition} {o p : MemberOutcome} → HasMemberOutcome known d o → HasMemberOutcome known d p → o ≡ p
  one_member (signed_member d) (signed_member d') = refl
  one_member (signed_member d) (signed_stop d') = absurd (leaves_not_stops (one_meeting one d d'))
  one_member (signed_stop d) (signed_member d') = absurd (leaves_not_stops (one_meeting one d' d))
  one_member (signed_stop d) (signed_stop d') = ap member_stop (stops_same (one_meeting one d d'))
  one_member (unsigned_member {ty = ty} d) (unsigned_member {ty = ty'} d') = ap member_type (open_from_same ty ty' (one_found d d'))
  one_member (unsigned_member d) (unsigned_stop d') = absurd (found_not_none d d')
  one_member (unsigned_stop d) (unsigned_member d') = absurd (found_not_none d' d)
  one_member (unsigned_stop d) (unsigned_stop d') = ap member_stop (one_stop d d')

  one_list : {known : Known} {k : ℕ} {ds : List Definition} {found : List Ty} {o p : CheckOutcome} → HaveOutcomes known k ds found o → HaveOutcomes known k ds found p → o ≡ p
  one_list all_have_types all_have_types = refl
  one_list {known = known} {k = k} {found = found} {p = p} (member_has_type {ds = ds} {after = after} m a d) (member_has_type {after = after'} m' a' d') =
      let same : after' ≡ after = a' ∙ (ap (λ (ty : Ty). found ++ ty ∷ []) (member_type_same (one_member m' m)) ∙ sym a) in
      one_list d (subst (λ (ts : List Ty). HaveOutcomes known (suc k) ds ts p) same d')
  one_list (member_has_type m a d) (member_stops m' s) = absurd (type_not_stop (one_member m m'))
  one_list (member_stops m s) (member_has_type m' a d) = absurd (type_not_stop (one_member m' m))
  one_list {k = k} (member_stops m s) (member_stops m' s') = s ∙ (ap (stopped_at k) (member_stop_same (one_member m m')) ∙ sym s')

  pub one_component : {known : Known} {ds : List Definition} {o p : CheckOutcome} → HasOutcome known ds o → HasOutcome known ds p → o ≡ p
  one_component (missing k p) (missing k' p') = p ∙ (ap (λ (n : ℕ). needs (record { member = n; node = 0 })) (same_Some _ _ (sym k ∙ k')) ∙ sym p')
  one_component (missing k p) (by_members h d) = absurd (some_not_none (sym k ∙ h))
  one_component (by_members h d) (missing k p) = absurd (some_not_none (sym k ∙ h))
  one_component (by_members h d) (by_members h' d') = one_list d d'

  pub one_watch : {known : Known} {e : Term} {o p : CheckOutcome} → HasWatchOutcome known e o → HasWatchOutcome known e p → o ≡ p
  one_watch (watch_type {ty = ty} d) (watch_type {ty = ty'} d') = ap (λ (t : Ty). types (t ∷ [])) (open_from_same ty ty' (one_found d d'))
  one_watch (watch_type d) (watch_stop d' p) = absurd (found_not_none d d')
  one_watch (watch_stop d p) (watch_type d') = absurd (found_not_none d' d)
  one_watch (watch_stop d p) (watch_stop d' p') = p ∙ (ap (stopped_at 0) (one_stop d d') ∙ sym p')

module _ (f : Ref → Ref) where
  relinked_signatures : (ds : List Definition) → map (λ (d : Definition). d.signature) (map (definition_relinked f) ds) ≡ map (λ (d : Definition). d.signature) ds
  relinked_signatures [] = refl
  relinked_signatures (d ∷ ds) = ap (λ (ss : List (Option Ty)). d.signature ∷ ss) (relinked_signatures ds)

  relinked_cycle : (ds : List Definition) → is_cycle (map (definition_relinked f) ds) ≡ is_cycle ds
  relinked_cycle [] = refl
  relinked_cycle (d ∷ []) = term_own f d.body
  relinked_cycle (d ∷ e ∷ ds) = refl

  relinked_unsigned : (k : ℕ) (ds : List Definition) → first_unsigned k (map (definition_relinked f) ds) ≡ first_unsigned k ds
  relinked_unsigned k [] = refl
  relinked_unsigned k (d ∷ ds) = ap (number_or k d.signature) (relinked_unsigned (suc k) ds)

  relinked_missing : (ds : List Definition) → missing_signature (map (definition_relinked f) ds) ≡ missing_signature ds
  relinked_missing ds = ap₂ (λ (b : Bool) (o : Option ℕ). cond b o None) (relinked_cycle ds) (relinked_unsigned 0 ds)

  module _ (known known' : Known) (kept : KeepsTypes f known known') (signatures : known.signatures ≡ known'.signatures) where
    found_stays : {e : Term} {t : Open} → HasTypeFound known e t → HasTypeFound known' (relinked f e) t
    found_stays (type_found d g small) = type_found (synthesis_stays f known known' kept signatures d) g small

    none_stays : {e : Term} {stop : Stop} → HasNoTypeFound known e stop → HasNoTypeFound known' (relinked f e) stop
    none_stays (no_type_found d) = no_type_found (synthesis_stays f known known' kept signatures d)
    none_stays (type_too_large d large) = type_too_large (synthesis_stays f known known' kept signatures d) large

    member_stays : {d : Definition} {o : MemberOutcome} → HasMemberOutcome known d o → HasMemberOutcome known' (definition_relinked f d) o
    member_stays (signed_member d) = signed_member (meeting_stays f known known' kept signatures d)
    member_stays (signed_stop d) = signed_stop (meeting_stays f known known' kept signatures d)
    member_stays (unsigned_member d) = unsigned_member (found_stays d)
    member_stays (unsigned_stop d) = unsigned_stop (none_stays d)

    list_stays : {k : ℕ} {ds : List Definition} {found : List Ty} {o : CheckOutcome} → HaveOutcomes known k ds found o → HaveOutcomes known' k (map (definition_relinked f) ds) found o
    list_stays all_have_types = all_have_types
    list_stays (member_has_type m a d) = member_has_type (member_stays m) a (list_stays d)
    list_stays (member_stops m s) = member_stops (member_stays m) s

  pub component_stays : (known known' : Known) (ds : List Definition) (o : CheckOutcome) → KeepsTypes f known known' → HasOutcome known ds o → HasOutcome known' (map (definition_relinked f) ds) o
  component_stays known known' ds o kept (missing k p) = missing (relinked_missing ds ∙ k) p
  component_stays known known' ds o kept (by_members h d) =
      by_members (relinked_missing ds ∙ h) (list_stays (with_members known ds) (with_members known' (map (definition_relinked f) ds)) kept (sym (relinked_signatures ds)) d)

  pub watch_stays : (known known' : Known) (e : Term) (o : CheckOutcome) → KeepsTypes f known known' → HasWatchOutcome known e o → HasWatchOutcome known' (relinked f e) o
  watch_stays known known' e o kept (watch_type d) = watch_type (found_stays (with_members known []) (with_members known' []) kept refl d)
  watch_stays known known' e o kept (watch_stop d p) = watch_stop (none_stays (with_members known []) (with_members known' []) kept refl d) p
