-- What members come to.
use Rattle.std.proofs.Common.{◌≡◌, ℕ, ◌+◌, ◌<◌, ◌^◌, false, [], ◌⊎◌, Option, Some, None, Result, Ok, Err, IfOk, IfErr, MatchOption, inl, inr, length, refl, sym, ap, subst, ◌∙◌, arith}
use Rattle.std.specs.List.{list_any}
use Rattle.std.proofs.lemmas.Bool.{false≢true}
use Rattle.uc_base.specs.declared.fault.Fault.{Fault}
use Rattle.uc_base.specs.declared.fault.Fault.TheVariants.{Memory, TypeTooLarge}
use Rattle.uc_base.specs.declared.place.At.{At}
use Rattle.uc_base.specs.declared.place.At.TheVariants.{Nowhere}
use Rattle.uc_kinds.specs.PatternTyping.{Known}
use Rattle.uc_context.specs.Closing.{open_from, is_closed}
use Rattle.uc_context.specs.Counts.{IsSmall}
use Rattle.uc_context.specs.Entries.{is_rigid}
use Rattle.uc_context.specs.Generalising.{generalised}
use Rattle.uc_context.specs.Occurring.{existentials_of}
use Rattle.uc_context.specs.Opens.{Open}
use Rattle.uc_soundness.specs.WellFormed.{IsTypeIn}
use Rattle.uc_soundness.proofs.Extending.{same_test}
use Rattle.uc_tree.specs.declared.definition.Definition.{Definition}
use Rattle.uc_tree.specs.Nodes.{term_nodes, ty_nodes}
use Rattle.uc_tree.specs.Terms.{Term}
use Rattle.uc_tree.specs.Types.{Ty}
use Rattle.uc_typing.specs.Components.{HasTypeFound, type_found, HasNoTypeFound, no_type_found, type_too_large, HasMemberOutcome, signed_member, signed_stop, unsigned_member, unsigned_stop, member_type, member_stop}
use Rattle.uc_typing.specs.Fronts.{front_count}
use Rattle.uc_typing.specs.Stops.{Stop, too_large, leaves, stops, gives_none}
use Rattle.uc_sound_typing.specs.Formed.{written_front, IsFormed, IsFormedDefinition}
use Rattle.uc_sound_typing.specs.Seeing.{none_bound}
use Rattle.uc_sound_typing.proofs.WrittenTypes.{open_typed, open_same, front_written}
use Rattle.uc_patterns.specs.Asking.{IsKnown}
use Rattle.uc_patterns.specs.declared.state.State.{State}
use Rattle.uc_patterns.specs.Spots.{IsStopped}
use Rattle.uc_patterns.specs.Walks.{IsReady}
use Rattle.uc_check.specs.Walks.{UsesAreBound, IsAsked, IsChecked, IsFound, ahead, first_state, SynthesizesIn, MeetsIn}
use Rattle.uc_check.proofs.FindWalks.{stopped_as, found_on, found_typed}
use Rattle.uc_check.proofs.MemberClosed.{generalised_typed, type_closed}
use Rattle.uc_check.proofs.MemberUses.{uses_below}

module _ (known : Known) (known_is : IsKnown known) (member : ℕ) where
  first_ready : IsReady known (first_state member)
  first_ready = record { known = known_is; context = tt; seen = record { variables = none_bound; rigids = tt } }

  -- no variable is in scope
  none_used : (k : ℕ) (e : Term) → IsFormed known 0 k e → UsesAreBound [] e
  none_used k e h i u = absurd (let below : i < 0 = uses_below known 0 k e h i u in omega (arith, below))

  module _ (e : Term) (formed : IsFormed known 0 0 e) (small : length (term_nodes e) + 1 < 2 ^ 32) where
    pub member_asked : IsAsked known (first_state member) 0 e
    member_asked = record { ready = first_ready; formed = formed; bound = none_used 0 e formed; nodes = omega (arith, small) }

    module _ (new : State) (n : ℕ) (t : Open) (w : IsFound (SynthesizesIn known (first_state member) e) (first_state member) new n t) where
      plain : (x : ℕ) → list_any (is_rigid x) new.context ≡ false
      plain x = same_test (is_rigid x) (λ y. refl) (λ y u. refl) (found_on known (first_state member) new first_ready n e t formed w).grown

      pub found_closed : (numbers : _) (u : Open) → numbers ≡ existentials_of t → u ≡ generalised numbers t → is_closed u ≡ false → ⊥
      found_closed numbers u are is open_ =
          false≢true (sym open_ ∙ ap is_closed (is ∙ ap (λ ns. generalised ns t) are) ∙ type_closed known.arity 0 (generalised (existentials_of t) t) (generalised_typed known.arity new.context plain t (found_typed known (first_state member) new first_ready n e t formed w)))

      pub found_type : (numbers : _) (u : Open) (ty : Ty) → numbers ≡ existentials_of t → u ≡ generalised numbers t → IsSmall u → open_from ty ≡ u → HasTypeFound known e (open_from ty)
      found_type numbers u ty are is room same = type_found w.outcome (same ∙ is ∙ ap (λ ns. generalised ns t) are) (subst IsSmall (sym same) room)

      pub found_large : (numbers : _) → numbers ≡ existentials_of t → (IsSmall (generalised numbers t) → ⊥) → HasNoTypeFound known e (too_large 1)
      found_large numbers are large = type_too_large w.outcome (λ room. large (subst (λ ns. IsSmall (generalised ns t)) (sym are) room))

    pub none_found : (stop : Stop) → SynthesizesIn known (first_state member) e (gives_none stop) → HasNoTypeFound known e stop
    none_found stop d = no_type_found d

  -- a member with a signature
  module _ (ty : Ty) (e : Term) where
    abbrev pub signed : Definition
    signed = record { signature = Some ty; body = e }

    module _ (formed : IsFormedDefinition known signed) (small : length (ty_nodes ty) + length (term_nodes e) + 1 < 2 ^ 32) where
      pub signature_typed : IsTypeIn known.arity [] 0 (open_from ty)
      signature_typed = open_typed known.arity [] ty formed.0

      pub signed_asked : IsAsked known (ahead (length (ty_nodes ty)) (first_state member)) (front_count (open_from ty)) e
      signed_asked =
          let front : front_count (open_from ty) ≡ written_front ty = ap front_count (sym (open_same 0 ty)) ∙ front_written [] 0 ty in
          let moved : written_front ty ≡ front_count (open_from ty) + 0 = omega (arith, front) in
          record {
            ready = record { known = known_is; context = tt; seen = record { variables = none_bound; rigids = tt } };
            formed = subst (λ (j : ℕ). IsFormed known 0 j e) moved formed.1;
            bound = none_used (written_front ty) e formed.1;
            nodes = omega (arith, small);
          }

    pub signed_found : (new : State) (n : ℕ) (of : Open) (found : Ty) → of ≡ open_from ty → IsChecked (MeetsIn known (ahead (length (ty_nodes ty)) (first_state member)) e of) (ahead (length (ty_nodes ty)) (first_state member)) new n → found ≡ ty → HasMemberOutcome known signed (member_type found)
    signed_found new n of found of_is w is = subst (λ (t : Ty). HasMemberOutcome known signed (member_type t)) (sym is) (signed_member {es = new.context} (subst (λ (t : Open). MeetsIn known (ahead (length (ty_nodes ty)) (first_state member)) e t (leaves new.context)) of_is w.outcome))

    pub signed_stops : (stop : Stop) (of : Open) → of ≡ open_from ty → MeetsIn known (ahead (length (ty_nodes ty)) (first_state member)) e of (stops stop) → HasMemberOutcome known signed (member_stop stop)
    signed_stops stop of of_is d = signed_stop (subst (λ (t : Open). MeetsIn known (ahead (length (ty_nodes ty)) (first_state member)) e t (stops stop)) of_is d)

-- a definition by its parts
pub definition_as : (d : Definition) (s : Option Ty) → d.signature ≡ s → d ≡ record { signature = s; body = d.body }
definition_as d s is = ap (λ (r : Option Ty). let e : Definition = record { signature = r; body = d.body } in e) is

pub unsigned_found : (known : Known) (d : Definition) (ty : Ty) → d.signature ≡ None → HasTypeFound known d.body (open_from ty) → HasMemberOutcome known d (member_type ty)
unsigned_found known d ty is w = subst (λ (e : Definition). HasMemberOutcome known e (member_type ty)) (sym (definition_as d None is)) (unsigned_member w)

pub unsigned_stops : (known : Known) (d : Definition) (stop : Stop) → d.signature ≡ None → HasNoTypeFound known d.body stop → HasMemberOutcome known d (member_stop stop)
unsigned_stops known d stop is w = subst (λ (e : Definition). HasMemberOutcome known e (member_stop stop)) (sym (definition_as d None is)) (unsigned_stop w)

pub unsigned_ok : (known : Known) (d : Definition) (r : Result Ty Fault) → d.signature ≡ None → IfOk r (λ ty. HasTypeFound known d.body (open_from ty)) → IfOk r (λ ty. HasMemberOutcome known d (member_type ty))
unsigned_ok known d (Ok ty) is w = unsigned_found known d ty is w
unsigned_ok known d (Err fault) is w = tt

pub unsigned_err : (known : Known) (d : Definition) (member : ℕ) (r : Result Ty Fault) → d.signature ≡ None → IfErr r (IsStopped member (λ stop. HasNoTypeFound known d.body stop)) → IfErr r (IsStopped member (λ stop. HasMemberOutcome known d (member_stop stop)))
unsigned_err known d member (Ok ty) is w = tt
unsigned_err known d member (Err fault) is w = stopped_as member member (λ stop. HasNoTypeFound known d.body stop) (λ stop. HasMemberOutcome known d (member_stop stop)) fault refl (λ stop h. unsigned_stops known d stop is h) w

-- a walk from an equal state
pub meets_as : (known : Known) (a b : State) → a ≡ b → (e : Term) (t : Open) (new : State) (k : ℕ) → IsChecked (MeetsIn known a e t) a new k → IsChecked (MeetsIn known b e t) b new k
meets_as known a b at e t new k w = subst (λ (s : State). IsChecked (MeetsIn known s e t) s new k) at w

-- what may be there, and is or isn't
pub at_none : (o : Option Ty) (P : Type 0) (Q : Ty → Type 0) → o ≡ None → MatchOption o P Q → P
at_none o P Q is m = subst (λ (x : Option Ty). MatchOption x P Q) is m

pub at_some : (o : Option Ty) (ty : Ty) (P : Type 0) (Q : Ty → Type 0) → o ≡ Some ty → MatchOption o P Q → Q ty
at_some o ty P Q is m = subst (λ (x : Option Ty). MatchOption x P Q) is m

-- a fault that is no want of memory
large_apart : (a : At) → Memory ≡ TypeTooLarge a → ⊥
large_apart a e = absurd cc

pub only_large : (fault : Fault) (a : At) (P : Type 0) → fault ≡ TypeTooLarge a → (fault ≡ Memory) ⊎ ((fault ≡ TypeTooLarge Nowhere) × P) → P
only_large fault a P is (inl m) = absurd (large_apart a (sym m ∙ is))
only_large fault a P is (inr h) = h.1
