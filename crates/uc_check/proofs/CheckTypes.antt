-- Terms against types: with the solutions put in, quantified, and by the type that is found.
use Rattle.std.proofs.Common.{◌≡◌, ℕ, false, [], length, refl, sym, ap, subst, ◌∙◌}
use Rattle.uc_base.specs.declared.fault.Fault.{Fault}
use Rattle.uc_tree.specs.Terms.{Term}
use Rattle.uc_kinds.specs.PatternTyping.{Known}
use Rattle.uc_context.specs.declared.entry.Entry.TheVariants.{Rigid}
use Rattle.uc_context.specs.Contexts.{CanFollow, type_under}
use Rattle.uc_context.specs.Counts.{IsSmall}
use Rattle.uc_context.specs.Entries.{dropped_from}
use Rattle.uc_context.specs.Fresh.{fresh_number}
use Rattle.uc_context.specs.Opens.{Open, rigid, quantified, none, more}
use Rattle.uc_context.specs.Variables.{opened_at}
use Rattle.uc_subtyping.specs.InHand.{IsInHand}
use Rattle.uc_subtyping.specs.Outcomes.{done, refused, Refusal}
use Rattle.uc_subtyping.specs.Subtyping.{SolvesSubtypes, is_quantified}
use Rattle.uc_subtyping.proofs.Absorbing.{under-again}
use Rattle.uc_subtyping.proofs.Arms.{rigid_in_hand}
use Rattle.uc_subtyping.proofs.InOrder.{fresh_unused, no_variable}
use Rattle.uc_soundness.specs.WellFormed.{IsTypeIn, IsWellFormedContext}
use Rattle.uc_soundness.proofs.Instances.{rigid_typed}
use Rattle.uc_soundness.proofs.WellFormed.{well_formed_order, type_under_typed}
use Rattle.uc_typing.specs.Checking.{Checks, checks_small, checks_large, against_quantified, against_form, against_subtype, against_no_subtype, against_type_stops}
use Rattle.uc_typing.specs.Stops.{Stop, too_large, stop_at, TermOutcome, leaves, stops, gives, gives_none}
use Rattle.uc_typing.specs.Terms.{has_rule_of_form}
use Rattle.uc_sound_typing.proofs.Terms.{TypeExtended}
use Rattle.uc_sound_typing.proofs.TermsExtend.{synthesizes_extends}
use Rattle.uc_patterns.specs.declared.state.State.{State}
use Rattle.uc_patterns.specs.Spots.{IsStopped}
use Rattle.uc_patterns.proofs.Solvable.{type_known}
use Rattle.uc_patterns.proofs.Steps.{stopped_as}
use Rattle.uc_check.specs.Walks.{IsAsked, IsChecked, IsFound, ChecksIn, ChecksAgainstIn, ChecksByFormIn, SynthesizesIn}
use Rattle.uc_check.proofs.Asked.{plain_formed}
use Rattle.uc_check.proofs.CheckStates.{behind_rigid, ready_rigid, typed_on}

-- a type with the solutions put in
module _ (known : Known) (s : State) (e : Term) (t v : Open) (put : v ≡ type_under s.context t) where
  pub put_typed : IsWellFormedContext known.arity s.context → IsTypeIn known.arity s.context 0 t → IsTypeIn known.arity s.context 0 v
  put_typed wf h = subst (IsTypeIn known.arity s.context 0) (sym put) (type_under_typed known.arity s.context 0 t wf h)

  pub put_current : IsWellFormedContext known.arity s.context → type_under s.context v ≡ v
  put_current wf = ap (type_under s.context) put ∙ under-again s.context (well_formed_order known.arity [] s.context wf) t ∙ sym put

  put_rule : IsSmall v → (o : TermOutcome) → ChecksAgainstIn known s e v o → ChecksIn known s e t o
  put_rule small o d = checks_small (subst IsSmall put small) (subst (λ (u : Open). ChecksAgainstIn known s e u o) put d)

  pub put_done : (new : State) (k : ℕ) → IsSmall v → IsChecked (ChecksAgainstIn known s e v) s new k → IsChecked (ChecksIn known s e t) s new k
  put_done new k small c = record { outcome = put_rule small (leaves new.context) c.outcome; sight = c.sight; spot = c.spot }

  pub put_stopped : (fault : Fault) → IsSmall v → IsStopped s.spot.member (λ stop. ChecksAgainstIn known s e v (stops stop)) fault → IsStopped s.spot.member (λ stop. ChecksIn known s e t (stops stop)) fault
  put_stopped fault small d =
      stopped_as s.spot.member s.spot.member (λ stop. ChecksAgainstIn known s e v (stops stop)) (λ stop. ChecksIn known s e t (stops stop)) fault refl (λ stop k. put_rule small (stops stop) k) d

-- which may be too large
pub put_large : (known : Known) (s : State) (e : Term) (t : Open) (fault : Fault) → IsStopped s.spot.member (λ stop. (stop ≡ too_large s.spot.node) × ¬ IsSmall (type_under s.context t)) fault
    → IsStopped s.spot.member (λ stop. ChecksIn known s e t (stops stop)) fault
put_large known s e t fault d =
    stopped_as s.spot.member s.spot.member (λ stop. (stop ≡ too_large s.spot.node) × ¬ IsSmall (type_under s.context t)) (λ stop. ChecksIn known s e t (stops stop)) fault refl
    (λ stop k. subst (λ (u : Stop). ChecksIn known s e t (stops u)) (sym k.0) (checks_large k.1)) d

-- by the rule of its form
module _ (known : Known) (s : State) (e : Term) (t : Open) (plain : is_quantified t ≡ false) where
  pub form_done : (new : State) (k : ℕ) → IsChecked (ChecksByFormIn known s e t) s new k → IsChecked (ChecksAgainstIn known s e t) s new k
  form_done new k c = record { outcome = against_form plain c.outcome; sight = c.sight; spot = c.spot }

  pub form_stopped : (fault : Fault) → IsStopped s.spot.member (λ stop. ChecksByFormIn known s e t (stops stop)) fault → IsStopped s.spot.member (λ stop. ChecksAgainstIn known s e t (stops stop)) fault
  form_stopped fault d =
      stopped_as s.spot.member s.spot.member (λ stop. ChecksByFormIn known s e t (stops stop)) (λ stop. ChecksAgainstIn known s e t (stops stop)) fault refl (λ stop k. against_form plain k) d

  -- by the type that is found
  module _ (formless : has_rule_of_form e t ≡ false) where
    pub found_stopped : (fault : Fault) → IsStopped s.spot.member (λ stop. SynthesizesIn known s e (gives_none stop)) fault → IsStopped s.spot.member (λ stop. ChecksAgainstIn known s e t (stops stop)) fault
    found_stopped fault d =
        stopped_as s.spot.member s.spot.member (λ stop. SynthesizesIn known s e (gives_none stop)) (λ stop. ChecksAgainstIn known s e t (stops stop)) fault refl (λ stop k. against_type_stops plain formless k) d

    module _ (mid : State) (u : Open) (k : ℕ) (found : IsFound (SynthesizesIn known s e) s mid k u) where
      pub found_extends : IsAsked known s 0 e → TypeExtended known.arity s.context (gives u mid.context)
      found_extends asked = synthesizes_extends found.outcome asked.ready.known.formed (length s.sight.variables) (plain_formed known s e asked) asked.ready.context asked.ready.seen

      pub against_typed : IsAsked known s 0 e → IsTypeIn known.arity s.context 0 t → IsTypeIn known.arity mid.context 0 t
      against_typed asked typed = let x : TypeExtended known.arity s.context (gives u mid.context) = found_extends asked in typed_on known s asked.ready mid (x.0, x.1) t typed

      pub subtype_done : (new : State) → SolvesSubtypes mid.context (more u none) (more t none) (done new.context) → new.sight ≡ mid.sight → new.spot ≡ mid.spot → IsChecked (ChecksAgainstIn known s e t) s new k
      subtype_done new d same_sight same_spot = record { outcome = against_subtype plain formless found.outcome d; sight = same_sight ∙ found.sight; spot = same_spot ∙ found.spot }

      pub subtype_stopped : (fault : Fault) → IsStopped s.spot.member (λ stop. (why : Refusal) × (stop ≡ stop_at s.spot.node why) × SolvesSubtypes mid.context (more u none) (more t none) (refused why)) fault
          → IsStopped s.spot.member (λ stop. ChecksAgainstIn known s e t (stops stop)) fault
      subtype_stopped fault d =
          stopped_as s.spot.member s.spot.member (λ stop. (why : Refusal) × (stop ≡ stop_at s.spot.node why) × SolvesSubtypes mid.context (more u none) (more t none) (refused why)) (λ stop. ChecksAgainstIn known s e t (stops stop)) fault refl
          (λ stop k. against_no_subtype plain formless found.outcome k.2 k.1) d

-- under a new rigid variable
module _ (known : Known) (old : State) (n : ℕ) (e : Term) (t u : Open) (fresh : n ≡ fresh_number old.context) (is : u ≡ opened_at 0 (rigid n) t) where
  pub rigid_follows : CanFollow old.context (Rigid n)
  rigid_follows = no_variable old.context n (fresh_unused old.context n fresh)

  pub rigid_asked : IsAsked known old 0 e → IsAsked known (behind_rigid n old) 0 e
  rigid_asked asked = record { ready = ready_rigid known old asked.ready n fresh; formed = asked.formed; bound = asked.bound; nodes = asked.nodes }

  pub rigid_type : IsTypeIn known.arity old.context 0 (quantified t) → IsTypeIn known.arity (behind_rigid n old).context 0 u
  rigid_type typed = subst (IsTypeIn known.arity (behind_rigid n old).context 0) (sym is) (rigid_typed known.arity old.context n t typed)

  pub rigid_hand : IsWellFormedContext known.arity old.context → IsTypeIn known.arity old.context 0 (quantified t) → type_under old.context (quantified t) ≡ quantified t → IsSmall (quantified t) → IsInHand (behind_rigid n old).context u
  rigid_hand wf typed current small =
      rigid_in_hand old.context n t (well_formed_order known.arity [] old.context wf) (record { known = type_known known.arity old.context 0 (quantified t) typed; current = current; small = small }) fresh (behind_rigid n old).context u refl is

  rigid_rule : IsInHand (behind_rigid n old).context u → (o : TermOutcome) → ChecksAgainstIn known (behind_rigid n old) e u o → Checks known old.sight old.spot.node (behind_rigid n old).context e (opened_at 0 (rigid n) t) o
  rigid_rule hand o d =
      subst (λ (v : Open). Checks known old.sight old.spot.node (behind_rigid n old).context e v o) is
      (checks_small (subst IsSmall (sym hand.current) hand.small) (subst (λ (v : Open). ChecksAgainstIn known (behind_rigid n old) e v o) (sym hand.current) d))

  pub rigid_done : IsInHand (behind_rigid n old).context u → (last new : State) (k : ℕ) → IsChecked (ChecksAgainstIn known (behind_rigid n old) e u) (behind_rigid n old) last k
      → new.context ≡ dropped_from (Rigid n) last.context → new.sight ≡ last.sight → new.spot ≡ last.spot → IsChecked (ChecksAgainstIn known old e (quantified t)) old new k
  rigid_done hand last new k c at same_sight same_spot = record {
    outcome = against_quantified fresh (rigid_rule hand (leaves last.context) c.outcome) (ap leaves at);
    sight = same_sight ∙ c.sight;
    spot = same_spot ∙ c.spot;
  }

  pub rigid_stopped : IsInHand (behind_rigid n old).context u → (fault : Fault) → IsStopped old.spot.member (λ stop. ChecksAgainstIn known (behind_rigid n old) e u (stops stop)) fault
      → IsStopped old.spot.member (λ stop. ChecksAgainstIn known old e (quantified t) (stops stop)) fault
  rigid_stopped hand fault d =
      stopped_as old.spot.member old.spot.member (λ stop. ChecksAgainstIn known (behind_rigid n old) e u (stops stop)) (λ stop. ChecksAgainstIn known old e (quantified t) (stops stop)) fault refl
      (λ stop k. against_quantified fresh (rigid_rule hand (stops stop) k) refl) d
