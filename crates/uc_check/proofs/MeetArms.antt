-- Bodies against their signatures.
use Rattle.std.proofs.Common.{◌≡◌, ℕ, ◌+◌, ◌≤◌, false, ◌∷◌, length, drop, refl, sym, ap, subst, ◌∙◌, arith, inr}
use Rattle.uc_base.specs.declared.fault.Fault.{Fault}
use Rattle.uc_tree.specs.Terms.{Term}
use Rattle.uc_kinds.specs.PatternTyping.{Known}
use Rattle.uc_context.specs.declared.entry.Entry.TheVariants.{Rigid}
use Rattle.uc_context.specs.Counts.{IsSmall}
use Rattle.uc_context.specs.Entries.{dropped_from}
use Rattle.uc_context.specs.Fresh.{fresh_number}
use Rattle.uc_context.specs.Opens.{Open, rigid, quantified}
use Rattle.uc_context.specs.Variables.{opened_at}
use Rattle.uc_subtyping.specs.Subtyping.{is_quantified}
use Rattle.uc_soundness.specs.WellFormed.{IsTypeIn}
use Rattle.uc_soundness.proofs.Instances.{rigid_typed}
use Rattle.uc_typing.specs.Checking.{Meets, meets_quantified, meets_rest, meets_large}
use Rattle.uc_typing.specs.Fronts.{front_count}
use Rattle.uc_typing.specs.Scopes.{Sight, with_seen}
use Rattle.uc_typing.specs.Stops.{too_large, TermOutcome, leaves, stops}
use Rattle.uc_sound_typing.specs.Formed.{IsFormed}
use Rattle.uc_sound_typing.proofs.Sights.{formed_under, formed_plain, front_opened}
use Rattle.uc_patterns.specs.declared.state.State.{State}
use Rattle.uc_patterns.specs.Spots.{fault_at, IsStopped}
use Rattle.uc_patterns.proofs.Steps.{stopped_as}
use Rattle.uc_check.specs.Walks.{IsAsked, IsChecked, ChecksIn, MeetsIn}
use Rattle.uc_check.proofs.CheckStates.{showing, ready_showing}

-- a signature without a quantifier at its front
module _ (known : Known) (s : State) (e : Term) (t : Open) (plain : is_quantified t ≡ false) where
  pub rest_asked : IsAsked known s (front_count t) e → IsAsked known s 0 e
  rest_asked asked =
      let front : length s.sight.seen ≡ 0 + length s.sight.seen = omega arith in
      record {
        ready = asked.ready;
        formed = subst (λ (k : ℕ). IsFormed known (length s.sight.variables) k e) front (formed_plain known (length s.sight.variables) e (length s.sight.seen) t plain asked.formed);
        bound = asked.bound;
        nodes = asked.nodes;
      }

  pub rest_done : (new : State) (k : ℕ) → IsChecked (ChecksIn known s e t) s new k → IsChecked (MeetsIn known s e t) s new k
  rest_done new k c = record { outcome = meets_rest plain c.outcome; sight = c.sight; spot = c.spot }

  pub rest_stopped : (fault : Fault) → IsStopped s.spot.member (λ stop. ChecksIn known s e t (stops stop)) fault → IsStopped s.spot.member (λ stop. MeetsIn known s e t (stops stop)) fault
  rest_stopped fault d = stopped_as s.spot.member s.spot.member (λ stop. ChecksIn known s e t (stops stop)) (λ stop. MeetsIn known s e t (stops stop)) fault refl (λ stop k. meets_rest plain k) d

-- one that is too large
pub signature_large : (known : Known) (s : State) (e : Term) (t : Open) (fault : Fault) → (IsSmall (quantified t) → ⊥) → fault ≡ fault_at s.spot.member (too_large s.spot.node)
    → IsStopped s.spot.member (λ stop. MeetsIn known s e (quantified t) (stops stop)) fault
signature_large known s e t fault large is = inr (too_large s.spot.node, is, meets_large large)

-- under a new rigid variable that annotations see
module _ (known : Known) (old : State) (n : ℕ) (e : Term) (t u : Open) (fresh : n ≡ fresh_number old.context) (is : u ≡ opened_at 0 (rigid n) t) where
  pub shown_asked : IsAsked known old (front_count (quantified t)) e → IsAsked known (showing n old) (front_count u) e
  shown_asked asked = record {
    ready = ready_showing known old asked.ready n fresh;
    formed = subst (λ (v : Open). IsFormed known (length old.sight.variables) (front_count v + length (n ∷ old.sight.seen)) e) (sym is)
        (formed_under known (length old.sight.variables) e n (length old.sight.seen) t asked.formed);
    bound = asked.bound;
    nodes = asked.nodes;
  }

  pub shown_typed : IsTypeIn known.arity old.context 0 (quantified t) → IsTypeIn known.arity (showing n old).context 0 u
  shown_typed typed = subst (IsTypeIn known.arity (showing n old).context 0) (sym is) (rigid_typed known.arity old.context n t typed)

  -- as many quantifiers as the body has
  pub opened_front : front_count u ≡ front_count t
  opened_front = ap front_count is ∙ front_opened (rigid n) refl 0 t

  shown_rule : IsSmall (quantified t) → (o p : TermOutcome) → MeetsIn known (showing n old) e u o → Meets known (with_seen n old.sight) old.spot.node (showing n old).context e (opened_at 0 (rigid n) t) o
  shown_rule small o p d = subst (λ (v : Open). MeetsIn known (showing n old) e v o) is d

  pub hidden_room : (last : State) → last.sight ≡ with_seen n old.sight → 1 ≤ length last.sight.seen
  hidden_room last same = let seen : length last.sight.seen ≡ length (n ∷ old.sight.seen) = ap (λ (g : Sight). length g.seen) same in omega (arith, seen)

  pub shown_done : IsSmall (quantified t) → (last new : State) (k : ℕ) → IsChecked (MeetsIn known (showing n old) e u) (showing n old) last k → new.context ≡ dropped_from (Rigid n) last.context
      → (let hidden : Sight = record { variables = last.sight.variables; seen = drop 1 last.sight.seen } in new.sight ≡ hidden) → new.spot ≡ last.spot → IsChecked (MeetsIn known old e (quantified t)) old new k
  shown_done small last new k c at same_sight same_spot = record {
    outcome = meets_quantified small fresh (shown_rule small (leaves last.context) (leaves new.context) c.outcome) (ap leaves at);
    sight = same_sight ∙ ap (λ (g : Sight). let hidden : Sight = record { variables = g.variables; seen = drop 1 g.seen } in hidden) c.sight;
    spot = same_spot ∙ c.spot;
  }

  pub shown_stopped : IsSmall (quantified t) → (fault : Fault) → IsStopped old.spot.member (λ stop. MeetsIn known (showing n old) e u (stops stop)) fault → IsStopped old.spot.member (λ stop. MeetsIn known old e (quantified t) (stops stop)) fault
  shown_stopped small fault d =
      stopped_as old.spot.member old.spot.member (λ stop. MeetsIn known (showing n old) e u (stops stop)) (λ stop. MeetsIn known old e (quantified t) (stops stop)) fault refl
      (λ stop k. meets_quantified small fresh (shown_rule small (stops stop) (stops stop) k) refl) d
