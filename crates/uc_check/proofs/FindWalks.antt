-- Walks over terms, one behind another.
use Rattle.std.proofs.Common.{◌≡◌, ℕ, ◌+◌, ◌<◌, ◌^◌, length, sym, ap, subst, ◌∙◌, inl, inr, arith}
use Rattle.uc_base.specs.declared.fault.Fault.{Fault}
use Rattle.uc_base.specs.declared.place.Spot.{Spot}
use Rattle.uc_kinds.specs.PatternTyping.{Known}
use Rattle.uc_context.specs.Opens.{Open}
use Rattle.uc_soundness.specs.Extending.{Extends}
use Rattle.uc_soundness.specs.WellFormed.{IsTypeIn, IsWellFormedContext}
use Rattle.uc_soundness.proofs.Outcomes.{Extended}
use Rattle.uc_soundness.proofs.Types.{Covered-extends, type_covered}
use Rattle.uc_subtyping.specs.Outcomes.{done}
use Rattle.uc_tree.specs.Nodes.{term_nodes}
use Rattle.uc_tree.specs.Terms.{Term}
use Rattle.uc_typing.specs.Scopes.{Sight}
use Rattle.uc_typing.specs.Stops.{Stop, gives}
use Rattle.uc_sound_typing.specs.Formed.{IsFormed}
use Rattle.uc_sound_typing.specs.Seeing.{IsSeen}
use Rattle.uc_sound_typing.proofs.Sights.{seen_extends, formed_unsigned}
use Rattle.uc_sound_typing.proofs.Terms.{TypeExtended}
use Rattle.uc_sound_typing.proofs.TermsExtend.{checks_extend, synthesizes_extends}
use Rattle.uc_patterns.specs.declared.state.State.{State}
use Rattle.uc_patterns.specs.Spots.{passed, fault_at, IsStopped}
use Rattle.uc_patterns.specs.Walks.{IsReady}
use Rattle.uc_check.specs.Walks.{UsesAreBound, IsAsked, IsChecked, IsFound, ahead, ChecksIn, SynthesizesIn}

-- spots
pub passed_twice : (s : Spot) (a b : ℕ) → passed (passed s a) b ≡ passed s (a + b)
passed_twice s a b = let same : s.node + a + b ≡ s.node + (a + b) = omega arith in ap (λ (n : ℕ). let u : Spot = record { member = s.member; node = n } in u) same

pub passed_more : (s t u : Spot) (a b k : ℕ) → t ≡ passed s a → u ≡ passed t b → a + b ≡ k → u ≡ passed s k
passed_more s t u a b k p q e = q ∙ ap (λ (v : Spot). passed v b) p ∙ passed_twice s a b ∙ ap (passed s) e

pub passed_none : (s : Spot) → passed s 0 ≡ s
passed_none s = let same : s.node + 0 ≡ s.node = omega arith in ap (λ (n : ℕ). let u : Spot = record { member = s.member; node = n } in u) same

-- stops
pub stopped_as : (k m : ℕ) (P Q : Stop → Type 0) (fault : Fault) → k ≡ m → ((stop : Stop) → P stop → Q stop) → IsStopped k P fault → IsStopped m Q fault
stopped_as k m P Q fault e f (inl is) = inl is
stopped_as k m P Q fault e f (inr s) = inr (s.0, s.1 ∙ ap (λ (n : ℕ). fault_at n s.0) e, f s.0 s.2)

-- a walk that ends well leaves a state in which one can go on
pub record GoesOn (known : Known) (old new : State) (nodes : ℕ) : Type 0 where
  pub ready : IsReady known new
  pub grown : Extends old.context new.context
  pub sight : new.sight ≡ old.sight
  pub spot : new.spot ≡ passed old.spot nodes

pub ready_on : (known : Known) (old new : State) → IsReady known old → IsWellFormedContext known.arity new.context → Extends old.context new.context → new.sight ≡ old.sight → IsReady known new
ready_on known old new r wf grown same = record { known = r.known; context = wf; seen = subst (λ (s : Sight). IsSeen new.context s) (sym same) (seen_extends old.sight grown r.seen) }

-- a type in the state before is one in the state behind
pub typed_on : (known : Known) (old new : State) (n : ℕ) (t : Open) → GoesOn known old new n → IsTypeIn known.arity old.context 0 t → IsTypeIn known.arity new.context 0 t
typed_on known old new n t g typed = type_covered known.arity old.context new.context (Covered-extends g.grown) 0 t typed

module _ (known : Known) (old new : State) (ready : IsReady known old) (n : ℕ) where
  pub checked_on : (e : Term) (t : Open) → IsFormed known (length old.sight.variables) (length old.sight.seen) e → IsTypeIn known.arity old.context 0 t → IsChecked (ChecksIn known old e t) old new n → GoesOn known old new n
  checked_on e t h typed w =
      let x : Extended known.arity old.context (done new.context) = checks_extend w.outcome ready.known.formed (length old.sight.variables) h ready.context ready.seen typed in
      record { ready = ready_on known old new ready x.0 x.1 w.sight; grown = x.1; sight = w.sight; spot = w.spot }

  module _ (e : Term) (s : Open) (h : IsFormed known (length old.sight.variables) (length old.sight.seen) e) (w : IsFound (SynthesizesIn known old e) old new n s) where
    extended : TypeExtended known.arity old.context (gives s new.context)
    extended = synthesizes_extends w.outcome ready.known.formed (length old.sight.variables) h ready.context ready.seen

    pub found_on : GoesOn known old new n
    found_on = record { ready = ready_on known old new ready extended.0 extended.1 w.sight; grown = extended.1; sight = w.sight; spot = w.spot }

    pub found_typed : IsTypeIn known.arity new.context 0 s
    found_typed = extended.2

-- terms that are asked about
module _ (known : Known) (state : State) where
  pub asked_formed : (e : Term) → IsAsked known state 0 e → IsFormed known (length state.sight.variables) (length state.sight.seen) e
  asked_formed e a = formed_unsigned known (length state.sight.variables) e (length state.sight.seen) a.formed

  pub asked_with : (e : Term) → IsReady known state → IsFormed known (length state.sight.variables) (length state.sight.seen) e → UsesAreBound state.sight.variables e → state.spot.node + length (term_nodes e) < 2 ^ 32 → IsAsked known state 0 e
  asked_with e ready formed all_bound nodes =
      let same : length state.sight.seen ≡ 0 + length state.sight.seen = omega arith in
      record { ready = ready; formed = subst (λ (k : ℕ). IsFormed known (length state.sight.variables) k e) same formed; bound = all_bound; nodes = nodes }

-- in a state behind another
module _ (known : Known) (old new : State) (n : ℕ) (g : GoesOn known old new n) where
  pub asked_behind : (e : Term) → IsFormed known (length old.sight.variables) (length old.sight.seen) e → UsesAreBound old.sight.variables e → old.spot.node + n + length (term_nodes e) < 2 ^ 32 → IsAsked known new 0 e
  asked_behind e formed all_bound nodes =
      asked_with known new e g.ready (subst (λ (s : Sight). IsFormed known (length s.variables) (length s.seen) e) (sym g.sight) formed) (subst (λ (s : Sight). UsesAreBound s.variables e) (sym g.sight) all_bound)
      (subst (λ (s : Spot). s.node + length (term_nodes e) < 2 ^ 32) (sym g.spot) nodes)

  pub member_behind : new.spot.member ≡ old.spot.member
  member_behind = ap (λ (s : Spot). s.member) g.spot

-- the same state so many nodes further
pub on_ahead : (known : Known) (old : State) (n : ℕ) → IsReady known old → IsReady known (ahead n old)
on_ahead known old n r = record { known = r.known; context = r.context; seen = r.seen }
