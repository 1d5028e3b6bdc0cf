-- States that a walk goes through.
use Rattle.std.proofs.Common.{◌≡◌, ℕ, ◌+◌, [], ◌∷◌, ◌++◌, drop, Option, Some, sym, ap, subst, ◌∙◌, arith}
use Rattle.uc_base.specs.declared.place.Spot.{Spot}
use Rattle.uc_kinds.specs.PatternTyping.{Known}
use Rattle.uc_context.specs.declared.entry.Entry.TheVariants.{Rigid, Binder}
use Rattle.uc_context.specs.Entries.{ContextEntries}
use Rattle.uc_context.specs.Fresh.{fresh_number}
use Rattle.uc_context.specs.Opens.{Open}
use Rattle.uc_subtyping.specs.Outcomes.{done}
use Rattle.uc_soundness.specs.WellFormed.{IsTypeIn}
use Rattle.uc_soundness.proofs.Instances.{rigid_formed}
use Rattle.uc_soundness.proofs.Outcomes.{Extended}
use Rattle.uc_soundness.proofs.Types.{Covered-extends, type_covered}
use Rattle.uc_typing.specs.Scopes.{Sight, under, with_variables, with_seen}
use Rattle.uc_typing.specs.Stops.{TermOutcome}
use Rattle.uc_sound_typing.specs.Seeing.{IsSeen}
use Rattle.uc_sound_typing.proofs.Growing.{fresh_unbound}
use Rattle.uc_sound_typing.proofs.Sights.{seen_extends, seen_under, seen_unused, seen_behind_rigid, seen_with}
use Rattle.uc_sound_typing.proofs.Terms.{bound_formed}
use Rattle.uc_patterns.specs.declared.state.State.{State}
use Rattle.uc_patterns.specs.Spots.{passed}
use Rattle.uc_patterns.specs.Walks.{IsReady}
use Rattle.uc_check.specs.Walks.{ahead, unused, IsChecked}

-- a state by its parts
pub state_as : (s : State) (es : ContextEntries) (sight : Sight) (spot : Spot) → s.context ≡ es → s.sight ≡ sight → s.spot ≡ spot → s ≡ record { context = es; sight = sight; spot = spot }
state_as s es sight spot a b c =
    ap (λ (cs : ContextEntries). let m : State = record { context = cs; sight = s.sight; spot = s.spot } in m) a
    ∙ ap (λ (g : Sight). let m : State = record { context = es; sight = g; spot = s.spot } in m) b
    ∙ ap (λ (p : Spot). let m : State = record { context = es; sight = sight; spot = p } in m) c

-- a spot so many nodes further, and so many more
pub passed_by : (spot : Spot) (a b c : ℕ) → a + b ≡ c → passed (passed spot a) b ≡ passed spot c
passed_by spot a b c is = let sum : spot.node + a + b ≡ spot.node + c = omega (arith, is) in ap (λ (k : ℕ). let s : Spot = record { member = spot.member; node = k } in s) sum

-- under a binder
abbrev pub entered : ℕ → Open → State → State
entered n t s = record { context = s.context ++ Binder n t ∷ []; sight = under (Some n) s.sight; spot = s.spot }

-- behind a rigid variable, which annotations don't see
abbrev pub behind_rigid : ℕ → State → State
behind_rigid n s = record { context = s.context ++ Rigid n ∷ []; sight = s.sight; spot = s.spot }

-- or see
abbrev pub showing : ℕ → State → State
showing n s = record { context = s.context ++ Rigid n ∷ []; sight = with_seen n s.sight; spot = s.spot }

module _ (known : Known) (s : State) (ready : IsReady known s) where
  pub ready_ahead : (k : ℕ) → IsReady known (ahead k s)
  ready_ahead k = record { known = ready.known; context = ready.context; seen = ready.seen }

  pub ready_unused : IsReady known (unused s)
  ready_unused = record { known = ready.known; context = ready.context; seen = seen_unused s.context s.sight ready.seen }

  pub ready_entered : (n : ℕ) (t : Open) → n ≡ fresh_number s.context → IsTypeIn known.arity s.context 0 t → IsReady known (entered n t s)
  ready_entered n t is typed = record {
    known = ready.known;
    context = bound_formed known.arity s.context n t ready.context typed;
    seen = seen_under s.context s.sight ready.seen n t (fresh_unbound s.context n is);
  }

  pub ready_rigid : (n : ℕ) → n ≡ fresh_number s.context → IsReady known (behind_rigid n s)
  ready_rigid n is = record { known = ready.known; context = rigid_formed known.arity s.context n ready.context is; seen = seen_behind_rigid s.context s.sight ready.seen n }

  pub ready_showing : (n : ℕ) → n ≡ fresh_number s.context → IsReady known (showing n s)
  ready_showing n is = record { known = ready.known; context = rigid_formed known.arity s.context n ready.context is; seen = seen_with s.context s.sight ready.seen n }

  -- what was ready stays so in a context that extends the one before, where the same is in sight
  module _ (new : State) (e : Extended known.arity s.context (done new.context)) where
    pub ready_on : new.sight ≡ s.sight → IsReady known new
    ready_on same = record { known = ready.known; context = e.0; seen = subst (IsSeen new.context) (sym same) (seen_extends s.sight e.1 ready.seen) }

    pub typed_on : (t : Open) → IsTypeIn known.arity s.context 0 t → IsTypeIn known.arity new.context 0 t
    typed_on t h = type_covered known.arity s.context new.context (Covered-extends e.1) 0 t h

-- what is in sight once the innermost variable goes out of scope
pub left_sight : (old last new : Sight) (b : Option ℕ) → last ≡ under b old → new ≡ with_variables (drop 1 last.variables) last → new ≡ old
left_sight old last new b is at = at ∙ ap (λ (g : Sight). with_variables (drop 1 g.variables) g) is

-- a walk from a state that is another
pub checked_from : (judged : State → TermOutcome → Type 0) (a b new : State) (k : ℕ) → a ≡ b → IsChecked (judged a) a new k → IsChecked (judged b) b new k
checked_from judged a b new k is = subst (λ (s : State). IsChecked (judged s) s new k) is
