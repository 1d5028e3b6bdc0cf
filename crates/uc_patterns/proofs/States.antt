-- States that stay ready.
use Rattle.std.proofs.Common.{◌≡◌, ℕ, List, [], ◌∷◌, ◌++◌, map, Some, sym, ap, subst, ◌∙◌}
use Rattle.uc_tree.specs.Patterns.{Pattern}
use Rattle.uc_kinds.specs.PatternTyping.{Known}
use Rattle.uc_kinds.specs.WellFormed.{Arity}
use Rattle.uc_context.specs.declared.entry.Entry.TheVariants.{Exists, Binder}
use Rattle.uc_context.specs.Entries.{ContextEntries}
use Rattle.uc_context.specs.Fresh.{fresh_number, fresh_numbers}
use Rattle.uc_context.specs.Opens.{Open, Opens, none, more}
use Rattle.uc_context.proofs.FreshNumbers.{fresh_numbers-AreNew}
use Rattle.uc_subtyping.specs.Outcomes.{done}
use Rattle.uc_subtyping.specs.Subtyping.{SolvesSubtypes}
use Rattle.uc_soundness.specs.Extending.{Extends}
use Rattle.uc_soundness.specs.WellFormed.{IsTypeIn, IsWellFormedContext}
use Rattle.uc_soundness.proofs.Outcomes.{Extended}
use Rattle.uc_soundness.proofs.Subtypes.{AreTypesIn, subtypes_extend}
use Rattle.uc_soundness.proofs.Types.{Covered, type_covered}
use Rattle.uc_typing.specs.Scopes.{under}
use Rattle.uc_typing.specs.Stops.{matched}
use Rattle.uc_sound_typing.specs.Formed.{IsFormedPattern}
use Rattle.uc_sound_typing.specs.Growing.{Grows}
use Rattle.uc_sound_typing.specs.Seeing.{AreRigid, IsSeen}
use Rattle.uc_sound_typing.proofs.Growing.{fresh_unbound, Covered-grows}
use Rattle.uc_sound_typing.proofs.NewExistentials.{with_existentials, Extends-existentials}
use Rattle.uc_sound_typing.proofs.Patterns.{PatternExtended, bind_extended, pattern_extends}
use Rattle.uc_sound_typing.proofs.Sights.{seen_extends, seen_matched, seen_under}
use Rattle.uc_patterns.specs.declared.state.State.{State}
use Rattle.uc_patterns.specs.Spots.{passed}
use Rattle.uc_patterns.specs.Walks.{IsReady, AreTypes, IsMatched}

-- a state that is ready, and whose context grows from another
pub record Behind (known : Known) (es : ContextEntries) (new : State) : Type 0 where
  pub ready : IsReady known new
  pub grows : Grows es new.context

module _ (known : Known) (old : State) (ready : IsReady known old) where
  -- behind a pattern
  pub behind_pattern : (new : State) (p : Pattern) (t : Open) → IsFormedPattern known p → IsTypeIn known.arity old.context 0 t → IsMatched known old new p t → Behind known old.context new
  behind_pattern new p t formed typed m =
      let e : PatternExtended known.arity old.context (matched new.sight.variables new.context) = pattern_extends m.outcome ready.known.formed formed ready.context typed ready.seen.variables in
      record {
        ready = record {
          known = ready.known;
          context = e.0;
          seen = record {
            variables = e.2;
            rigids = subst (AreRigid new.context) (sym m.seen) (seen_matched old.context new.context new.sight.variables old.sight (Covered-grows e.1) e.2 ready.seen).rigids;
          };
        };
        grows = e.1;
      }

  -- behind a binder
  pub behind_binder : (new : State) (n : ℕ) (t : Open) → n ≡ fresh_number old.context → IsTypeIn known.arity old.context 0 t
      → new ≡ record { context = old.context ++ Binder n t ∷ []; sight = under (Some n) old.sight; spot = passed old.spot 1 } → Behind known old.context new
  behind_binder new n t is typed at =
      let e : PatternExtended known.arity old.context (matched (Some n ∷ old.sight.variables) (old.context ++ Binder n t ∷ [])) = bind_extended known.arity old.context n t old.sight.variables is ready.context typed ready.seen.variables in
      subst (Behind known old.context) (sym at) (record {
        ready = record { known = ready.known; context = e.0; seen = seen_under old.context old.sight ready.seen n t (fresh_unbound old.context n is) };
        grows = e.1;
      })

  -- behind what subtyping leaves
  pub behind_subtypes : (new : State) (t u : Open) → IsTypeIn known.arity old.context 0 t → IsTypeIn known.arity old.context 0 u
      → SolvesSubtypes old.context (more t none) (more u none) (done new.context) → new.sight ≡ old.sight → IsReady known new × Extends old.context new.context
  behind_subtypes new t u lower upper d same =
      let e : Extended known.arity old.context (done new.context) = subtypes_extend known.arity d ready.context (lower, tt) (upper, tt) in
      (record { known = ready.known; context = e.0; seen = subst (IsSeen new.context) (sym same) (seen_extends old.sight e.1 ready.seen) }, e.1)

  -- behind new existentials
  pub behind_existentials : (new : State) (k : ℕ) (ns : List ℕ) → ns ≡ fresh_numbers k old.context → new.context ≡ old.context ++ map (λ n. Exists n) ns → new.sight ≡ old.sight → IsReady known new
  behind_existentials new k ns are at same =
      let whole : new.context ≡ old.context ++ map (λ n. Exists n) (fresh_numbers k old.context) = at ∙ ap (λ (js : List ℕ). old.context ++ map (λ n. Exists n) js) are in
      record {
        known = ready.known;
        context = subst (IsWellFormedContext known.arity) (sym whole) (with_existentials known.arity old.context (fresh_numbers k old.context) (fresh_numbers-AreNew k old.context) ready.context);
        seen = subst (IsSeen new.context) (sym same) (subst (λ (cs : ContextEntries). IsSeen cs old.sight) (sym whole) (seen_extends old.sight (Extends-existentials old.context (fresh_numbers k old.context)) ready.seen));
      }

-- types are well-formed also where more variables are
pub types_grown : (arity : Arity) (es fs : ContextEntries) (ts : Opens) → Covered es fs → AreTypes arity es ts → AreTypes arity fs ts
types_grown arity es fs none c h = tt
types_grown arity es fs (more t ts) c h = (type_covered arity es fs c 0 t h.0, types_grown arity es fs ts c h.1)

pub types_as : (arity : Arity) (es : ContextEntries) (ts : Opens) → AreTypesIn arity es ts → AreTypes arity es ts
types_as arity es none h = tt
types_as arity es (more t ts) h = (h.0, types_as arity es ts h.1)
