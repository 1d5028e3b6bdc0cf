-- Patterns matched one after another, and those that are left.
use Rattle.std.proofs.Common.{◌≡◌, ℕ, ◌+◌, ◌<◌, ◌≤◌, ◌^◌, List, ◌∷◌, length, get_or, drop, refl, sym, ap, subst, ◌∙◌, arith, length-append, inl, inr}
use Rattle.std.proofs.lemmas.List.{drop_more, drop_all}
use Rattle.uc_base.specs.declared.fault.Fault.{Fault}
use Rattle.uc_base.specs.declared.place.Spot.{Spot}
use Rattle.uc_tree.specs.Nodes.{pattern_nodes, patterns_nodes}
use Rattle.uc_tree.specs.Patterns.{Pattern, Patterns, patterns_of}
use Rattle.uc_tree.specs.Patterns as patterns
use Rattle.uc_kinds.specs.PatternTyping.{Known}
use Rattle.uc_context.specs.Opens.{Open, Opens, none, more}
use Rattle.uc_typing.specs.PatternMatching.{MatchesPatterns, patterns_done, patterns_next, patterns_stop}
use Rattle.uc_typing.specs.Stops.{Stop, PatternOutcome, matched, unmatched}
use Rattle.uc_sound_typing.specs.Formed.{AreFormedPatterns}
use Rattle.uc_sound_typing.proofs.Growing.{Covered-grows}
use Rattle.uc_patterns.specs.declared.state.State.{State}
use Rattle.uc_patterns.specs.Spots.{passed, fault_at, IsStopped}
use Rattle.uc_patterns.specs.Walks.{IsReady, AreTypes, Matches, MatchesAll, IsMatched, AreMatched}
use Rattle.uc_patterns.proofs.States.{Behind, behind_pattern, types_grown}

-- a stop of one thing is a stop of another
pub stopped_as : (m l : ℕ) (P Q : Stop → Type 0) (fault : Fault) → m ≡ l → ((stop : Stop) → P stop → Q stop) → IsStopped m P fault → IsStopped l Q fault
stopped_as m l P Q fault same f (inl memory) = inl memory
stopped_as m l P Q fault same f (inr s) = inr (s.0, s.1 ∙ ap (λ (k : ℕ). fault_at k s.0) same, f s.0 s.2)

-- spots further on
pub passed_twice : (spot : Spot) (a b : ℕ) → passed (passed spot a) b ≡ passed spot (a + b)
passed_twice spot a b = let sum : spot.node + a + b ≡ spot.node + (a + b) = omega arith in ap (λ (k : ℕ). let s : Spot = record { member = spot.member; node = k } in s) sum

pub passed_none : (spot : Spot) → spot ≡ passed spot 0
passed_none spot = let sum : spot.node ≡ spot.node + 0 = omega arith in ap (λ (k : ℕ). let s : Spot = record { member = spot.member; node = k } in s) sum

module _ (known : Known) where
  -- patterns stand against types from a state that stands there
  pub all_from : (at : ℕ) (a b : State) (ps : Patterns) (ts : Opens) (o : PatternOutcome) → b.spot.node ≡ at → MatchesAll known b ps ts o → MatchesPatterns known at b.sight.variables b.context ps ts o
  all_from at a b ps ts o is d = subst (λ (k : ℕ). MatchesPatterns known k b.sight.variables b.context ps ts o) is d

  pub none_left : (a : State) → AreMatched known a a patterns.none none
  none_left a = record { outcome = patterns_done; seen = refl; spot = passed_none a.spot }

  -- one pattern, then others
  module _ (a b : State) (p : Pattern) (t : Open) (m : IsMatched known a b p t) (ps : Patterns) (ts : Opens) where
    pub then_all : (o : PatternOutcome) → MatchesAll known b ps ts o → MatchesAll known a (patterns.more p ps) (more t ts) o
    then_all o d = patterns_next m.outcome (all_from (a.spot.node + length (pattern_nodes p)) a b ps ts o (ap (λ (s : Spot). s.node) m.spot) d)

    pub then_matched : (c : State) → AreMatched known b c ps ts → AreMatched known a c (patterns.more p ps) (more t ts)
    then_matched c n = record {
      outcome = then_all (matched c.sight.variables c.context) n.outcome;
      seen = n.seen ∙ m.seen;
      spot = n.spot ∙ ap (λ (s : Spot). passed s (length (patterns_nodes ps))) m.spot ∙ passed_twice a.spot (length (pattern_nodes p)) (length (patterns_nodes ps)) ∙ ap (passed a.spot) (sym (length-append (pattern_nodes p) (patterns_nodes ps)));
    }

  -- the first of some stops
  pub stop_first : (a : State) (p : Pattern) (t : Open) (ps : Patterns) (ts : Opens) (stop : Stop) → Matches known a p t (unmatched stop) → MatchesAll known a (patterns.more p ps) (more t ts) (unmatched stop)
  stop_first a p t ps ts stop d = patterns_stop d

-- patterns from a place on
pub patterns_left : List Pattern → ℕ → Patterns
patterns_left ps at = patterns_of (drop at ps)

pub patterns_left-more : (ps : List Pattern) (at : ℕ) (p : Pattern) → at < length ps → p ≡ get_or ps at p → patterns_left ps at ≡ patterns.more p (patterns_left ps (at + 1))
unfolding patterns_left
patterns_left-more ps at p within is = ap patterns_of (drop_more ps at p within ∙ ap (λ (q : Pattern). q ∷ drop (at + 1) ps) (sym is))

pub patterns_left-none : (ps : List Pattern) (at : ℕ) → length ps ≤ at → patterns_left ps at ≡ patterns.none
unfolding patterns_left
patterns_left-none ps at end = ap patterns_of (drop_all at ps end)

pub patterns_left-all : (ps : List Pattern) → patterns_of ps ≡ patterns_left ps 0
unfolding patterns_left
patterns_left-all ps = refl

-- patterns that are left, with whose outcome all have it
pub record PendingPatterns (known : Known) (start now : State) (all left : Patterns) (types ts : Opens) : Type 0 where
  pub ready : IsReady known now
  pub formed : AreFormedPatterns known left
  pub typed : AreTypes known.arity now.context ts
  pub seen : now.sight.seen ≡ start.sight.seen
  pub spot : passed now.spot (length (patterns_nodes left)) ≡ passed start.spot (length (patterns_nodes all))
  pub ends : (o : PatternOutcome) → MatchesAll known now left ts o → MatchesAll known start all types o

module _ (known : Known) (start : State) (all : Patterns) (types : Opens) where
  pub pending_start : IsReady known start → AreFormedPatterns known all → AreTypes known.arity start.context types → PendingPatterns known start start all all types types
  pending_start ready formed typed = record { ready = ready; formed = formed; typed = typed; seen = refl; spot = refl; ends = λ o d. d }

  pub pending_as : (a b : State) (ps qs : Patterns) (ts us : Opens) → a ≡ b → ps ≡ qs → ts ≡ us → PendingPatterns known start a all ps types ts → PendingPatterns known start b all qs types us
  pending_as a b ps qs ts us e f g h =
      subst (λ (vs : Opens). PendingPatterns known start b all qs types vs) g (subst (λ (rs : Patterns). PendingPatterns known start b all rs types ts) f (subst (λ (c : State). PendingPatterns known start c all ps types ts) e h))

  module _ (now : State) (p : Pattern) (ps : Patterns) (t : Open) (ts : Opens) (h : PendingPatterns known start now all (patterns.more p ps) types (more t ts)) where
    same_node : now.spot.node + (length (pattern_nodes p) + length (patterns_nodes ps)) ≡ start.spot.node + length (patterns_nodes all)
    same_node = ap (λ (k : ℕ). now.spot.node + k) (sym (length-append (pattern_nodes p) (patterns_nodes ps))) ∙ ap (λ (s : Spot). s.node) h.spot

    pub pending_room : start.spot.node + length (patterns_nodes all) < 2 ^ 32 → now.spot.node + length (pattern_nodes p) < 2 ^ 32
    pending_room room = omega (arith, same_node)

    pub pending_stopped : (fault : Fault) → IsStopped now.spot.member (λ stop. Matches known now p t (unmatched stop)) fault → IsStopped start.spot.member (λ stop. MatchesAll known start all types (unmatched stop)) fault
    pending_stopped fault s =
        stopped_as now.spot.member start.spot.member (λ stop. Matches known now p t (unmatched stop)) (λ stop. MatchesAll known start all types (unmatched stop)) fault (ap (λ (s : Spot). s.member) h.spot)
        (λ stop d. h.ends (unmatched stop) (stop_first known now p t ps ts stop d)) s

    pub pending_next : (next : State) → IsMatched known now next p t → PendingPatterns known start next all ps types ts
    pending_next next m =
        let b : Behind known now.context next = behind_pattern known now h.ready next p t h.formed.0 h.typed.0 m in
        record {
          ready = b.ready;
          formed = h.formed.1;
          typed = types_grown known.arity now.context next.context ts (Covered-grows b.grows) h.typed.1;
          seen = m.seen ∙ h.seen;
          spot = ap (λ (s : Spot). passed s (length (patterns_nodes ps))) m.spot ∙ passed_twice now.spot (length (pattern_nodes p)) (length (patterns_nodes ps)) ∙ ap (passed now.spot) (sym (length-append (pattern_nodes p) (patterns_nodes ps))) ∙ h.spot;
          ends = λ o d. h.ends o (then_all known now next p t m ps ts o d);
        }

  pub pending_done : (now : State) → PendingPatterns known start now all patterns.none types none → AreMatched known start now all types
  pending_done now h = record { outcome = h.ends (matched now.sight.variables now.context) patterns_done; seen = h.seen; spot = passed_none now.spot ∙ h.spot }
