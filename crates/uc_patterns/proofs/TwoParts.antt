-- Patterns of two parts.
use Rattle.std.proofs.Common.{◌≡◌, suc, ◌+◌, ◌<◌, ◌^◌, length, refl, sym, ap, subst, ◌∙◌, arith, length-append}
use Rattle.uc_base.specs.declared.fault.Fault.{Fault}
use Rattle.uc_base.specs.declared.place.Spot.{Spot}
use Rattle.uc_tree.specs.Nodes.{pattern_nodes, patterns_nodes}
use Rattle.uc_tree.specs.Patterns.{Pattern, Patterns}
use Rattle.uc_tree.specs.Patterns as patterns
use Rattle.uc_kinds.specs.PatternTyping.{Known}
use Rattle.uc_context.specs.Opens.{Open, none, more}
use Rattle.uc_subtyping.specs.Instances.{opens_count}
use Rattle.uc_soundness.specs.WellFormed.{IsTypeIn}
use Rattle.uc_soundness.proofs.Types.{type_covered}
use Rattle.uc_typing.specs.PatternMatching.{patterns_count, Expectation}
use Rattle.uc_typing.specs.Stops.{unmatched}
use Rattle.uc_sound_typing.specs.Formed.{IsFormedPattern}
use Rattle.uc_sound_typing.proofs.Growing.{Covered-grows}
use Rattle.uc_patterns.specs.declared.state.State.{State}
use Rattle.uc_patterns.specs.Spots.{IsStopped}
use Rattle.uc_patterns.specs.Walks.{IsReady, AreTypes, Matches, MatchesAll, IsMatched, AreMatched}
use Rattle.uc_patterns.proofs.Arms.{Passing, mid_ready, mid_types, mid_room, passing_matched, passing_stopped}
use Rattle.uc_patterns.proofs.States.{Behind, behind_pattern}
use Rattle.uc_patterns.proofs.Steps.{stopped_as, stop_first, then_all, then_matched, none_left}

-- a pattern that is left to match against a type
abbrev pub IsStoppedAt : Known → State → Pattern → Open → Fault → Type 0
IsStoppedAt known state p t fault = IsStopped state.spot.member (λ stop. Matches known state p t (unmatched stop)) fault

module _ {known : Known} {old before mid : State} {p : Pattern} {s u : Open} {x : Expectation} (h : Passing known old before mid p s u x) (q r : Pattern) (t v : Open) (parts : x.parts ≡ patterns.more q (patterns.more r patterns.none)) (types : more t (more v none) ≡ x.types) where
  counts : patterns_count x.parts ≡ opens_count x.types
  counts = ap patterns_count parts ∙ ap opens_count types

  both_typed : AreTypes known.arity mid.context (more t (more v none))
  both_typed = subst (AreTypes known.arity mid.context) (sym types) (mid_types h)

  pub first_typed : IsTypeIn known.arity mid.context 0 t
  first_typed = both_typed.0

  pub first_room : old.spot.node + 1 + length (pattern_nodes q) + length (pattern_nodes r) < 2 ^ 32 → mid.spot.node + length (pattern_nodes q) < 2 ^ 32
  first_room room = let k : mid.spot.node + (length (pattern_nodes q) + length (pattern_nodes r)) < 2 ^ 32 = mid_room h (length (pattern_nodes q) + length (pattern_nodes r)) (omega arith) in omega arith

  all_stopped : (fault : Fault) → IsStopped mid.spot.member (λ stop. MatchesAll known mid (patterns.more q (patterns.more r patterns.none)) (more t (more v none)) (unmatched stop)) fault → IsStoppedAt known old p s fault
  all_stopped fault d =
      passing_stopped h (more t (more v none)) types counts fault (subst (λ (ps : Patterns). IsStopped mid.spot.member (λ stop. MatchesAll known mid ps (more t (more v none)) (unmatched stop)) fault) (sym parts) d)

  pub first_stopped : (fault : Fault) → IsStoppedAt known mid q t fault → IsStoppedAt known old p s fault
  first_stopped fault d =
      all_stopped fault
      (stopped_as mid.spot.member mid.spot.member (λ stop. Matches known mid q t (unmatched stop)) (λ stop. MatchesAll known mid (patterns.more q (patterns.more r patterns.none)) (more t (more v none)) (unmatched stop)) fault refl
      (λ stop m. stop_first known mid q t (patterns.more r patterns.none) (more v none) stop m) d)

  module _ (next : State) (formed : IsFormedPattern known q) (m : IsMatched known mid next q t) where
    behind : Behind known mid.context next
    behind = behind_pattern known mid (mid_ready h) next q t formed first_typed m

    pub next_ready : IsReady known next
    next_ready = behind.ready

    pub second_typed : IsTypeIn known.arity next.context 0 v
    second_typed = type_covered known.arity mid.context next.context (Covered-grows behind.grows) 0 v both_typed.1.0

    pub second_room : old.spot.node + 1 + length (pattern_nodes q) + length (pattern_nodes r) < 2 ^ 32 → next.spot.node + length (pattern_nodes r) < 2 ^ 32
    second_room room =
        let k : mid.spot.node + (length (pattern_nodes q) + length (pattern_nodes r)) < 2 ^ 32 = mid_room h (length (pattern_nodes q) + length (pattern_nodes r)) (omega arith) in
        omega (arith, ap (λ (sp : Spot). sp.node) m.spot)

    pub second_stopped : (fault : Fault) → IsStoppedAt known next r v fault → IsStoppedAt known old p s fault
    second_stopped fault d =
        all_stopped fault
        (stopped_as next.spot.member mid.spot.member (λ stop. Matches known next r v (unmatched stop)) (λ stop. MatchesAll known mid (patterns.more q (patterns.more r patterns.none)) (more t (more v none)) (unmatched stop)) fault (ap (λ (sp : Spot). sp.member) m.spot)
        (λ stop d. then_all known mid next q t m (patterns.more r patterns.none) (more v none) (unmatched stop) (stop_first known next r v patterns.none none stop d)) d)

    pub two_matched : (new : State) → length (pattern_nodes p) ≡ suc (length (patterns_nodes x.parts)) → IsMatched known next new r v → IsMatched known old new p s
    two_matched new nodes n =
        passing_matched h (more t (more v none)) types counts new nodes
        (subst (λ (ps : Patterns). AreMatched known mid new ps (more t (more v none))) (sym parts)
        (then_matched known mid next q t m (patterns.more r patterns.none) (more v none) new (then_matched known next new r v n patterns.none none new (none_left known new))))

-- the nodes of the patterns
pub cons_nodes : (q r : Pattern) → length (pattern_nodes (patterns.cons q r)) ≡ suc (length (patterns_nodes (patterns.more q (patterns.more r patterns.none))))
cons_nodes q r = omega (arith, length-append (pattern_nodes q) (pattern_nodes r), length-append (pattern_nodes q) (patterns_nodes (patterns.more r patterns.none)), length-append (pattern_nodes r) (patterns_nodes patterns.none))

pub snoc_nodes : (q r : Pattern) → length (pattern_nodes (patterns.snoc q r)) ≡ suc (length (patterns_nodes (patterns.more q (patterns.more r patterns.none))))
snoc_nodes q r = omega (arith, length-append (pattern_nodes q) (pattern_nodes r), length-append (pattern_nodes q) (patterns_nodes (patterns.more r patterns.none)), length-append (pattern_nodes r) (patterns_nodes patterns.none))
