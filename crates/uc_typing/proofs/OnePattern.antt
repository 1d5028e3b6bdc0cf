-- Patterns have at most one outcome.
use Rattle.std.proofs.Common.{◌≡◌, ℕ, suc, ◌+◌, List, [], ◌∷◌, ◌++◌, length, Option, Some, None, refl, sym, ap, ap₂, subst, subst₂, ◌∙◌}
use Rattle.std.proofs.lemmas.Option.{same_Some}
use Rattle.uc_tree.specs.Nodes.{pattern_nodes}
use Rattle.uc_tree.specs.Patterns.{Pattern, Patterns}
use Rattle.uc_kinds.specs.PatternTyping.{Known}
use Rattle.uc_context.specs.declared.entry.Entry.TheVariants.{Binder}
use Rattle.uc_context.specs.Counts.{IsSmall}
use Rattle.uc_context.specs.Entries.{ContextEntries}
use Rattle.uc_context.specs.Opens.{Open, Opens, none, more}
use Rattle.uc_subtyping.specs.Laws.{SubtypesHaveOneOutcome}
use Rattle.uc_subtyping.specs.Outcomes.{Outcome, done, refused, Refusal, large}
use Rattle.uc_subtyping.specs.Subtyping.{SolvesSubtypes, subtypes_done, subtypes_next, subtypes_refused, subtypes_large}
use Rattle.uc_typing.specs.PatternMatching.{Expectation, MatchesPattern, matches_any, matches_variable, matches_alias, matches_expected, MeetsExpectation, meets_parts, meets_other_count, meets_refused, MatchesPatterns, patterns_done, patterns_next, patterns_stop}
use Rattle.uc_typing.specs.Stops.{Stop, stop_at, Variables, PatternOutcome, matched, unmatched}

pub done_same : {es fs : ContextEntries} → done es ≡ done fs → es ≡ fs
done_same p = cc

pub refused_same : {why why' : Refusal} → refused why ≡ refused why' → why ≡ why'
refused_same p = cc

pub done_not_refused : {es : ContextEntries} {why : Refusal} → done es ≡ refused why → ⊥
done_not_refused p = cc

pub record SameMatch (vars ws : Variables) (es fs : ContextEntries) : Type 0 where
  pub variables : vars ≡ ws
  pub context : es ≡ fs

pub matched_same : {vars ws : Variables} {es fs : ContextEntries} → matched vars es ≡ matched ws fs → SameMatch vars ws es fs
matched_same p = record { variables = cc; context = cc }

pub unmatched_same : {s s' : Stop} → unmatched s ≡ unmatched s' → s ≡ s'
unmatched_same p = cc

pub matched_not_unmatched : {vars : Variables} {es : ContextEntries} {s : Stop} → matched vars es ≡ unmatched s → ⊥
matched_not_unmatched p = cc

module _ (one : SubtypesHaveOneOutcome) where
  -- one type below another, with the solutions put in
  pub one_below : {es : ContextEntries} {s t : Open} {o p : Outcome} → SolvesSubtypes es (more s none) (more t none) o → SolvesSubtypes es (more s none) (more t none) p → o ≡ p
  one_below (subtypes_next small d subtypes_done) (subtypes_next small' d' subtypes_done) = one _ _ _ _ _ d d'
  one_below (subtypes_next small d subtypes_done) (subtypes_refused small' d') = absurd (done_not_refused (one _ _ _ _ _ d d'))
  one_below (subtypes_next small d subtypes_done) (subtypes_large big) = absurd (big small)
  one_below (subtypes_refused small d) (subtypes_next small' d' subtypes_done) = absurd (done_not_refused (one _ _ _ _ _ d' d))
  one_below (subtypes_refused small d) (subtypes_refused small' d') = one _ _ _ _ _ d d'
  one_below (subtypes_refused small d) (subtypes_large big) = absurd (big small)
  one_below (subtypes_large big) (subtypes_next small d e) = absurd (big small)
  one_below (subtypes_large big) (subtypes_refused small d) = absurd (big small)
  one_below (subtypes_large big) (subtypes_large big') = refl

  mutual
    pub one_pattern : {known : Known} {at : ℕ} {vars : Variables} {es : ContextEntries} {q : Pattern} {s : Open} {o p : PatternOutcome} → MatchesPattern known at vars es q s o → MatchesPattern known at vars es q s p → o ≡ p
    one_pattern matches_any matches_any = refl
    one_pattern matches_any (matches_expected x d) = absurd cc
    one_pattern {vars = vars} {es = es} {s = s} (matches_variable n v f) (matches_variable n' v' f') = cc
    one_pattern (matches_variable n v f) (matches_expected x d) = absurd cc
    one_pattern {known = known} {at = at} {vars = vars} {es = es} {s = s} {p = r} (matches_alias {p = p} n d) (matches_alias n' d') =
        one_pattern d (subst (λ (m : ℕ). MatchesPattern known (at + 1) (Some m ∷ vars) (es ++ Binder m s ∷ []) p s r) (n' ∙ sym n) d')
    one_pattern (matches_alias n d) (matches_expected x d') = absurd cc
    one_pattern (matches_expected x d) matches_any = absurd cc
    one_pattern (matches_expected x d) (matches_variable n v f) = absurd cc
    one_pattern (matches_expected x d) (matches_alias n d') = absurd cc
    one_pattern {known = known} {at = at} {vars = vars} {s = s} {p = r} (matches_expected {x = y} x d) (matches_expected {x = z} x' d') =
        one_expectation d (subst (λ (w : Expectation). MeetsExpectation known at vars w s r) (same_Some z y (sym x' ∙ x)) d')

    one_expectation : {known : Known} {at : ℕ} {vars : Variables} {x : Expectation} {s : Open} {o p : PatternOutcome} → MeetsExpectation known at vars x s o → MeetsExpectation known at vars x s p → o ≡ p
    one_expectation {known = known} {at = at} {vars = vars} {x = x} {p = r} (meets_parts d count e) (meets_parts d' count' e') =
        one_patterns e (subst (λ (fs : ContextEntries). MatchesPatterns known (at + 1) vars fs x.parts x.types r) (done_same (one_below d' d)) e')
    one_expectation (meets_parts d count e) (meets_other_count d' other) = absurd (other count)
    one_expectation (meets_parts d count e) (meets_refused d' stop) = absurd (done_not_refused (one_below d d'))
    one_expectation (meets_other_count d other) (meets_parts d' count e) = absurd (other count)
    one_expectation (meets_other_count d other) (meets_other_count d' other') = refl
    one_expectation (meets_other_count d other) (meets_refused d' stop) = absurd (done_not_refused (one_below d d'))
    one_expectation (meets_refused d stop) (meets_parts d' count e) = absurd (done_not_refused (one_below d' d))
    one_expectation (meets_refused d stop) (meets_other_count d' other) = absurd (done_not_refused (one_below d' d))
    one_expectation {at = at} (meets_refused d stop) (meets_refused d' stop') = ap unmatched (stop ∙ (ap (stop_at at) (refused_same (one_below d d')) ∙ sym stop'))

    one_patterns : {known : Known} {at : ℕ} {vars : Variables} {es : ContextEntries} {ps : Patterns} {ts : Opens} {o p : PatternOutcome} → MatchesPatterns known at vars es ps ts o → MatchesPatterns known at vars es ps ts p → o ≡ p
    one_patterns patterns_done patterns_done = refl
    one_patterns {known = known} {at = at} {p = r} (patterns_next {p = q} {ps = ps} {ts = ts} d e) (patterns_next d' e') =
        let same = matched_same (sym (one_pattern d d')) in
        one_patterns e (subst₂ (λ (ws : Variables) (fs : ContextEntries). MatchesPatterns known (at + length (pattern_nodes q)) ws fs ps ts r) same.variables same.context e')
    one_patterns (patterns_next d e) (patterns_stop d') = absurd (matched_not_unmatched (one_pattern d d'))
    one_patterns (patterns_stop d) (patterns_next d' e') = absurd (matched_not_unmatched (sym (one_pattern d d')))
    one_patterns (patterns_stop d) (patterns_stop d') = one_pattern d d'
