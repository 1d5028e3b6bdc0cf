-- Patterns bind as many variables as they have binders.
use Rattle.std.proofs.Common.{◌≡◌, ℕ, ◌+◌, [], ◌∷◌, ◌++◌, map, Option, Some, None, refl, sym, ap, subst, ◌∙◌, arith, append_assoc, length-append}
use Rattle.std.proofs.lemmas.List.{map-append}
use Rattle.std.proofs.lemmas.Option.{none-some, same_Some}
use Rattle.uc_tree.specs.Patterns.{Pattern, Patterns}
use Rattle.uc_tree.specs.Patterns as patterns
use Rattle.uc_tree.specs.Types.{Ty}
use Rattle.uc_kinds.specs.PatternTyping.{Known, target_type}
use Rattle.uc_kinds.specs.Typing.{binders_in, binders_among}
use Rattle.uc_context.specs.Closing.{open_from}
use Rattle.uc_context.specs.Entries.{ContextEntries}
use Rattle.uc_context.specs.Fresh.{fresh_number, fresh_numbers}
use Rattle.uc_context.specs.Opens.{Open, unit, Opens, none, more}
use Rattle.uc_typing.specs.Fronts.{front_count, repeated, list_of, literal_type}
use Rattle.uc_typing.specs.PatternMatching.{patterns_count, Expectation, expects_type, expects_tuple, expects_list, expects_fields, expects_constructor, expected, MatchesPattern, matches_any, matches_variable, matches_alias, matches_expected, MeetsExpectation, meets_parts, meets_other_count, meets_refused, MatchesPatterns, patterns_done, patterns_next, patterns_stop}
use Rattle.uc_typing.specs.Stops.{Variables, PatternOutcome, matched, unmatched}
use Rattle.uc_patterns.specs.Binding.{Binds}

-- where a pattern is matched, it binds so many variables
abbrev pub BindsAt : Variables → ℕ → PatternOutcome → Type 0
BindsAt vars k (matched ws fs) = Binds vars ws k
BindsAt vars k (unmatched stop) = Unit {0}

none_bound : (vars : Variables) → Binds vars vars 0
none_bound vars = record { numbers = []; whole = refl; many = refl }

one_bound : (n : ℕ) (vars : Variables) → Binds vars (Some n ∷ vars) 1
one_bound n vars = record { numbers = n ∷ []; whole = refl; many = refl }

-- one behind another
both_bound : (vars ws us : Variables) (k m : ℕ) → Binds vars ws k → Binds ws us m → Binds vars us (k + m)
both_bound vars ws us k m a b = record {
  numbers = b.numbers ++ a.numbers;
  whole = b.whole
      ∙ ap (λ (vs : Variables). map (λ n. Some n) b.numbers ++ vs) a.whole
      ∙ sym (append_assoc (map (λ n. Some n) b.numbers) (map (λ n. Some n) a.numbers) vars)
      ∙ ap (λ (vs : Variables). vs ++ vars) (sym (map-append (λ (n : ℕ). Some n) b.numbers a.numbers));
  many = omega (arith, length-append b.numbers a.numbers, a.many, b.many);
}

both_at : (vars ws : Variables) (k m : ℕ) (o : PatternOutcome) → Binds vars ws k → BindsAt ws m o → BindsAt vars (k + m) o
both_at vars ws k m (matched us fs) a b = both_bound vars ws us k m a b
both_at vars ws k m (unmatched stop) a b = tt

-- what a pattern expects has its binders
module _ (known : Known) (es : ContextEntries) where
  in_type : (t : Open) (x : Expectation) → ◌≡◌ {A = Option Expectation} (Some (expects_type es t)) (Some x) → binders_among x.parts ≡ 0
  in_type t x e = ap (λ (y : Expectation). binders_among y.parts) (sym (same_Some (expects_type es t) x e))

  in_parts : (y x : Expectation) → ◌≡◌ {A = Option Expectation} (Some y) (Some x) → binders_among x.parts ≡ binders_among y.parts
  in_parts y x e = ap (λ (z : Expectation). binders_among z.parts) (sym (same_Some y x e))

  in_fields : (ps : Patterns) (o : Option Ty) (x : Expectation) → expects_constructor es ps o ≡ Some x → binders_among x.parts ≡ binders_among ps
  in_fields ps None x e = absurd (none-some x e)
  in_fields ps (Some ty) x e = in_parts (expects_fields es ps (open_from ty) (fresh_numbers (front_count (open_from ty)) es)) x e

  expected_binders : (q : Pattern) (x : Expectation) → expected known es q ≡ Some x → binders_among x.parts ≡ binders_in q
  expected_binders patterns.any x e = absurd (none-some x e)
  expected_binders patterns.variable x e = absurd (none-some x e)
  expected_binders (patterns.alias p) x e = absurd (none-some x e)
  expected_binders (patterns.literal l) x e = in_type (literal_type l) x e
  expected_binders patterns.unit x e = in_type unit x e
  expected_binders (patterns.tuple ps) x e = in_parts (expects_tuple es ps (fresh_numbers (patterns_count ps) es)) x e
  expected_binders (patterns.list ps) x e = in_parts (expects_list es ps (repeated (patterns_count ps)) (fresh_number es)) x e
  expected_binders (patterns.constructor c ps) x e = in_fields ps (target_type known c) x e
  expected_binders (patterns.cons p q) x e =
      let h = in_parts (expects_list es (patterns.more p (patterns.more q patterns.none)) (λ t. more t (more (list_of t) none)) (fresh_number es)) x e in
      omega (arith, h)
  expected_binders (patterns.snoc p q) x e =
      let h = in_parts (expects_list es (patterns.more p (patterns.more q patterns.none)) (λ t. more (list_of t) (more t none)) (fresh_number es)) x e in
      omega (arith, h)

mutual
  pattern_binds : {known : Known} {at : ℕ} {vars : Variables} {es : ContextEntries} {q : Pattern} {s : Open} {o : PatternOutcome} → MatchesPattern known at vars es q s o → BindsAt vars (binders_in q) o
  pattern_binds (matches_any {vars = vars}) = none_bound vars
  pattern_binds (matches_variable {n = n} {vars = vars} is vars_are fs_are) = subst (λ (ws : Variables). Binds vars ws 1) (sym vars_are) (one_bound n vars)
  pattern_binds (matches_alias {n = n} {vars = vars} {p = p} {o = o} is d) =
      let count : 1 + binders_in p ≡ binders_in p + 1 = omega arith in
      subst (λ (k : ℕ). BindsAt vars k o) count (both_at vars (Some n ∷ vars) 1 (binders_in p) o (one_bound n vars) (pattern_binds d))
  pattern_binds (matches_expected {known = known} {vars = vars} {es = es} {p = p} {x = x} {o = o} is d) = subst (λ (k : ℕ). BindsAt vars k o) (expected_binders known es p x is) (expectation_binds d)

  expectation_binds : {known : Known} {at : ℕ} {vars : Variables} {x : Expectation} {s : Open} {o : PatternOutcome} → MeetsExpectation known at vars x s o → BindsAt vars (binders_among x.parts) o
  expectation_binds (meets_parts d count ds) = patterns_bind ds
  expectation_binds (meets_other_count d other) = tt
  expectation_binds (meets_refused d is) = tt

  patterns_bind : {known : Known} {at : ℕ} {vars : Variables} {es : ContextEntries} {ps : Patterns} {ts : Opens} {o : PatternOutcome} → MatchesPatterns known at vars es ps ts o → BindsAt vars (binders_among ps) o
  patterns_bind (patterns_done {vars = vars}) = none_bound vars
  patterns_bind (patterns_next {vars = vars} {ws = ws} {p = p} {ps = ps} {o = o} d ds) = both_at vars ws (binders_in p) (binders_among ps) o (pattern_binds d) (patterns_bind ds)
  patterns_bind (patterns_stop d) = tt

-- a pattern that is matched binds a variable for each of its binders
pub matched_binds : {known : Known} {at : ℕ} {vars ws : Variables} {es fs : ContextEntries} {q : Pattern} {s : Open} → MatchesPattern known at vars es q s (matched ws fs) → Binds vars ws (binders_in q)
matched_binds d = pattern_binds d
