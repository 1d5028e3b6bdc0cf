-- Terms and components have at most one outcome.
use Rattle.std.proofs.Common.{◌≡◌, ℕ, suc, ◌+◌, Bool, true, false, eqb, List, [], ◌∷◌, ◌++◌, map, length, Option, Some, None, refl, sym, ap, ap₂, subst, subst₂, ◌∙◌}
use Rattle.std.proofs.lemmas.Bool.{false≢true, eq-eqb}
use Rattle.std.proofs.lemmas.Option.{same_Some}
use Rattle.uc_tree.specs.Nodes.{ty_nodes, pattern_nodes, term_nodes}
use Rattle.uc_tree.specs.Patterns.{Pattern}
use Rattle.uc_tree.specs.Terms.{Term, Terms, Cases}
use Rattle.uc_tree.specs.Terms as terms
use Rattle.uc_tree.specs.Types.{Ty}
use Rattle.uc_kinds.specs.PatternTyping.{Known}
use Rattle.uc_context.specs.declared.entry.Entry.TheVariants.{Rigid, Exists, Mark, Binder}
use Rattle.uc_context.specs.Closing.{open_from}
use Rattle.uc_context.specs.Contexts.{type_under, binder_type}
use Rattle.uc_context.specs.Counts.{IsSmall}
use Rattle.uc_context.specs.Entries.{ContextEntries}
use Rattle.uc_context.specs.Fresh.{fresh_number, fresh_numbers}
use Rattle.uc_context.specs.Opens.{Open, rigid, existential, quantified, arrow, tuple, Opens, none, more, opens_of}
use Rattle.uc_context.specs.Solving.{solved_with_arrow}
use Rattle.uc_context.specs.Variables.{opened_at}
use Rattle.uc_subtyping.specs.Instances.{opens_count}
use Rattle.uc_subtyping.specs.Laws.{SubtypesHaveOneOutcome}
use Rattle.uc_subtyping.specs.Outcomes.{Outcome, done, refused, Refusal}
use Rattle.uc_subtyping.specs.Subtyping.{SolvesSubtypes, is_quantified}
use Rattle.uc_typing.specs.Checking.{Checks, checks_small, checks_large, ChecksAgainst, against_quantified, against_form, against_subtype, against_no_subtype, against_type_stops}
use Rattle.uc_typing.specs.Checking.{ChecksByForm, form_lambda, form_tuple, form_list, form_conditional, form_signed, form_signed_stops, form_own_use, form_binding, form_binding_stops, form_match, form_match_stops}
use Rattle.uc_typing.specs.Checking.{Synthesizes, synthesizes_small, synthesizes_large, synthesizes_stop}
use Rattle.uc_typing.specs.Checking.{Finds, finds_variable, finds_link, finds_literal, finds_unit, finds_annotated, finds_lambda, finds_application, finds_no_function, finds_tuple, finds_list, finds_and, finds_or, finds_conditional, finds_no_condition, finds_binding, finds_match}
use Rattle.uc_typing.specs.Checking.{Applies, applies_quantified, applies_arrow, applies_existential, applies_ill, Meets, meets_quantified, meets_rest, meets_large}
use Rattle.uc_typing.specs.Checking.{ChecksAll, all_checked, checked_next, checked_stop, ChecksCases, all_cases, case_next, case_stop, guarded_next, guarded_stop, ChecksCase, case_checked, case_unmatched}
use Rattle.uc_typing.specs.Fronts.{front_count, behind_front, existentials, repeated, boolean, list_of}
use Rattle.uc_typing.specs.PatternMatching.{MatchesPattern}
use Rattle.uc_typing.specs.Scopes.{Sight, under, with_variables, with_seen}
use Rattle.uc_typing.specs.Stops.{Stop, stop_at, Variables, matched, unmatched, TermOutcome, leaves, stops, TypeOutcome, gives, gives_none, left_before, giving}
use Rattle.uc_typing.specs.Terms.{terms_count, has_rule_of_form}
use Rattle.uc_typing.specs.WrittenTypes.{written}
use Rattle.uc_typing.proofs.OnePattern.{done_same, refused_same, done_not_refused, SameMatch, matched_same, unmatched_same, matched_not_unmatched, one_below, one_pattern}

leaves_same : {es fs : ContextEntries} → leaves es ≡ leaves fs → es ≡ fs
leaves_same p = cc

pub stops_same : {s s' : Stop} → stops s ≡ stops s' → s ≡ s'
stops_same p = cc

pub leaves_not_stops : {es : ContextEntries} {s : Stop} → leaves es ≡ stops s → ⊥
leaves_not_stops p = cc

pub record SameType (t u : Open) (es fs : ContextEntries) : Type 0 where
  pub type : t ≡ u
  pub context : es ≡ fs

pub gives_same : {t u : Open} {es fs : ContextEntries} → gives t es ≡ gives u fs → SameType t u es fs
gives_same p = record { type = cc; context = cc }

pub gives_none_same : {s s' : Stop} → gives_none s ≡ gives_none s' → s ≡ s'
gives_none_same p = cc

pub gives_not_none : {t : Open} {es : ContextEntries} {s : Stop} → gives t es ≡ gives_none s → ⊥
gives_not_none p = cc

-- numbers of lists of equal length
first_of_two : {a b c d : ℕ} → a ∷ b ∷ [] ≡ c ∷ d ∷ [] → (a ≡ c) × (b ≡ d)
first_of_two p = (cc, cc)

three_same : {a b c d e f : ℕ} → a ∷ b ∷ c ∷ [] ≡ d ∷ e ∷ f ∷ [] → (a ≡ d) × (b ≡ e) × (c ≡ f)
three_same p = (cc, cc, cc)

given_same : {a b n c d m : ℕ} {o p : TermOutcome} → a ≡ c → b ≡ d → n ≡ m → o ≡ p → giving (arrow (existential a) (existential b)) (left_before (Binder n (existential a)) o) ≡ giving (arrow (existential c) (existential d)) (left_before (Binder m (existential c)) p)
given_same q r s t = cc

list_of_same : {t u : Open} → list_of t ≡ list_of u → t ≡ u
list_of_same p = cc

-- a number is itself
counted : (m n : ℕ) → m ≡ n → eqb m n ≡ true
counted m n same = eq-eqb m n same

-- what is checked by its form has a rule of its form
has_form : {known : Known} {sight : Sight} {at : ℕ} {es : ContextEntries} {e : Term} {t : Open} {o : TermOutcome} → ChecksByForm known sight at es e t o → has_rule_of_form e t ≡ true
has_form (form_lambda n d p) = refl
has_form (form_tuple {parts = parts} {ts = ts} count d) = counted (terms_count parts) (opens_count ts) count
has_form (form_list {elements = elements} s d) = ap (has_rule_of_form (terms.list elements)) s
has_form (form_conditional d) = refl
has_form (form_signed n s d e p) = refl
has_form (form_signed_stops n s d) = refl
has_form (form_own_use u) = refl
has_form (form_binding u d n e p) = refl
has_form (form_binding_stops u d) = refl
has_form (form_match d n e) = refl
has_form (form_match_stops d) = refl

module _ (one : SubtypesHaveOneOutcome) where
  mutual
    pub one_check : {known : Known} {sight : Sight} {at : ℕ} {es : ContextEntries} {e : Term} {t : Open} {o p : TermOutcome} → Checks known sight at es e t o → Checks known sight at es e t p → o ≡ p
    one_check (checks_small small d) (checks_small small' d') = one_against d d'
    one_check (checks_small small d) (checks_large large) = absurd (large small)
    one_check (checks_large large) (checks_small small d) = absurd (large small)
    one_check (checks_large large) (checks_large large') = refl

    one_against : {known : Known} {sight : Sight} {at : ℕ} {es : ContextEntries} {e : Term} {t : Open} {o p : TermOutcome} → ChecksAgainst known sight at es e t o → ChecksAgainst known sight at es e t p → o ≡ p
    one_against {known = known} {sight = sight} {at = at} {es = es} {e = e} (against_quantified {n = n} {t = t} {o = o} f d p) (against_quantified {n = m} {o = o'} f' d' p') =
        let same : m ≡ n = f' ∙ sym f in
        let below : o ≡ o' = one_check d (subst (λ (k : ℕ). Checks known sight at (es ++ Rigid k ∷ []) e (opened_at 0 (rigid k) t) o') same d') in
        p ∙ (ap₂ (λ (k : ℕ) (q : TermOutcome). left_before (Rigid k) q) (sym same) below ∙ sym p')
    one_against (against_quantified f d p) (against_form q d') = absurd cc
    one_against (against_quantified f d p) (against_subtype q h d' s) = absurd cc
    one_against (against_quantified f d p) (against_no_subtype q h d' s stop) = absurd cc
    one_against (against_quantified f d p) (against_type_stops q h d') = absurd cc
    one_against (against_form q d) (against_quantified f d' p) = absurd cc
    one_against (against_form q d) (against_form q' d') = one_form d d'
    one_against (against_form q d) (against_subtype q' h d' s) = absurd (false≢true (sym h ∙ has_form d))
    one_against (against_form q d) (against_no_subtype q' h d' s stop) = absurd (false≢true (sym h ∙ has_form d))
    one_against (against_form q d) (against_type_stops q' h d') = absurd (false≢true (sym h ∙ has_form d))
    one_against (against_subtype q h d s) (against_quantified f d' p) = absurd cc
    one_against (against_subtype q h d s) (against_form q' d') = absurd (false≢true (sym h ∙ has_form d'))
    one_against (against_subtype {t = t} q h d s) (against_subtype {gs = gs} q' h' d' s') =
        let same = gives_same (sym (one_synthesis d d')) in
        ap leaves (done_same (one_below one s (subst₂ (λ (fs : ContextEntries) (u : Open). SolvesSubtypes fs (more u none) (more t none) (done gs)) same.context same.type s')))
    one_against (against_subtype {t = t} q h d s) (against_no_subtype {why = why} q' h' d' s' stop) =
        let same = gives_same (sym (one_synthesis d d')) in
        absurd (done_not_refused (one_below one s (subst₂ (λ (fs : ContextEntries) (u : Open). SolvesSubtypes fs (more u none) (more t none) (refused why)) same.context same.type s')))
    one_against (against_subtype q h d s) (against_type_stops q' h' d') = absurd (gives_not_none (one_synthesis d d'))
    one_against (against_no_subtype q h d s stop) (against_quantified f d' p) = absurd cc
    one_against (against_no_subtype q h d s stop) (against_form q' d') = absurd (false≢true (sym h ∙ has_form d'))
    one_against (against_no_subtype {t = t} q h d s stop) (against_subtype {gs = gs} q' h' d' s') =
        let same = gives_same (sym (one_synthesis d d')) in
        absurd (done_not_refused (one_below one (subst₂ (λ (fs : ContextEntries) (u : Open). SolvesSubtypes fs (more u none) (more t none) (done gs)) same.context same.type s') s))
    one_against {at = at} (against_no_subtype {t = t} q h d s stop) (against_no_subtype {why = why} q' h' d' s' stop') =
        let same = gives_same (sym (one_synthesis d d')) in
        let refusal = refused_same (one_below one s (subst₂ (λ (fs : ContextEntries) (u : Open). SolvesSubtypes fs (more u none) (more t none) (refused why)) same.context same.type s')) in
        ap stops (stop ∙ (ap (stop_at at) refusal ∙ sym stop'))
    one_against (against_no_subtype q h d s stop) (against_type_stops q' h' d') = absurd (gives_not_none (one_synthesis d d'))
    one_against (against_type_stops q h d) (against_quantified f d' p) = absurd cc
    one_against (against_type_stops q h d) (against_form q' d') = absurd (false≢true (sym h ∙ has_form d'))
    one_against (against_type_stops q h d) (against_subtype q' h' d' s) = absurd (gives_not_none (sym (one_synthesis d d')))
    one_against (against_type_stops q h d) (against_no_subtype q' h' d' s stop) = absurd (gives_not_none (sym (one_synthesis d d')))
    one_against (against_type_stops q h d) (against_type_stops q' h' d') = ap stops (gives_none_same (one_synthesis d d'))

    one_form : {known : Known} {sight : Sight} {at : ℕ} {es : ContextEntries} {e : Term} {t : Open} {o p : TermOutcome} → ChecksByForm known sight at es e t o → ChecksByForm known sight at es e t p → o ≡ p
    one_form {known = known} {sight = sight} {at = at} {es = es} (form_lambda {n = n} {e = e} {a = a} {b = b} {o = o} f d p) (form_lambda {n = m} {o = o'} f' d' p') =
        let same : m ≡ n = f' ∙ sym f in
        let below : o ≡ o' = one_check d (subst (λ (k : ℕ). Checks known (under (Some k) sight) (at + 1) (es ++ Binder k a ∷ []) e b o') same d') in
        p ∙ (ap₂ (λ (k : ℕ) (q : TermOutcome). left_before (Binder k a) q) (sym same) below ∙ sym p')
    one_form (form_tuple count d) (form_tuple count' d') = one_all d d'
    one_form {known = known} {sight = sight} {at = at} {es = es} {p = r} (form_list {elements = elements} s d) (form_list s' d') =
        one_all d (subst (λ (t : Open). ChecksAll known sight (at + 1) es elements (repeated (terms_count elements) t) r) (list_of_same (sym s' ∙ s)) d')
    one_form (form_conditional d) (form_conditional d') = one_all d d'
    one_form {known = known} {sight = sight} {at = at} {es = es} {p = r} (form_signed {n = n} {fs = fs} {ty = ty} {a = a} {b = b} {s = s} {t = t} {o = o} f w d c p) (form_signed {n = m} {fs = gs} {s = u} {o = o'} f' w' d' c' p') =
        let same : m ≡ n = f' ∙ sym f in
        let type : u ≡ s = w' ∙ sym w in
        let context : gs ≡ fs = leaves_same (sym (one_meeting d (subst₂ (λ (k : ℕ) (v : Open). Meets known (under (Some k) sight) (at + 1 + length (ty_nodes ty)) (es ++ Binder k v ∷ []) a v (leaves gs)) same type d'))) in
        let below : o ≡ o' = one_check c (subst₂ (λ (k : ℕ) (hs : ContextEntries). Checks known (under (Some k) sight) (at + 1 + length (ty_nodes ty) + length (term_nodes a)) hs b t o') same context c') in
        p ∙ (ap₂ (λ (k : ℕ) (v : Open). left_before (Binder k v) o) (sym same) (sym type) ∙ (ap (left_before (Binder m u)) below ∙ sym p'))
    one_form {known = known} {sight = sight} {at = at} {es = es} (form_signed {n = n} {ty = ty} {a = a} {s = s} f w d c p) (form_signed_stops {n = m} {s = u} {stop = stop} f' w' d') =
        absurd (leaves_not_stops (one_meeting d (subst₂ (λ (k : ℕ) (v : Open). Meets known (under (Some k) sight) (at + 1 + length (ty_nodes ty)) (es ++ Binder k v ∷ []) a v (stops stop)) (f' ∙ sym f) (w' ∙ sym w) d')))
    one_form {known = known} {sight = sight} {at = at} {es = es} (form_signed_stops {n = n} {ty = ty} {a = a} {s = s} f w d) (form_signed {n = m} {fs = gs} {s = u} f' w' d' c p) =
        absurd (leaves_not_stops (sym (one_meeting d (subst₂ (λ (k : ℕ) (v : Open). Meets known (under (Some k) sight) (at + 1 + length (ty_nodes ty)) (es ++ Binder k v ∷ []) a v (leaves gs)) (f' ∙ sym f) (w' ∙ sym w) d'))))
    one_form {known = known} {sight = sight} {at = at} {es = es} (form_signed_stops {n = n} {ty = ty} {a = a} {s = s} f w d) (form_signed_stops {n = m} {s = u} {stop = stop} f' w' d') =
        one_meeting d (subst₂ (λ (k : ℕ) (v : Open). Meets known (under (Some k) sight) (at + 1 + length (ty_nodes ty)) (es ++ Binder k v ∷ []) a v (stops stop)) (f' ∙ sym f) (w' ∙ sym w) d')
    one_form (form_own_use u) (form_own_use u') = refl
    one_form (form_own_use u) (form_binding u' d n c p) = absurd (false≢true (sym u' ∙ u))
    one_form (form_own_use u) (form_binding_stops u' d) = absurd (false≢true (sym u' ∙ u))
    one_form (form_binding u d n c p) (form_own_use u') = absurd (false≢true (sym u ∙ u'))
    one_form {known = known} {sight = sight} {at = at} (form_binding {n = n} {fs = fs} {a = a} {b = b} {s = s} {t = t} {o = o} u d f c p) (form_binding {n = m} {fs = gs} {s = v} {o = o'} u' d' f' c' p') =
        let found = gives_same (sym (one_synthesis d d')) in
        let same : m ≡ n = f' ∙ (ap fresh_number found.context ∙ sym f) in
        let moved : Checks known (under (Some n) sight) (at + 1 + length (term_nodes a)) (gs ++ Binder n v ∷ []) b t o' = subst (λ (k : ℕ). Checks known (under (Some k) sight) (at + 1 + length (term_nodes a)) (gs ++ Binder k v ∷ []) b t o') same c' in
        let below : o ≡ o' = one_check c (subst₂ (λ (hs : ContextEntries) (w : Open). Checks known (under (Some n) sight) (at + 1 + length (term_nodes a)) (hs ++ Binder n w ∷ []) b t o') found.context found.type moved) in
        p ∙ (ap₂ (λ (k : ℕ) (w : Open). left_before (Binder k w) o) (sym same) (sym found.type) ∙ (ap (left_before (Binder m v)) below ∙ sym p'))
    one_form (form_binding u d f c p) (form_binding_stops u' d') = absurd (gives_not_none (one_synthesis d d'))
    one_form (form_binding_stops u d) (form_own_use u') = absurd (false≢true (sym u ∙ u'))
    one_form (form_binding_stops u d) (form_binding u' d' f c p) = absurd (gives_not_none (sym (one_synthesis d d')))
    one_form (form_binding_stops u d) (form_binding_stops u' d') = ap stops (gives_none_same (one_synthesis d d'))
    one_form {known = known} {sight = sight} {at = at} {p = r} (form_match {fs = fs} {e = e} {cs = cs} {s = s} {t = t} {numbers = ns} d f c) (form_match {fs = gs} {s = u} {numbers = ms} d' f' c') =
        let found = gives_same (sym (one_synthesis d d')) in
        let same : ms ≡ ns = f' ∙ (ap₂ (λ (w : Open) (hs : ContextEntries). fresh_numbers (front_count w) hs) found.type found.context ∙ sym f) in
        let moved : ChecksCases known sight (at + 1 + length (term_nodes e)) (gs ++ map (λ n. Exists n) ns) cs (behind_front (existentials ns) u) t r = subst (λ (ks : List ℕ). ChecksCases known sight (at + 1 + length (term_nodes e)) (gs ++ map (λ n. Exists n) ks) cs (behind_front (existentials ks) u) t r) same c' in
        one_cases c (subst₂ (λ (hs : ContextEntries) (w : Open). ChecksCases known sight (at + 1 + length (term_nodes e)) (hs ++ map (λ n. Exists n) ns) cs (behind_front (existentials ns) w) t r) found.context found.type moved)
    one_form (form_match d f c) (form_match_stops d') = absurd (gives_not_none (one_synthesis d d'))
    one_form (form_match_stops d) (form_match d' f c) = absurd (gives_not_none (sym (one_synthesis d d')))
    one_form (form_match_stops d) (form_match_stops d') = ap stops (gives_none_same (one_synthesis d d'))

    pub one_synthesis : {known : Known} {sight : Sight} {at : ℕ} {es : ContextEntries} {e : Term} {o p : TypeOutcome} → Synthesizes known sight at es e o → Synthesizes known sight at es e p → o ≡ p
    one_synthesis (synthesizes_small d small u) (synthesizes_small d' small' u') =
        let found = gives_same (one_finding d d') in
        ap₂ gives (u ∙ (ap₂ type_under found.context found.type ∙ sym u')) found.context
    one_synthesis (synthesizes_small d small u) (synthesizes_large d' large) =
        let found = gives_same (one_finding d d') in
        absurd (large (subst₂ (λ (fs : ContextEntries) (t : Open). IsSmall (type_under fs t)) found.context found.type small))
    one_synthesis (synthesizes_small d small u) (synthesizes_stop d') = absurd (gives_not_none (one_finding d d'))
    one_synthesis (synthesizes_large d large) (synthesizes_small d' small u) =
        let found = gives_same (sym (one_finding d d')) in
        absurd (large (subst₂ (λ (fs : ContextEntries) (t : Open). IsSmall (type_under fs t)) found.context found.type small))
    one_synthesis (synthesizes_large d large) (synthesizes_large d' large') = refl
    one_synthesis (synthesizes_large d large) (synthesizes_stop d') = absurd (gives_not_none (one_finding d d'))
    one_synthesis (synthesizes_stop d) (synthesizes_small d' small u) = absurd (gives_not_none (sym (one_finding d d')))
    one_synthesis (synthesizes_stop d) (synthesizes_large d' large) = absurd (gives_not_none (sym (one_finding d d')))
    one_synthesis (synthesizes_stop d) (synthesizes_stop d') = one_finding d d'

    one_finding : {known : Known} {sight : Sight} {at : ℕ} {es : ContextEntries} {e : Term} {o p : TypeOutcome} → Finds known sight at es e o → Finds known sight at es e p → o ≡ p
    one_finding {es = es} (finds_variable {t = t} i b) (finds_variable {t = u} i' b') =
        let number = same_Some _ _ (same_Some _ _ (sym i ∙ i')) in
        ap (λ (v : Open). gives v es) (same_Some _ _ (sym b ∙ (ap (binder_type es) number ∙ b')))
    one_finding {es = es} (finds_link k t) (finds_link k' t') = ap (λ (v : Open). gives v es) (t ∙ (ap open_from (same_Some _ _ (sym k ∙ k')) ∙ sym t'))
    one_finding {es = es} (finds_literal t) (finds_literal t') = ap (λ (v : Open). gives v es) (t ∙ sym t')
    one_finding finds_unit finds_unit = refl
    one_finding {known = known} {sight = sight} {at = at} {es = es} (finds_annotated {e = e} {t = t} {o = o} w d p) (finds_annotated {t = u} {o = o'} w' d' p') =
        let type : u ≡ t = w' ∙ sym w in
        let below : o ≡ o' = one_check d (subst (λ (v : Open). Checks known sight (at + 1) es e v o') type d') in
        p ∙ (ap₂ giving (sym type) below ∙ sym p')
    one_finding {known = known} {sight = sight} {at = at} {es = es} (finds_lambda {argument = a} {result = b} {n = n} {e = e} {o = o} f d p) (finds_lambda {argument = c} {result = r} {n = m} {o = o'} f' d' p') =
        let same = three_same (f' ∙ sym f) in
        let moved = subst (λ (k : ℕ). Checks known (under (Some k) sight) (at + 1) (es ++ Exists c ∷ Exists r ∷ Binder k (existential c) ∷ []) e (existential r) o') same.2 d' in
        let below : o ≡ o' = one_check d (subst₂ (λ (k l : ℕ). Checks known (under (Some n) sight) (at + 1) (es ++ Exists k ∷ Exists l ∷ Binder n (existential k) ∷ []) e (existential l) o') same.0 same.1 moved) in
        p ∙ (given_same (sym same.0) (sym same.1) (sym same.2) below ∙ sym p')
    one_finding {known = known} {sight = sight} {at = at} {p = r} (finds_application {f = f} {e = e} d a) (finds_application d' a') =
        let found = gives_same (sym (one_synthesis d d')) in
        one_application a (subst₂ (λ (fs : ContextEntries) (u : Open). Applies known sight at (at + 1 + length (term_nodes f)) fs u e r) found.context found.type a')
    one_finding (finds_application d a) (finds_no_function d') = absurd (gives_not_none (one_synthesis d d'))
    one_finding (finds_no_function d) (finds_application d' a) = absurd (gives_not_none (sym (one_synthesis d d')))
    one_finding (finds_no_function d) (finds_no_function d') = one_synthesis d d'
    one_finding {known = known} {sight = sight} {at = at} {es = es} (finds_tuple {parts = parts} {numbers = ns} {o = o} f d p) (finds_tuple {numbers = ms} {o = o'} f' d' p') =
        let same : ms ≡ ns = f' ∙ sym f in
        let below : o ≡ o' = one_all d (subst (λ (ks : List ℕ). ChecksAll known sight (at + 1) (es ++ map (λ n. Exists n) ks) parts (opens_of (existentials ks)) o') same d') in
        p ∙ (ap₂ (λ (ks : List ℕ) (q : TermOutcome). giving (tuple (opens_of (existentials ks))) q) (sym same) below ∙ sym p')
    one_finding {known = known} {sight = sight} {at = at} {es = es} (finds_list {n = n} {elements = elements} {o = o} f d p) (finds_list {n = m} {o = o'} f' d' p') =
        let same : m ≡ n = f' ∙ sym f in
        let below : o ≡ o' = one_all d (subst (λ (k : ℕ). ChecksAll known sight (at + 1) (es ++ Exists k ∷ []) elements (repeated (terms_count elements) (existential k)) o') same d') in
        p ∙ (ap₂ (λ (k : ℕ) (q : TermOutcome). giving (list_of (existential k)) q) (sym same) below ∙ sym p')
    one_finding (finds_and d p) (finds_and d' p') = p ∙ (ap (giving boolean) (one_all d d') ∙ sym p')
    one_finding (finds_or d p) (finds_or d' p') = p ∙ (ap (giving boolean) (one_all d d') ∙ sym p')
    one_finding {known = known} {sight = sight} {at = at} (finds_conditional {n = n} {fs = fs} {a = a} {b = b} {c = c} {o = o} d f e p) (finds_conditional {n = m} {fs = gs} {o = o'} d' f' e' p') =
        let context : gs ≡ fs = leaves_same (sym (one_check d d')) in
        let same : m ≡ n = f' ∙ (ap fresh_number context ∙ sym f) in
        let below : o ≡ o' = one_all e (subst₂ (λ (k : ℕ) (hs : ContextEntries). ChecksAll known sight (at + 1 + length (term_nodes a)) (hs ++ Exists k ∷ []) (terms.more b (terms.more c terms.none)) (more (existential k) (more (existential k) none)) o') same context e') in
        p ∙ (ap₂ (λ (k : ℕ) (q : TermOutcome). giving (existential k) q) (sym same) below ∙ sym p')
    one_finding (finds_conditional d f e p) (finds_no_condition d') = absurd (leaves_not_stops (one_check d d'))
    one_finding (finds_no_condition d) (finds_conditional d' f e p) = absurd (leaves_not_stops (sym (one_check d d')))
    one_finding (finds_no_condition d) (finds_no_condition d') = ap gives_none (stops_same (one_check d d'))
    one_finding {known = known} {sight = sight} {at = at} {es = es} (finds_binding {n = n} {ty = ty} {a = a} {b = b} {o = o} f d p) (finds_binding {n = m} {o = o'} f' d' p') =
        let same : m ≡ n = f' ∙ sym f in
        let below : o ≡ o' = one_form d (subst (λ (k : ℕ). ChecksByForm known sight at (es ++ Exists k ∷ []) (terms.binding ty a b) (existential k) o') same d') in
        p ∙ (ap₂ (λ (k : ℕ) (q : TermOutcome). giving (existential k) q) (sym same) below ∙ sym p')
    one_finding {known = known} {sight = sight} {at = at} {es = es} (finds_match {n = n} {e = e} {cs = cs} {o = o} f d p) (finds_match {n = m} {o = o'} f' d' p') =
        let same : m ≡ n = f' ∙ sym f in
        let below : o ≡ o' = one_form d (subst (λ (k : ℕ). ChecksByForm known sight at (es ++ Exists k ∷ []) (terms.match e cs) (existential k) o') same d') in
        p ∙ (ap₂ (λ (k : ℕ) (q : TermOutcome). giving (existential k) q) (sym same) below ∙ sym p')

    one_application : {known : Known} {sight : Sight} {at next : ℕ} {es : ContextEntries} {s : Open} {e : Term} {o p : TypeOutcome} → Applies known sight at next es s e o → Applies known sight at next es s e p → o ≡ p
    one_application {known = known} {sight = sight} {at = at} {next = next} {es = es} {e = e} {p = r} (applies_quantified {t = t} f d) (applies_quantified f' d') =
        one_application d (subst (λ (k : ℕ). Applies known sight at next (es ++ Exists k ∷ []) (opened_at 0 (existential k) t) e r) (f' ∙ sym f) d')
    one_application (applies_quantified f d) (applies_ill ill) = absurd cc
    one_application (applies_arrow {b = b} d p) (applies_arrow d' p') = p ∙ (ap (giving b) (one_check d d') ∙ sym p')
    one_application (applies_arrow d p) (applies_ill ill) = absurd cc
    one_application {known = known} {sight = sight} {next = next} {es = es} {e = e} (applies_existential {x = x} {argument = a} {result = b} {o = o} u f d p) (applies_existential {argument = c} {result = r} {o = o'} u' f' d' p') =
        let same = first_of_two (f' ∙ sym f) in
        let below : o ≡ o' = one_check d (subst₂ (λ (k l : ℕ). Checks known sight next (solved_with_arrow es x k l) e (existential k) o') same.0 same.1 d') in
        p ∙ (ap₂ (λ (k : ℕ) (q : TermOutcome). giving (existential k) q) (sym same.1) below ∙ sym p')
    one_application (applies_existential u f d p) (applies_ill ill) = absurd (false≢true (sym ill ∙ u))
    one_application (applies_ill ill) (applies_quantified f d) = absurd cc
    one_application (applies_ill ill) (applies_arrow d p) = absurd cc
    one_application (applies_ill ill) (applies_existential u f d p) = absurd (false≢true (sym ill ∙ u))
    one_application (applies_ill ill) (applies_ill ill') = refl

    pub one_meeting : {known : Known} {sight : Sight} {at : ℕ} {es : ContextEntries} {e : Term} {s : Open} {o p : TermOutcome} → Meets known sight at es e s o → Meets known sight at es e s p → o ≡ p
    one_meeting {known = known} {sight = sight} {at = at} {es = es} {e = e} (meets_quantified {n = n} {t = t} {o = o} small f d p) (meets_quantified {n = m} {o = o'} small' f' d' p') =
        let same : m ≡ n = f' ∙ sym f in
        let below : o ≡ o' = one_meeting d (subst (λ (k : ℕ). Meets known (with_seen k sight) at (es ++ Rigid k ∷ []) e (opened_at 0 (rigid k) t) o') same d') in
        p ∙ (ap₂ (λ (k : ℕ) (q : TermOutcome). left_before (Rigid k) q) (sym same) below ∙ sym p')
    one_meeting (meets_quantified small f d p) (meets_rest q d') = absurd cc
    one_meeting (meets_quantified small f d p) (meets_large large) = absurd (large small)
    one_meeting (meets_rest q d) (meets_quantified small f d' p) = absurd cc
    one_meeting (meets_rest q d) (meets_rest q' d') = one_check d d'
    one_meeting (meets_rest q d) (meets_large large) = absurd cc
    one_meeting (meets_large large) (meets_quantified small f d p) = absurd (large small)
    one_meeting (meets_large large) (meets_rest q d) = absurd cc
    one_meeting (meets_large large) (meets_large large') = refl

    one_all : {known : Known} {sight : Sight} {at : ℕ} {es : ContextEntries} {bodies : Terms} {ts : Opens} {o p : TermOutcome} → ChecksAll known sight at es bodies ts o → ChecksAll known sight at es bodies ts p → o ≡ p
    one_all all_checked all_checked = refl
    one_all {known = known} {sight = sight} {at = at} {p = r} (checked_next {e = e} {rest = rest} {ts = ts} d c) (checked_next d' c') =
        one_all c (subst (λ (fs : ContextEntries). ChecksAll known sight (at + length (term_nodes e)) fs rest ts r) (leaves_same (sym (one_check d d'))) c')
    one_all (checked_next d c) (checked_stop d') = absurd (leaves_not_stops (one_check d d'))
    one_all (checked_stop d) (checked_next d' c) = absurd (leaves_not_stops (sym (one_check d d')))
    one_all (checked_stop d) (checked_stop d') = one_check d d'

    one_cases : {known : Known} {sight : Sight} {at : ℕ} {es : ContextEntries} {cs : Cases} {s t : Open} {o p : TermOutcome} → ChecksCases known sight at es cs s t o → ChecksCases known sight at es cs s t p → o ≡ p
    one_cases all_cases all_cases = refl
    one_cases {known = known} {sight = sight} {at = at} {s = s} {t = t} {p = r} (case_next {q = q} {b = b} {cs = cs} d c) (case_next d' c') =
        one_cases c (subst (λ (fs : ContextEntries). ChecksCases known sight (at + length (pattern_nodes q) + length (term_nodes b)) fs cs s t r) (leaves_same (sym (one_case d d'))) c')
    one_cases (case_next d c) (case_stop d') = absurd (leaves_not_stops (one_case d d'))
    one_cases (case_stop d) (case_next d' c) = absurd (leaves_not_stops (sym (one_case d d')))
    one_cases (case_stop d) (case_stop d') = one_case d d'
    one_cases {known = known} {sight = sight} {at = at} {s = s} {t = t} {p = r} (guarded_next {q = q} {g = g} {b = b} {cs = cs} d c) (guarded_next d' c') =
        one_cases c (subst (λ (fs : ContextEntries). ChecksCases known sight (at + length (pattern_nodes q) + length (term_nodes g) + length (term_nodes b)) fs cs s t r) (leaves_same (sym (one_case d d'))) c')
    one_cases (guarded_next d c) (guarded_stop d') = absurd (leaves_not_stops (one_case d d'))
    one_cases (guarded_stop d) (guarded_next d' c) = absurd (leaves_not_stops (sym (one_case d d')))
    one_cases (guarded_stop d) (guarded_stop d') = one_case d d'

    one_case : {known : Known} {sight : Sight} {at : ℕ} {es : ContextEntries} {q : Pattern} {bodies : Terms} {s : Open} {ts : Opens} {o p : TermOutcome} → ChecksCase known sight at es q bodies s ts o → ChecksCase known sight at es q bodies s ts p → o ≡ p
    one_case {known = known} {sight = sight} {at = at} {es = es} {q = q} {bodies = bodies} {s = s} {ts = ts} (case_checked {n = n} {fs = fs} {vars = vars} {o = o} f m d p) (case_checked {n = k} {fs = gs} {vars = ws} {o = o'} f' m' d' p') =
        let number : k ≡ n = f' ∙ sym f in
        let same = matched_same (one_pattern one (subst (λ (l : ℕ). MatchesPattern known at sight.variables (es ++ Mark l ∷ []) q s (matched ws gs)) number m') m) in
        let below : o ≡ o' = one_all d (subst₂ (λ (us : Variables) (hs : ContextEntries). ChecksAll known (with_variables us sight) (at + length (pattern_nodes q)) hs bodies ts o') same.variables same.context d') in
        p ∙ (ap₂ (λ (l : ℕ) (r : TermOutcome). left_before (Mark l) r) (sym number) below ∙ sym p')
    one_case {known = known} {sight = sight} {at = at} {es = es} {q = q} {s = s} (case_checked {n = n} f m d p) (case_unmatched {n = k} {stop = stop} f' m') =
        absurd (matched_not_unmatched (one_pattern one m (subst (λ (l : ℕ). MatchesPattern known at sight.variables (es ++ Mark l ∷ []) q s (unmatched stop)) (f' ∙ sym f) m')))
    one_case {known = known} {sight = sight} {at = at} {es = es} {q = q} {s = s} (case_unmatched {n = n} {stop = stop} f m) (case_checked {n = k} f' m' d p) =
        absurd (matched_not_unmatched (one_pattern one m' (subst (λ (l : ℕ). MatchesPattern known at sight.variables (es ++ Mark l ∷ []) q s (unmatched stop)) (f ∙ sym f') m)))
    one_case {known = known} {sight = sight} {at = at} {es = es} {q = q} {s = s} (case_unmatched f m) (case_unmatched {stop = stop} f' m') =
        ap stops (unmatched_same (one_pattern one m (subst (λ (l : ℕ). MatchesPattern known at sight.variables (es ++ Mark l ∷ []) q s (unmatched stop)) (f' ∙ sym f) m')))
