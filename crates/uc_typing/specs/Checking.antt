-- Terms, by the algorithm: Dunfield and Krishnaswami 2013, figure 11, with data types, literals, tuples, lists, conditionals, bindings and matches. The first rule that fits is the only one. A node stands at its number in the order of canonical text.
use Rattle.std.specs.Prelude.{◌≡◌, ℕ, suc, ◌+◌, Bool, true, false, List, [], ◌∷◌, ◌++◌, map, length, Option, Some, None, slice_get}
use Rattle.std.specs.List.{list_any}
use Rattle.uc_tree.specs.declared.literal.Literal.{Literal}
use Rattle.uc_tree.specs.declared.target.Target.{Target}
use Rattle.uc_tree.specs.Nodes.{ty_nodes, pattern_nodes, term_nodes}
use Rattle.uc_tree.specs.Patterns.{Pattern}
use Rattle.uc_tree.specs.Terms.{Term, Terms, Cases}
use Rattle.uc_tree.specs.Terms as terms
use Rattle.uc_tree.specs.Types.{Ty}
use Rattle.uc_kinds.specs.PatternTyping.{Known, target_type}
use Rattle.uc_kinds.specs.Typing.{uses}
use Rattle.uc_context.specs.declared.entry.Entry.TheVariants.{Rigid, Exists, Mark, Binder}
use Rattle.uc_context.specs.Closing.{open_from}
use Rattle.uc_context.specs.Contexts.{type_under, binder_type}
use Rattle.uc_context.specs.Counts.{IsSmall}
use Rattle.uc_context.specs.Entries.{ContextEntries, is_unsolved}
use Rattle.uc_context.specs.Fresh.{fresh_number, fresh_numbers}
use Rattle.uc_context.specs.Opens.{Open, rigid, existential, quantified, arrow, unit, tuple, Opens, none, more, opens_of}
use Rattle.uc_context.specs.Solving.{solved_with_arrow}
use Rattle.uc_context.specs.Variables.{opened_at}
use Rattle.uc_subtyping.specs.Instances.{opens_count}
use Rattle.uc_subtyping.specs.Outcomes.{done, refused, Refusal}
use Rattle.uc_subtyping.specs.Subtyping.{SolvesSubtypes, is_quantified}
use Rattle.uc_typing.specs.Fronts.{front_count, behind_front, existentials, repeated, boolean, list_of, literal_type}
use Rattle.uc_typing.specs.PatternMatching.{MatchesPattern}
use Rattle.uc_typing.specs.Scopes.{Sight, under, with_variables, with_seen}
use Rattle.uc_typing.specs.Stops.{Stop, needs_signature, ill_typed, too_large, stop_at, Variables, matched, unmatched, TermOutcome, leaves, stops, TypeOutcome, gives, gives_none, left_before, giving}
use Rattle.uc_typing.specs.Terms.{terms_count, has_rule_of_form, is_applicable}
use Rattle.uc_typing.specs.WrittenTypes.{written}

mutual
  -- a term is checked against a type, with the solutions put in
  pub data Checks : Known → Sight → ℕ → ContextEntries → Term → Open → TermOutcome → Type 0 where
    checks_small : {known : Known} {sight : Sight} {at : ℕ} {es : ContextEntries} {e : Term} {t : Open} {o : TermOutcome}
        → IsSmall (type_under es t) → ChecksAgainst known sight at es e (type_under es t) o → Checks known sight at es e t o
    checks_large : {known : Known} {sight : Sight} {at : ℕ} {es : ContextEntries} {e : Term} {t : Open}
        → (IsSmall (type_under es t) → ⊥) → Checks known sight at es e t (stops (too_large at))

  -- a term is checked against a type in which the solutions are put in
  pub data ChecksAgainst : Known → Sight → ℕ → ContextEntries → Term → Open → TermOutcome → Type 0 where
    against_quantified : {known : Known} {sight : Sight} {at n : ℕ} {es : ContextEntries} {e : Term} {t : Open} {o p : TermOutcome}
        → n ≡ fresh_number es → Checks known sight at (es ++ Rigid n ∷ []) e (opened_at 0 (rigid n) t) o
        → p ≡ left_before (Rigid n) o → ChecksAgainst known sight at es e (quantified t) p
    against_form : {known : Known} {sight : Sight} {at : ℕ} {es : ContextEntries} {e : Term} {t : Open} {o : TermOutcome}
        → is_quantified t ≡ false → ChecksByForm known sight at es e t o → ChecksAgainst known sight at es e t o
    against_subtype : {known : Known} {sight : Sight} {at : ℕ} {es fs gs : ContextEntries} {e : Term} {s t : Open}
        → is_quantified t ≡ false → has_rule_of_form e t ≡ false → Synthesizes known sight at es e (gives s fs)
        → SolvesSubtypes fs (more s none) (more t none) (done gs) → ChecksAgainst known sight at es e t (leaves gs)
    against_no_subtype : {known : Known} {sight : Sight} {at : ℕ} {es fs : ContextEntries} {e : Term} {s t : Open} {why : Refusal} {stop : Stop}
        → is_quantified t ≡ false → has_rule_of_form e t ≡ false → Synthesizes known sight at es e (gives s fs)
        → SolvesSubtypes fs (more s none) (more t none) (refused why)
        → stop ≡ stop_at at why → ChecksAgainst known sight at es e t (stops stop)
    against_type_stops : {known : Known} {sight : Sight} {at : ℕ} {es : ContextEntries} {e : Term} {t : Open} {stop : Stop}
        → is_quantified t ≡ false → has_rule_of_form e t ≡ false → Synthesizes known sight at es e (gives_none stop) → ChecksAgainst known sight at es e t (stops stop)

  -- a term is checked by the rule of its form against a type without a quantifier at its front
  pub data ChecksByForm : Known → Sight → ℕ → ContextEntries → Term → Open → TermOutcome → Type 0 where
    form_lambda : {known : Known} {sight : Sight} {at n : ℕ} {es : ContextEntries} {e : Term} {a b : Open} {o p : TermOutcome}
        → n ≡ fresh_number es → Checks known (under (Some n) sight) (at + 1) (es ++ Binder n a ∷ []) e b o
        → p ≡ left_before (Binder n a) o → ChecksByForm known sight at es (terms.lambda e) (arrow a b) p
    form_tuple : {known : Known} {sight : Sight} {at : ℕ} {es : ContextEntries} {parts : Terms} {ts : Opens} {o : TermOutcome}
        → terms_count parts ≡ opens_count ts → ChecksAll known sight (at + 1) es parts ts o
        → ChecksByForm known sight at es (terms.tuple parts) (tuple ts) o
    form_list : {known : Known} {sight : Sight} {at : ℕ} {es : ContextEntries} {elements : Terms} {s t : Open} {o : TermOutcome}
        → s ≡ list_of t → ChecksAll known sight (at + 1) es elements (repeated (terms_count elements) t) o
        → ChecksByForm known sight at es (terms.list elements) s o
    form_conditional : {known : Known} {sight : Sight} {at : ℕ} {es : ContextEntries} {a b c : Term} {t : Open} {o : TermOutcome}
        → ChecksAll known sight (at + 1) es (terms.more a (terms.more b (terms.more c terms.none))) (more boolean (more t (more t none))) o
        → ChecksByForm known sight at es (terms.conditional a b c) t o
    form_signed : {known : Known} {sight : Sight} {at n : ℕ} {es fs : ContextEntries} {ty : Ty} {a b : Term} {s t : Open} {o p : TermOutcome}
        → n ≡ fresh_number es → s ≡ written sight.seen ty
        → Meets known (under (Some n) sight) (at + 1 + length (ty_nodes ty)) (es ++ Binder n s ∷ []) a s (leaves fs)
        → Checks known (under (Some n) sight) (at + 1 + length (ty_nodes ty) + length (term_nodes a)) fs b t o
        → p ≡ left_before (Binder n s) o → ChecksByForm known sight at es (terms.binding (Some ty) a b) t p
    form_signed_stops : {known : Known} {sight : Sight} {at n : ℕ} {es : ContextEntries} {ty : Ty} {a b : Term} {s t : Open} {stop : Stop}
        → n ≡ fresh_number es → s ≡ written sight.seen ty
        → Meets known (under (Some n) sight) (at + 1 + length (ty_nodes ty)) (es ++ Binder n s ∷ []) a s (stops stop)
        → ChecksByForm known sight at es (terms.binding (Some ty) a b) t (stops stop)
    form_own_use : {known : Known} {sight : Sight} {at : ℕ} {es : ContextEntries} {a b : Term} {t : Open}
        → uses 0 a ≡ true → ChecksByForm known sight at es (terms.binding None a b) t (stops (needs_signature at))
    form_binding : {known : Known} {sight : Sight} {at n : ℕ} {es fs : ContextEntries} {a b : Term} {s t : Open} {o p : TermOutcome}
        → uses 0 a ≡ false
        → Synthesizes known (under None sight) (at + 1) es a (gives s fs)
        → n ≡ fresh_number fs → Checks known (under (Some n) sight) (at + 1 + length (term_nodes a)) (fs ++ Binder n s ∷ []) b t o
        → p ≡ left_before (Binder n s) o → ChecksByForm known sight at es (terms.binding None a b) t p
    form_binding_stops : {known : Known} {sight : Sight} {at : ℕ} {es : ContextEntries} {a b : Term} {t : Open} {stop : Stop}
        → uses 0 a ≡ false → Synthesizes known (under None sight) (at + 1) es a (gives_none stop)
        → ChecksByForm known sight at es (terms.binding None a b) t (stops stop)
    form_match : {known : Known} {sight : Sight} {at : ℕ} {es fs : ContextEntries} {e : Term} {cs : Cases} {s t : Open} {numbers : List ℕ} {o : TermOutcome}
        → Synthesizes known sight (at + 1) es e (gives s fs)
        → numbers ≡ fresh_numbers (front_count s) fs
        → ChecksCases known sight (at + 1 + length (term_nodes e)) (fs ++ map (λ n. Exists n) numbers) cs (behind_front (existentials numbers) s) t o
        → ChecksByForm known sight at es (terms.match e cs) t o
    form_match_stops : {known : Known} {sight : Sight} {at : ℕ} {es : ContextEntries} {e : Term} {cs : Cases} {t : Open} {stop : Stop}
        → Synthesizes known sight (at + 1) es e (gives_none stop)
        → ChecksByForm known sight at es (terms.match e cs) t (stops stop)

  -- a term has a type found, in which the solutions are put in
  pub data Synthesizes : Known → Sight → ℕ → ContextEntries → Term → TypeOutcome → Type 0 where
    synthesizes_small : {known : Known} {sight : Sight} {at : ℕ} {es fs : ContextEntries} {e : Term} {t u : Open}
        → Finds known sight at es e (gives t fs) → IsSmall (type_under fs t)
        → u ≡ type_under fs t → Synthesizes known sight at es e (gives u fs)
    synthesizes_large : {known : Known} {sight : Sight} {at : ℕ} {es fs : ContextEntries} {e : Term} {t : Open}
        → Finds known sight at es e (gives t fs) → (IsSmall (type_under fs t) → ⊥)
        → Synthesizes known sight at es e (gives_none (too_large at))
    synthesizes_stop : {known : Known} {sight : Sight} {at : ℕ} {es : ContextEntries} {e : Term} {stop : Stop}
        → Finds known sight at es e (gives_none stop) → Synthesizes known sight at es e (gives_none stop)

  -- a term has a type found by its form
  pub data Finds : Known → Sight → ℕ → ContextEntries → Term → TypeOutcome → Type 0 where
    finds_variable : {known : Known} {sight : Sight} {at i n : ℕ} {es : ContextEntries} {t : Open}
        → slice_get sight.variables i ≡ Some (Some n) → binder_type es n ≡ Some t → Finds known sight at es (terms.variable i) (gives t es)
    finds_link : {known : Known} {sight : Sight} {at : ℕ} {es : ContextEntries} {x : Target} {ty : Ty} {t : Open}
        → target_type known x ≡ Some ty → t ≡ open_from ty → Finds known sight at es (terms.link x) (gives t es)
    finds_literal : {known : Known} {sight : Sight} {at : ℕ} {es : ContextEntries} {l : Literal} {t : Open}
        → t ≡ literal_type l → Finds known sight at es (terms.literal l) (gives t es)
    finds_unit : {known : Known} {sight : Sight} {at : ℕ} {es : ContextEntries} → Finds known sight at es terms.unit (gives unit es)
    finds_annotated : {known : Known} {sight : Sight} {at : ℕ} {es : ContextEntries} {e : Term} {ty : Ty} {t : Open} {o : TermOutcome} {p : TypeOutcome}
        → t ≡ written sight.seen ty → Checks known sight (at + 1) es e t o → p ≡ giving t o → Finds known sight at es (terms.annotated e ty) p
    finds_lambda : {known : Known} {sight : Sight} {at argument result n : ℕ} {es : ContextEntries} {e : Term} {o : TermOutcome} {p : TypeOutcome}
        → argument ∷ result ∷ n ∷ [] ≡ fresh_numbers 3 es
        → Checks known (under (Some n) sight) (at + 1) (es ++ Exists argument ∷ Exists result ∷ Binder n (existential argument) ∷ []) e (existential result) o
        → p ≡ giving (arrow (existential argument) (existential result)) (left_before (Binder n (existential argument)) o)
        → Finds known sight at es (terms.lambda e) p
    finds_application : {known : Known} {sight : Sight} {at : ℕ} {es fs : ContextEntries} {f e : Term} {s : Open} {o : TypeOutcome}
        → Synthesizes known sight (at + 1) es f (gives s fs) → Applies known sight at (at + 1 + length (term_nodes f)) fs s e o
        → Finds known sight at es (terms.apply f e) o
    finds_no_function : {known : Known} {sight : Sight} {at : ℕ} {es : ContextEntries} {f e : Term} {stop : Stop}
        → Synthesizes known sight (at + 1) es f (gives_none stop) → Finds known sight at es (terms.apply f e) (gives_none stop)
    finds_tuple : {known : Known} {sight : Sight} {at : ℕ} {es : ContextEntries} {parts : Terms} {numbers : List ℕ} {o : TermOutcome} {p : TypeOutcome}
        → numbers ≡ fresh_numbers (terms_count parts) es
        → ChecksAll known sight (at + 1) (es ++ map (λ n. Exists n) numbers) parts (opens_of (existentials numbers)) o
        → p ≡ giving (tuple (opens_of (existentials numbers))) o → Finds known sight at es (terms.tuple parts) p
    finds_list : {known : Known} {sight : Sight} {at n : ℕ} {es : ContextEntries} {elements : Terms} {o : TermOutcome} {p : TypeOutcome}
        → n ≡ fresh_number es → ChecksAll known sight (at + 1) (es ++ Exists n ∷ []) elements (repeated (terms_count elements) (existential n)) o
        → p ≡ giving (list_of (existential n)) o → Finds known sight at es (terms.list elements) p
    finds_and : {known : Known} {sight : Sight} {at : ℕ} {es : ContextEntries} {a b : Term} {o : TermOutcome} {p : TypeOutcome}
        → ChecksAll known sight (at + 1) es (terms.more a (terms.more b terms.none)) (more boolean (more boolean none)) o
        → p ≡ giving boolean o → Finds known sight at es (terms.and a b) p
    finds_or : {known : Known} {sight : Sight} {at : ℕ} {es : ContextEntries} {a b : Term} {o : TermOutcome} {p : TypeOutcome}
        → ChecksAll known sight (at + 1) es (terms.more a (terms.more b terms.none)) (more boolean (more boolean none)) o
        → p ≡ giving boolean o → Finds known sight at es (terms.or a b) p
    finds_conditional : {known : Known} {sight : Sight} {at n : ℕ} {es fs : ContextEntries} {a b c : Term} {o : TermOutcome} {p : TypeOutcome}
        → Checks known sight (at + 1) es a boolean (leaves fs) → n ≡ fresh_number fs
        → ChecksAll known sight (at + 1 + length (term_nodes a)) (fs ++ Exists n ∷ []) (terms.more b (terms.more c terms.none)) (more (existential n) (more (existential n) none)) o
        → p ≡ giving (existential n) o → Finds known sight at es (terms.conditional a b c) p
    finds_no_condition : {known : Known} {sight : Sight} {at : ℕ} {es : ContextEntries} {a b c : Term} {stop : Stop}
        → Checks known sight (at + 1) es a boolean (stops stop) → Finds known sight at es (terms.conditional a b c) (gives_none stop)
    finds_binding : {known : Known} {sight : Sight} {at n : ℕ} {es : ContextEntries} {ty : Option Ty} {a b : Term} {o : TermOutcome} {p : TypeOutcome}
        → n ≡ fresh_number es → ChecksByForm known sight at (es ++ Exists n ∷ []) (terms.binding ty a b) (existential n) o
        → p ≡ giving (existential n) o → Finds known sight at es (terms.binding ty a b) p
    finds_match : {known : Known} {sight : Sight} {at n : ℕ} {es : ContextEntries} {e : Term} {cs : Cases} {o : TermOutcome} {p : TypeOutcome}
        → n ≡ fresh_number es → ChecksByForm known sight at (es ++ Exists n ∷ []) (terms.match e cs) (existential n) o
        → p ≡ giving (existential n) o → Finds known sight at es (terms.match e cs) p

  -- a function of a type, in an application at the first number, is applied to a term at the second
  pub data Applies : Known → Sight → ℕ → ℕ → ContextEntries → Open → Term → TypeOutcome → Type 0 where
    applies_quantified : {known : Known} {sight : Sight} {at next n : ℕ} {es : ContextEntries} {t : Open} {e : Term} {o : TypeOutcome}
        → n ≡ fresh_number es → Applies known sight at next (es ++ Exists n ∷ []) (opened_at 0 (existential n) t) e o
        → Applies known sight at next es (quantified t) e o
    applies_arrow : {known : Known} {sight : Sight} {at next : ℕ} {es : ContextEntries} {a b : Open} {e : Term} {o : TermOutcome} {p : TypeOutcome}
        → Checks known sight next es e a o → p ≡ giving b o → Applies known sight at next es (arrow a b) e p
    applies_existential : {known : Known} {sight : Sight} {at next x argument result : ℕ} {es : ContextEntries} {e : Term} {o : TermOutcome} {p : TypeOutcome}
        → list_any (is_unsolved x) es ≡ true → argument ∷ result ∷ [] ≡ fresh_numbers 2 es
        → Checks known sight next (solved_with_arrow es x argument result) e (existential argument) o
        → p ≡ giving (existential result) o → Applies known sight at next es (existential x) e p
    applies_ill : {known : Known} {sight : Sight} {at next : ℕ} {es : ContextEntries} {t : Open} {e : Term}
        → is_applicable es t ≡ false → Applies known sight at next es t e (gives_none (ill_typed at))

  -- a body meets its signature: under the variables of the quantifiers at the front, which annotations see, it is checked against the rest
  pub data Meets : Known → Sight → ℕ → ContextEntries → Term → Open → TermOutcome → Type 0 where
    meets_quantified : {known : Known} {sight : Sight} {at n : ℕ} {es : ContextEntries} {e : Term} {t : Open} {o p : TermOutcome}
        → IsSmall (quantified t) → n ≡ fresh_number es → Meets known (with_seen n sight) at (es ++ Rigid n ∷ []) e (opened_at 0 (rigid n) t) o
        → p ≡ left_before (Rigid n) o → Meets known sight at es e (quantified t) p
    meets_rest : {known : Known} {sight : Sight} {at : ℕ} {es : ContextEntries} {e : Term} {t : Open} {o : TermOutcome}
        → is_quantified t ≡ false → Checks known sight at es e t o → Meets known sight at es e t o
    meets_large : {known : Known} {sight : Sight} {at : ℕ} {es : ContextEntries} {e : Term} {t : Open}
        → (IsSmall (quantified t) → ⊥) → Meets known sight at es e (quantified t) (stops (too_large at))

  -- terms are checked against as many types, one after another; the first has a number
  pub data ChecksAll : Known → Sight → ℕ → ContextEntries → Terms → Opens → TermOutcome → Type 0 where
    all_checked : {known : Known} {sight : Sight} {at : ℕ} {es : ContextEntries} → ChecksAll known sight at es terms.none none (leaves es)
    checked_next : {known : Known} {sight : Sight} {at : ℕ} {es fs : ContextEntries} {e : Term} {rest : Terms} {t : Open} {ts : Opens} {o : TermOutcome}
        → Checks known sight at es e t (leaves fs) → ChecksAll known sight (at + length (term_nodes e)) fs rest ts o
        → ChecksAll known sight at es (terms.more e rest) (more t ts) o
    checked_stop : {known : Known} {sight : Sight} {at : ℕ} {es : ContextEntries} {e : Term} {rest : Terms} {t : Open} {ts : Opens} {stop : Stop}
        → Checks known sight at es e t (stops stop) → ChecksAll known sight at es (terms.more e rest) (more t ts) (stops stop)

  -- cases are checked one after another, patterns against the first type and bodies against the second
  pub data ChecksCases : Known → Sight → ℕ → ContextEntries → Cases → Open → Open → TermOutcome → Type 0 where
    all_cases : {known : Known} {sight : Sight} {at : ℕ} {es : ContextEntries} {s t : Open} → ChecksCases known sight at es terms.no_case s t (leaves es)
    case_next : {known : Known} {sight : Sight} {at : ℕ} {es fs : ContextEntries} {q : Pattern} {b : Term} {cs : Cases} {s t : Open} {o : TermOutcome}
        → ChecksCase known sight at es q (terms.more b terms.none) s (more t none) (leaves fs)
        → ChecksCases known sight (at + length (pattern_nodes q) + length (term_nodes b)) fs cs s t o
        → ChecksCases known sight at es (terms.case q b cs) s t o
    case_stop : {known : Known} {sight : Sight} {at : ℕ} {es : ContextEntries} {q : Pattern} {b : Term} {cs : Cases} {s t : Open} {stop : Stop}
        → ChecksCase known sight at es q (terms.more b terms.none) s (more t none) (stops stop)
        → ChecksCases known sight at es (terms.case q b cs) s t (stops stop)
    guarded_next : {known : Known} {sight : Sight} {at : ℕ} {es fs : ContextEntries} {q : Pattern} {g b : Term} {cs : Cases} {s t : Open} {o : TermOutcome}
        → ChecksCase known sight at es q (terms.more g (terms.more b terms.none)) s (more boolean (more t none)) (leaves fs)
        → ChecksCases known sight (at + length (pattern_nodes q) + length (term_nodes g) + length (term_nodes b)) fs cs s t o
        → ChecksCases known sight at es (terms.guarded q g b cs) s t o
    guarded_stop : {known : Known} {sight : Sight} {at : ℕ} {es : ContextEntries} {q : Pattern} {g b : Term} {cs : Cases} {s t : Open} {stop : Stop}
        → ChecksCase known sight at es q (terms.more g (terms.more b terms.none)) s (more boolean (more t none)) (stops stop)
        → ChecksCases known sight at es (terms.guarded q g b cs) s t (stops stop)

  -- a case is checked behind a marker: its pattern against a type, then its terms under the variables of the pattern against as many types
  pub data ChecksCase : Known → Sight → ℕ → ContextEntries → Pattern → Terms → Open → Opens → TermOutcome → Type 0 where
    case_checked : {known : Known} {sight : Sight} {at n : ℕ} {es fs : ContextEntries} {q : Pattern} {bodies : Terms} {s : Open} {ts : Opens} {vars : Variables} {o p : TermOutcome}
        → n ≡ fresh_number es → MatchesPattern known at sight.variables (es ++ Mark n ∷ []) q s (matched vars fs)
        → ChecksAll known (with_variables vars sight) (at + length (pattern_nodes q)) fs bodies ts o
        → p ≡ left_before (Mark n) o → ChecksCase known sight at es q bodies s ts p
    case_unmatched : {known : Known} {sight : Sight} {at n : ℕ} {es : ContextEntries} {q : Pattern} {bodies : Terms} {s : Open} {ts : Opens} {stop : Stop}
        → n ≡ fresh_number es → MatchesPattern known at sight.variables (es ++ Mark n ∷ []) q s (unmatched stop)
        → ChecksCase known sight at es q bodies s ts (stops stop)
