-- Tuples, lists, conditionals and matches that are checked by their form.
use Rattle.std.proofs.Common.{◌≡◌, ℕ, ◌+◌, ◌<◌, ◌^◌, List, [], ◌++◌, map, length, refl, sym, ap, subst, ◌∙◌, arith, length-append}
use Rattle.std.proofs.lemmas.Bool.{or_left, or_right}
use Rattle.uc_base.specs.declared.fault.Fault.{Fault}
use Rattle.uc_base.specs.declared.place.Spot.{Spot}
use Rattle.uc_tree.specs.Nodes.{term_nodes, terms_nodes, cases_nodes}
use Rattle.uc_tree.specs.Terms.{Term, Terms, Cases, terms_of}
use Rattle.uc_tree.specs.Terms as terms
use Rattle.uc_kinds.specs.PatternTyping.{Known}
use Rattle.uc_kinds.specs.Typing.{uses, some_case_uses}
use Rattle.uc_context.specs.declared.entry.Entry.TheVariants.{Exists}
use Rattle.uc_context.specs.Fresh.{fresh_numbers}
use Rattle.uc_context.specs.Opens.{Open, tuple, Opens, none, more}
use Rattle.uc_context.proofs.FreshNumbers.{fresh_numbers-AreNew}
use Rattle.uc_subtyping.specs.Instances.{opens_count}
use Rattle.uc_subtyping.specs.Outcomes.{done}
use Rattle.uc_soundness.specs.Extending.{Extends}
use Rattle.uc_soundness.specs.WellFormed.{IsTypeIn}
use Rattle.uc_soundness.proofs.Extending.{Extends-trans}
use Rattle.uc_soundness.proofs.Instances.{all_new}
use Rattle.uc_soundness.proofs.Outcomes.{Extended}
use Rattle.uc_soundness.proofs.Subtypes.{mono_types}
use Rattle.uc_typing.specs.Checking.{form_tuple, form_list, form_conditional, form_match, form_match_stops, ChecksCases}
use Rattle.uc_typing.specs.Fronts.{front_count, behind_front, existentials, repeated, boolean, list_of}
use Rattle.uc_typing.specs.Scopes.{Sight}
use Rattle.uc_typing.specs.Stops.{TermOutcome, leaves, stops, gives, gives_none}
use Rattle.uc_typing.specs.Terms.{terms_count}
use Rattle.uc_sound_typing.specs.Formed.{AreFormedCases}
use Rattle.uc_sound_typing.proofs.NewExistentials.{with_existentials, behind_typed, Extends-existentials}
use Rattle.uc_sound_typing.proofs.Terms.{TypeExtended, new_behind, boolean_typed, list_parts}
use Rattle.uc_sound_typing.proofs.TermsExtend.{synthesizes_extends}
use Rattle.uc_patterns.specs.declared.state.State.{State}
use Rattle.uc_patterns.specs.Spots.{passed, IsStopped}
use Rattle.uc_patterns.specs.Walks.{AreTypes}
use Rattle.uc_patterns.proofs.States.{types_as}
use Rattle.uc_patterns.proofs.Steps.{stopped_as}
use Rattle.uc_check.specs.Walks.{IsAsked, AreAskedCases, IsChecked, IsFound, ChecksAllIn, ChecksByFormIn, ChecksCasesIn, SynthesizesIn, ahead}
use Rattle.uc_check.proofs.Asked.{HasBinder, plain_formed, conditional_asked}
use Rattle.uc_check.proofs.CheckStates.{ready_ahead, ready_on, typed_on, passed_by}
use Rattle.uc_check.proofs.ListPending.{PendingTerms}

-- from a list of terms to the whole that they are the parts of
module _ (known : Known) (old : State) (e : Term) (t : Open) (es : Terms) (ts : Opens) (nodes : 1 + length (terms_nodes es) ≡ length (term_nodes e)) (rule : (o : TermOutcome) → ChecksAllIn known (ahead 1 old) es ts o → ChecksByFormIn known old e t o) where
  pub parts_done : (new : State) → IsChecked (ChecksAllIn known (ahead 1 old) es ts) (ahead 1 old) new (length (terms_nodes es)) → IsChecked (ChecksByFormIn known old e t) old new (length (term_nodes e))
  parts_done new c = record { outcome = rule (leaves new.context) c.outcome; sight = c.sight; spot = c.spot ∙ passed_by old.spot 1 (length (terms_nodes es)) (length (term_nodes e)) nodes }

  pub parts_stopped : (fault : Fault) → IsStopped old.spot.member (λ stop. ChecksAllIn known (ahead 1 old) es ts (stops stop)) fault → IsStopped old.spot.member (λ stop. ChecksByFormIn known old e t (stops stop)) fault
  parts_stopped fault s =
      stopped_as old.spot.member old.spot.member (λ stop. ChecksAllIn known (ahead 1 old) es ts (stops stop)) (λ stop. ChecksByFormIn known old e t (stops stop)) fault refl (λ stop d. rule (stops stop) d) s

-- a tuple
module _ (known : Known) (old : State) (es : Terms) (ts : Opens) (as_many : terms_count es ≡ opens_count ts) where
  tuple_nodes : 1 + length (terms_nodes es) ≡ length (term_nodes (terms.tuple es))
  tuple_nodes = omega arith

  pub tuple_types : IsTypeIn known.arity old.context 0 (tuple ts) → AreTypes known.arity old.context ts
  tuple_types h = types_as known.arity old.context ts (mono_types known.arity old.context ts h)

  pub tuple_done : (new : State) → IsChecked (ChecksAllIn known (ahead 1 old) es ts) (ahead 1 old) new (length (terms_nodes es)) → IsChecked (ChecksByFormIn known old (terms.tuple es) (tuple ts)) old new (length (term_nodes (terms.tuple es)))
  tuple_done new c = parts_done known old (terms.tuple es) (tuple ts) es ts tuple_nodes (λ o d. form_tuple as_many d) new c

  pub tuple_stopped : (fault : Fault) → IsStopped old.spot.member (λ stop. ChecksAllIn known (ahead 1 old) es ts (stops stop)) fault → IsStopped old.spot.member (λ stop. ChecksByFormIn known old (terms.tuple es) (tuple ts) (stops stop)) fault
  tuple_stopped fault s = parts_stopped known old (terms.tuple es) (tuple ts) es ts tuple_nodes (λ o d. form_tuple as_many d) fault s

-- a list
module _ (known : Known) (old : State) (es : Terms) (s t : Open) (k : ℕ) (is : s ≡ list_of t) (count : terms_count es ≡ k) where
  list_nodes : 1 + length (terms_nodes es) ≡ length (term_nodes (terms.list es))
  list_nodes = omega arith

  list_rule : (o : TermOutcome) → ChecksAllIn known (ahead 1 old) es (repeated k t) o → ChecksByFormIn known old (terms.list es) s o
  list_rule o d = form_list is (subst (λ (n : ℕ). ChecksAllIn known (ahead 1 old) es (repeated n t) o) (sym count) d)

  pub element_typed : IsTypeIn known.arity old.context 0 s → IsTypeIn known.arity old.context 0 t
  element_typed h = list_parts known.arity old.context s t is h

  pub list_done : (new : State) → IsChecked (ChecksAllIn known (ahead 1 old) es (repeated k t)) (ahead 1 old) new (length (terms_nodes es)) → IsChecked (ChecksByFormIn known old (terms.list es) s) old new (length (term_nodes (terms.list es)))
  list_done new c = parts_done known old (terms.list es) s es (repeated k t) list_nodes list_rule new c

  pub list_stopped : (fault : Fault) → IsStopped old.spot.member (λ stop. ChecksAllIn known (ahead 1 old) es (repeated k t) (stops stop)) fault → IsStopped old.spot.member (λ stop. ChecksByFormIn known old (terms.list es) s (stops stop)) fault
  list_stopped fault d = parts_stopped known old (terms.list es) s es (repeated k t) list_nodes list_rule fault d

-- the parts of a conditional
abbrev pub three_terms : Term → Term → Term → Terms
three_terms a b c = terms.more a (terms.more b (terms.more c terms.none))

abbrev pub branch_types : Open → Opens
branch_types t = more boolean (more t (more t none))

pub conditional_start : (known : Known) (old : State) (a b c : Term) (t : Open) → IsAsked known old 0 (terms.conditional a b c) → IsTypeIn known.arity old.context 0 t
    → PendingTerms known (ChecksByFormIn known old (terms.conditional a b c) t) old (ahead 1 old) (length (term_nodes (terms.conditional a b c))) (three_terms a b c) (branch_types t)
conditional_start known old a b c t asked typed = record {
  asked = conditional_asked known old a b c asked;
  typed = (boolean_typed known asked.ready.known.formed old.context, (typed, (typed, tt)));
  sight = refl;
  spot = passed_by old.spot 1 (length (terms_nodes (three_terms a b c))) (length (term_nodes (terms.conditional a b c))) count;
  ends = λ o d. form_conditional d;
}
  where
    count : 1 + length (terms_nodes (three_terms a b c)) ≡ length (term_nodes (terms.conditional a b c))
    count = omega (
      arith,
      length-append (term_nodes a) (terms_nodes (terms.more b (terms.more c terms.none))),
      length-append (term_nodes b) (terms_nodes (terms.more c terms.none)),
      length-append (term_nodes c) [],
      length-append (term_nodes a ++ term_nodes b) (term_nodes c),
      length-append (term_nodes a) (term_nodes b),
    )

-- a match
module _ (known : Known) (old : State) (e : Term) (cs : Cases) (t : Open) (asked : IsAsked known old 0 (terms.match e cs)) (typed : IsTypeIn known.arity old.context 0 t) where
  match_nodes : length (term_nodes (terms.match e cs)) ≡ 1 + length (term_nodes e) + length (cases_nodes cs)
  match_nodes = omega (arith, length-append (term_nodes e) (cases_nodes cs))

  pub match_room : old.spot.node + 1 < 2 ^ 32
  match_room = omega (arith, asked.nodes, match_nodes)

  pub subject_asked : IsAsked known (ahead 1 old) 0 e
  subject_asked = record {
    ready = ready_ahead known old asked.ready 1;
    formed = asked.formed.0;
    bound = λ i used. asked.bound i (or_left (uses i e) (some_case_uses i cs) used);
    nodes = omega (arith, asked.nodes, match_nodes);
  }

  pub subject_stopped : (fault : Fault) → IsStopped old.spot.member (λ stop. SynthesizesIn known (ahead 1 old) e (gives_none stop)) fault → IsStopped old.spot.member (λ stop. ChecksByFormIn known old (terms.match e cs) t (stops stop)) fault
  subject_stopped fault d =
      stopped_as old.spot.member old.spot.member (λ stop. SynthesizesIn known (ahead 1 old) e (gives_none stop)) (λ stop. ChecksByFormIn known old (terms.match e cs) t (stops stop)) fault refl (λ stop m. form_match_stops m) d

  module _ (mid : State) (s : Open) (found : IsFound (SynthesizesIn known (ahead 1 old) e) (ahead 1 old) mid (length (term_nodes e)) s) where
    -- new existentials for the quantifiers of the subject's type
    abbrev pub front_numbers : List ℕ
    front_numbers = fresh_numbers (front_count s) mid.context

    -- where the cases stand, and what their patterns stand against
    abbrev pub in_match : State
    in_match = record { context = mid.context ++ map (λ n. Exists n) front_numbers; sight = mid.sight; spot = mid.spot }

    abbrev pub matched_type : Open
    matched_type = behind_front (existentials front_numbers) s

    subject_extends : TypeExtended known.arity old.context (gives s mid.context)
    subject_extends = synthesizes_extends found.outcome asked.ready.known.formed (length old.sight.variables) (plain_formed known (ahead 1 old) e subject_asked) asked.ready.context asked.ready.seen

    subject_node : mid.spot.node ≡ old.spot.node + 1 + length (term_nodes e)
    subject_node = ap (λ (p : Spot). p.node) found.spot

    grown : Extends mid.context in_match.context
    grown = Extends-existentials mid.context front_numbers

    match_extends : Extended known.arity old.context (done in_match.context)
    match_extends = (with_existentials known.arity mid.context front_numbers (fresh_numbers-AreNew (front_count s) mid.context) subject_extends.0, Extends-trans subject_extends.1 grown)

    pub cases_asked : AreAskedCases known in_match cs
    cases_asked =
        let same : 0 + length old.sight.seen ≡ length old.sight.seen = omega arith in
        record {
          ready = ready_on known old asked.ready in_match match_extends found.sight;
          formed = subst (λ (g : Sight). AreFormedCases known (length g.variables) (length g.seen) cs) (sym found.sight) (subst (λ (k : ℕ). AreFormedCases known (length old.sight.variables) k cs) same asked.formed.1);
          bound = λ i used. subst (λ (g : Sight). HasBinder g.variables i) (sym found.sight) (asked.bound i (or_right (uses i e) (some_case_uses i cs) used));
          nodes = omega (arith, asked.nodes, match_nodes, subject_node);
        }

    pub matched_typed : IsTypeIn known.arity in_match.context 0 matched_type
    matched_typed = behind_typed known.arity in_match.context front_numbers s (all_new known.arity mid.context front_numbers) (new_behind known.arity mid.context front_numbers s subject_extends.2)

    pub match_typed : IsTypeIn known.arity in_match.context 0 t
    match_typed = typed_on known old asked.ready in_match match_extends t typed

    cases_from : (o : TermOutcome) → ChecksCasesIn known in_match cs matched_type t o → ChecksCases known old.sight (old.spot.node + 1 + length (term_nodes e)) in_match.context cs matched_type t o
    cases_from o d =
        subst (λ (g : Sight). ChecksCases known g (old.spot.node + 1 + length (term_nodes e)) in_match.context cs matched_type t o) found.sight
        (subst (λ (k : ℕ). ChecksCases known mid.sight k in_match.context cs matched_type t o) subject_node d)

    pub match_done : (new : State) → IsChecked (ChecksCasesIn known in_match cs matched_type t) in_match new (length (cases_nodes cs)) → IsChecked (ChecksByFormIn known old (terms.match e cs) t) old new (length (term_nodes (terms.match e cs)))
    match_done new c = record {
      outcome = form_match found.outcome refl (cases_from (leaves new.context) c.outcome);
      sight = c.sight ∙ found.sight;
      spot =
          let nodes = match_nodes in
          c.spot ∙ ap (λ (p : Spot). passed p (length (cases_nodes cs))) (found.spot ∙ passed_by old.spot 1 (length (term_nodes e)) (1 + length (term_nodes e)) refl)
          ∙ passed_by old.spot (1 + length (term_nodes e)) (length (cases_nodes cs)) (length (term_nodes (terms.match e cs))) (sym nodes);
    }

    pub match_stopped : (fault : Fault) → IsStopped mid.spot.member (λ stop. ChecksCasesIn known in_match cs matched_type t (stops stop)) fault → IsStopped old.spot.member (λ stop. ChecksByFormIn known old (terms.match e cs) t (stops stop)) fault
    match_stopped fault d =
        stopped_as mid.spot.member old.spot.member (λ stop. ChecksCasesIn known in_match cs matched_type t (stops stop)) (λ stop. ChecksByFormIn known old (terms.match e cs) t (stops stop)) fault (ap (λ (p : Spot). p.member) found.spot)
        (λ stop k. form_match found.outcome refl (cases_from (stops stop) k)) d
