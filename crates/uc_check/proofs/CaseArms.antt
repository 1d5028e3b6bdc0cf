-- A case of a match, and those that are left.
use Rattle.std.proofs.Common.{◌≡◌, ℕ, ◌+◌, ◌-◌, ◌<◌, ◌≤◌, ◌^◌, true, List, [], ◌∷◌, ◌++◌, map, length, drop, Option, Some, refl, sym, ap, subst, ◌∙◌, arith, get_or}
use Rattle.std.proofs.lemmas.List.{drop_more, drop_all}
use Rattle.uc_base.specs.declared.fault.Fault.{Fault}
use Rattle.uc_base.specs.declared.place.Spot.{Spot}
use Rattle.uc_tree.specs.declared.term.Case.{Case}
use Rattle.uc_tree.specs.Nodes.{pattern_nodes, terms_nodes, cases_nodes}
use Rattle.uc_tree.specs.Patterns.{Pattern}
use Rattle.uc_tree.specs.Terms.{Term, Cases, no_case}
use Rattle.uc_tree.specs.TermViews.{case_with, cases_of}
use Rattle.uc_kinds.specs.PatternTyping.{Known}
use Rattle.uc_kinds.specs.Typing.{some_uses, binders_in}
use Rattle.uc_context.specs.declared.entry.Entry.TheVariants.{Mark}
use Rattle.uc_context.specs.Entries.{ContextEntries, dropped_from}
use Rattle.uc_context.specs.Fresh.{fresh_number}
use Rattle.uc_context.specs.Opens.{Open, Opens, none, more}
use Rattle.uc_subtyping.specs.Outcomes.{done}
use Rattle.uc_soundness.specs.WellFormed.{IsTypeIn}
use Rattle.uc_soundness.proofs.Outcomes.{Extended}
use Rattle.uc_soundness.proofs.Subtypes.{AreTypesIn}
use Rattle.uc_soundness.proofs.Types.{Covered-front, type_covered}
use Rattle.uc_typing.specs.Checking.{ChecksAll, ChecksCases, all_cases, case_checked, case_unmatched}
use Rattle.uc_typing.specs.Scopes.{Sight, with_variables}
use Rattle.uc_typing.specs.Stops.{Variables, unmatched, TermOutcome, leaves, stops}
use Rattle.uc_sound_typing.specs.Formed.{IsFormedPattern, AreFormed, AreFormedCases}
use Rattle.uc_sound_typing.proofs.Growing.{Covered-grows}
use Rattle.uc_sound_typing.proofs.Sights.{seen_marked}
use Rattle.uc_sound_typing.proofs.Terms.{marked_behind_all}
use Rattle.uc_sound_typing.proofs.TermsExtend.{case_extends}
use Rattle.uc_patterns.specs.Binding.{Binds}
use Rattle.uc_patterns.specs.declared.state.State.{State}
use Rattle.uc_patterns.specs.Spots.{passed, IsStopped}
use Rattle.uc_patterns.specs.Walks.{IsReady, AreTypes, Matches, IsMatched}
use Rattle.uc_patterns.proofs.Bound.{matched_binds}
use Rattle.uc_patterns.proofs.States.{Behind, behind_pattern}
use Rattle.uc_patterns.proofs.Steps.{stopped_as, passed_none}
use Rattle.uc_check.specs.Walks.{AreAsked, AreAskedCases, IsChecked, ChecksAllIn, ChecksCasesIn, ChecksCaseIn, case_terms, case_types}
use Rattle.uc_check.proofs.Asked.{HasBinder}
use Rattle.uc_check.proofs.CheckStates.{ready_on, typed_on, passed_by}
use Rattle.uc_check.proofs.CaseParts.{binders_behind, case_formed, formed_alone, case_uses, rest_uses, uses_alone, case_nodes, then_cases, case_stops, case_typed}

-- behind a marker
abbrev pub marked : ℕ → State → State
marked n s = record { context = s.context ++ Mark n ∷ []; sight = s.sight; spot = s.spot }

module _ (known : Known) where
  pub ready_marked : (s : State) (n : ℕ) → IsReady known s → IsReady known (marked n s)
  ready_marked s n ready = record { known = ready.known; context = marked_behind_all known.arity s.context n ready.context; seen = seen_marked s.context s.sight ready.seen n }

  pub marked_typed : (s : State) (n : ℕ) (t : Open) → IsTypeIn known.arity s.context 0 t → IsTypeIn known.arity (marked n s).context 0 t
  marked_typed s n t h = type_covered known.arity s.context (marked n s).context (Covered-front s.context (Mark n ∷ [])) 0 t h

-- as many variables as before, once those of a pattern are dropped
drop_numbers : (ns : List ℕ) (vars : Variables) → drop (length ns) (map (λ n. Some n) ns ++ vars) ≡ vars
drop_numbers [] vars = refl
drop_numbers (n ∷ ns) vars = drop_numbers ns vars

count_numbers : (ns : List ℕ) (vars : Variables) → length (map (λ n. Some n) ns ++ vars) ≡ length ns + length vars
count_numbers [] vars = omega arith
count_numbers (n ∷ ns) vars = omega (arith, count_numbers ns vars)

module _ (vars ws : Variables) (k : ℕ) (b : Binds vars ws k) where
  pub count_bound : length ws ≡ k + length vars
  count_bound = ap length b.whole ∙ count_numbers b.numbers vars ∙ ap (λ (j : ℕ). j + length vars) b.many

  pub drop_bound : drop (length ws - length vars) ws ≡ vars
  drop_bound =
      let counted = ap length b.whole ∙ count_numbers b.numbers vars in
      let count : length ws - length vars ≡ length b.numbers = omega (arith, counted) in
      ap (λ (j : ℕ). drop j ws) count ∙ ap (drop (length b.numbers)) b.whole ∙ drop_numbers b.numbers vars

-- a case
module _ (known : Known) (old : State) (n : ℕ) (q : Pattern) (g : Option Term) (b : Term) (s t : Open) (asked : AreAskedCases known old (case_with q g b no_case)) (fresh : n ≡ fresh_number old.context) where
  case_formed_here : IsFormedPattern known q × AreFormed known (binders_in q + length old.sight.variables) (length old.sight.seen) (case_terms g b) × AreFormedCases known (length old.sight.variables) (length old.sight.seen) no_case
  case_formed_here = case_formed q b no_case known (length old.sight.variables) (length old.sight.seen) g asked.formed

  pub pattern_formed : IsFormedPattern known q
  pattern_formed = case_formed_here.0

  pub pattern_room : old.spot.node + length (pattern_nodes q) < 2 ^ 32
  pattern_room = omega (arith, asked.nodes, case_nodes q b no_case g)

  pub case_unmatched_stopped : (fault : Fault) → IsStopped old.spot.member (λ stop. Matches known (marked n old) q s (unmatched stop)) fault
      → IsStopped old.spot.member (λ stop. ChecksCaseIn known old q (case_terms g b) s (case_types g t) (stops stop)) fault
  case_unmatched_stopped fault d =
      stopped_as old.spot.member old.spot.member (λ stop. Matches known (marked n old) q s (unmatched stop)) (λ stop. ChecksCaseIn known old q (case_terms g b) s (case_types g t) (stops stop)) fault refl (λ stop k. case_unmatched fresh k) d

  module _ (s_typed : IsTypeIn known.arity old.context 0 s) (typed : IsTypeIn known.arity old.context 0 t) (mid : State) (m : IsMatched known (marked n old) mid q s) where
    behind : Behind known (marked n old).context mid
    behind = behind_pattern known (marked n old) (ready_marked known old n asked.ready) mid q s pattern_formed (marked_typed known old n s s_typed) m

    bound_here : Binds old.sight.variables mid.sight.variables (binders_in q)
    bound_here = matched_binds m.outcome

    mid_node : mid.spot.node ≡ old.spot.node + length (pattern_nodes q)
    mid_node = ap (λ (p : Spot). p.node) m.spot

    pub bodies_asked : AreAsked known mid (case_terms g b)
    bodies_asked =
        let count : binders_in q + length old.sight.variables ≡ length mid.sight.variables = sym (count_bound old.sight.variables mid.sight.variables (binders_in q) bound_here) in
        record {
          ready = behind.ready;
          formed = subst (λ (j : ℕ). AreFormed known j (length mid.sight.seen) (case_terms g b)) count
              (subst (λ (xs : List ℕ). AreFormed known (binders_in q + length old.sight.variables) (length xs) (case_terms g b)) (sym m.seen) case_formed_here.1);
          bound = λ i used. subst (λ (ws : Variables). HasBinder ws i) (sym bound_here.whole)
              (binders_behind bound_here.numbers old.sight.variables (λ j. some_uses j (case_terms g b) ≡ true)
              (λ j u. asked.bound j (case_uses q b no_case g j (subst (λ (l : ℕ). some_uses (j + l) (case_terms g b) ≡ true) bound_here.many u))) i used);
          nodes = omega (arith, asked.nodes, case_nodes q b no_case g, mid_node);
        }

    pub body_typed : IsTypeIn known.arity mid.context 0 t
    body_typed = type_covered known.arity (marked n old).context mid.context (Covered-grows behind.grows) 0 t (marked_typed known old n t typed)

    bodies_from : (o : TermOutcome) → ChecksAllIn known mid (case_terms g b) (case_types g t) o
        → ChecksAll known (with_variables mid.sight.variables old.sight) (old.spot.node + length (pattern_nodes q)) mid.context (case_terms g b) (case_types g t) o
    bodies_from o d =
        subst (λ (xs : List ℕ). ChecksAll known (let at : Sight = record { variables = mid.sight.variables; seen = xs } in at) (old.spot.node + length (pattern_nodes q)) mid.context (case_terms g b) (case_types g t) o) m.seen
        (subst (λ (k : ℕ). ChecksAll known mid.sight k mid.context (case_terms g b) (case_types g t) o) mid_node d)

    pub case_depth : (last : State) → last.sight ≡ mid.sight → length old.sight.variables ≤ length last.sight.variables
    case_depth last same =
        let count = count_bound old.sight.variables mid.sight.variables (binders_in q) bound_here in
        let here : length last.sight.variables ≡ length mid.sight.variables = ap (λ (x : Sight). length x.variables) same in
        omega (arith, count, here)

    pub case_done : (last new : State) → IsChecked (ChecksAllIn known mid (case_terms g b) (case_types g t)) mid last (length (terms_nodes (case_terms g b)))
        → new.context ≡ dropped_from (Mark n) last.context → new.sight ≡ with_variables (drop (length last.sight.variables - length old.sight.variables) last.sight.variables) last.sight → new.spot ≡ last.spot
        → IsChecked (ChecksCaseIn known old q (case_terms g b) s (case_types g t)) old new (length (pattern_nodes q) + length (terms_nodes (case_terms g b)))
    case_done last new c at same_sight same_spot = record {
      outcome = case_checked fresh m.outcome (bodies_from (leaves last.context) c.outcome) (ap leaves at);
      sight = same_sight
          ∙ ap (λ (x : Sight). with_variables (drop (length x.variables - length old.sight.variables) x.variables) x) c.sight
          ∙ ap (λ (ws : Variables). with_variables ws mid.sight) (drop_bound old.sight.variables mid.sight.variables (binders_in q) bound_here)
          ∙ ap (λ (xs : List ℕ). let x : Sight = record { variables = old.sight.variables; seen = xs } in x) m.seen;
      spot = same_spot ∙ c.spot ∙ ap (λ (p : Spot). passed p (length (terms_nodes (case_terms g b)))) m.spot
          ∙ passed_by old.spot (length (pattern_nodes q)) (length (terms_nodes (case_terms g b))) (length (pattern_nodes q) + length (terms_nodes (case_terms g b))) refl;
    }

    pub case_stopped : (fault : Fault) → IsStopped mid.spot.member (λ stop. ChecksAllIn known mid (case_terms g b) (case_types g t) (stops stop)) fault
        → IsStopped old.spot.member (λ stop. ChecksCaseIn known old q (case_terms g b) s (case_types g t) (stops stop)) fault
    case_stopped fault d =
        stopped_as mid.spot.member old.spot.member (λ stop. ChecksAllIn known mid (case_terms g b) (case_types g t) (stops stop)) (λ stop. ChecksCaseIn known old q (case_terms g b) s (case_types g t) (stops stop)) fault
        (ap (λ (p : Spot). p.member) m.spot) (λ stop k. case_checked fresh m.outcome (bodies_from (stops stop) k) refl) d

-- cases that are left, from whose outcome another follows
pub record PendingCases (known : Known) (judged : TermOutcome → Type 0) (start now : State) (nodes : ℕ) (cs : Cases) (s t : Open) : Type 0 where
  pub asked : AreAskedCases known now cs
  pub subject : IsTypeIn known.arity now.context 0 s
  pub typed : IsTypeIn known.arity now.context 0 t
  pub sight : now.sight ≡ start.sight
  pub spot : passed now.spot (length (cases_nodes cs)) ≡ passed start.spot nodes
  pub ends : (o : TermOutcome) → ChecksCasesIn known now cs s t o → judged o

module _ (known : Known) (s t : Open) where
  pub cases_start : (start : State) (cs : Cases) → AreAskedCases known start cs → IsTypeIn known.arity start.context 0 s → IsTypeIn known.arity start.context 0 t
      → PendingCases known (ChecksCasesIn known start cs s t) start start (length (cases_nodes cs)) cs s t
  cases_start start cs asked subject typed = record { asked = asked; subject = subject; typed = typed; sight = refl; spot = refl; ends = λ o d. d }

  module _ (judged : TermOutcome → Type 0) (start : State) (nodes : ℕ) where
    pub cases_as : (a b : State) (cs ds : Cases) → a ≡ b → cs ≡ ds → PendingCases known judged start a nodes cs s t → PendingCases known judged start b nodes ds s t
    cases_as a b cs ds e f h = subst (λ (xs : Cases). PendingCases known judged start b nodes xs s t) f (subst (λ (c : State). PendingCases known judged start c nodes cs s t) e h)

    module _ (now : State) (q : Pattern) (g : Option Term) (b : Term) (rest : Cases) (h : PendingCases known judged start now nodes (case_with q g b rest) s t) where
      pub this_asked : AreAskedCases known now (case_with q g b no_case)
      this_asked = record {
        ready = h.asked.ready;
        formed = formed_alone q b rest known (length now.sight.variables) (length now.sight.seen) g h.asked.formed;
        bound = λ i used. h.asked.bound i (uses_alone q b rest g i used);
        nodes = omega (arith, h.asked.nodes, case_nodes q b rest g, case_nodes q b no_case g);
      }

      pub this_stopped : (fault : Fault) → IsStopped now.spot.member (λ stop. ChecksCaseIn known now q (case_terms g b) s (case_types g t) (stops stop)) fault → IsStopped start.spot.member (λ stop. judged (stops stop)) fault
      this_stopped fault d =
          stopped_as now.spot.member start.spot.member (λ stop. ChecksCaseIn known now q (case_terms g b) s (case_types g t) (stops stop)) (λ stop. judged (stops stop)) fault (ap (λ (p : Spot). p.member) h.spot)
          (λ stop k. h.ends (stops stop) (case_stops q b rest known now.sight now.spot.node now.context s t g stop k)) d

      module _ (next : State) (c : IsChecked (ChecksCaseIn known now q (case_terms g b) s (case_types g t)) now next (length (pattern_nodes q) + length (terms_nodes (case_terms g b)))) where
        parts : IsFormedPattern known q × AreFormed known (binders_in q + length now.sight.variables) (length now.sight.seen) (case_terms g b) × AreFormedCases known (length now.sight.variables) (length now.sight.seen) rest
        parts = case_formed q b rest known (length now.sight.variables) (length now.sight.seen) g h.asked.formed

        as_types : (es : ContextEntries) (ts : Opens) → AreTypes known.arity es ts → AreTypesIn known.arity es ts
        as_types es none h = tt
        as_types es (more u ts) h = (h.0, as_types es ts h.1)

        case_leaves : Extended known.arity now.context (done next.context)
        case_leaves =
            case_extends c.outcome h.asked.ready.known.formed parts.0 (binders_in q + length now.sight.variables) parts.1 h.asked.ready.context h.asked.ready.seen h.subject
            (as_types now.context (case_types g t) (case_typed known h.asked.ready.known.formed now.context g t h.typed))

        next_node : next.spot.node ≡ now.spot.node + (length (pattern_nodes q) + length (terms_nodes (case_terms g b)))
        next_node = ap (λ (p : Spot). p.node) c.spot

        rest_from : (o : TermOutcome) → ChecksCasesIn known next rest s t o → ChecksCases known now.sight (now.spot.node + (length (pattern_nodes q) + length (terms_nodes (case_terms g b)))) next.context rest s t o
        rest_from o d =
            subst (λ (x : Sight). ChecksCases known x (now.spot.node + (length (pattern_nodes q) + length (terms_nodes (case_terms g b)))) next.context rest s t o) c.sight
            (subst (λ (k : ℕ). ChecksCases known next.sight k next.context rest s t o) next_node d)

        pub cases_next : PendingCases known judged start next nodes rest s t
        cases_next = record {
          asked = record {
            ready = ready_on known now h.asked.ready next case_leaves c.sight;
            formed = subst (λ (x : Sight). AreFormedCases known (length x.variables) (length x.seen) rest) (sym c.sight) parts.2;
            bound = λ i used. subst (λ (x : Sight). HasBinder x.variables i) (sym c.sight) (h.asked.bound i (rest_uses q b rest g i used));
            nodes = omega (arith, h.asked.nodes, case_nodes q b rest g, next_node);
          };
          subject = typed_on known now h.asked.ready next case_leaves s h.subject;
          typed = typed_on known now h.asked.ready next case_leaves t h.typed;
          sight = c.sight ∙ h.sight;
          spot = ap (λ (p : Spot). passed p (length (cases_nodes rest))) c.spot
              ∙ passed_by now.spot (length (pattern_nodes q) + length (terms_nodes (case_terms g b))) (length (cases_nodes rest)) (length (cases_nodes (case_with q g b rest))) (sym (case_nodes q b rest g)) ∙ h.spot;
          ends = λ o d. h.ends o (then_cases q b rest known now.sight now.spot.node now.context s t g next.context o c.outcome (rest_from o d));
        }

    pub cases_done : (now : State) → PendingCases known judged start now nodes no_case s t → IsChecked judged start now nodes
    cases_done now h = record { outcome = h.ends (leaves now.context) all_cases; sight = h.sight; spot = passed_none now.spot ∙ h.spot }

-- cases from a place on
pub cases_left : List Case → ℕ → Cases
cases_left cs at = cases_of (drop at cs)

pub cases_left-more : (cs : List Case) (at : ℕ) (c : Case) → at < length cs → c ≡ get_or cs at c → cases_left cs at ≡ case_with c.pattern c.guard c.body (cases_left cs (at + 1))
unfolding cases_left
cases_left-more cs at c within is = ap cases_of (drop_more cs at c within ∙ ap (λ (d : Case). d ∷ drop (at + 1) cs) (sym is))

pub cases_left-none : (cs : List Case) (at : ℕ) → length cs ≤ at → cases_left cs at ≡ no_case
unfolding cases_left
cases_left-none cs at end = ap cases_of (drop_all at cs end)

pub cases_left-all : (cs : List Case) → cases_of cs ≡ cases_left cs 0
unfolding cases_left
cases_left-all cs = refl
