-- Each arm of matching is a rule.
use Rattle.std.proofs.Common.{◌≡◌, ℕ, zero, suc, ◌+◌, ◌<◌, ◌^◌, List, [], ◌∷◌, ◌++◌, map, length, Some, refl, sym, ap, subst, ◌∙◌, arith, inr}
use Rattle.std.proofs.lemmas.List.{length-map}
use Rattle.uc_base.specs.declared.fault.Fault.{Fault}
use Rattle.uc_base.specs.declared.fault.Fault.TheVariants.{IllTyped}
use Rattle.uc_base.specs.declared.place.At.TheVariants as at
use Rattle.uc_base.specs.declared.place.Spot.{Spot}
use Rattle.uc_tree.specs.declared.literal.Literal.{Literal}
use Rattle.uc_tree.specs.declared.target.Target.{Target}
use Rattle.uc_tree.specs.Nodes.{pattern_nodes, patterns_nodes}
use Rattle.uc_tree.specs.Patterns.{Pattern, Patterns, patterns_of}
use Rattle.uc_tree.specs.Patterns as patterns
use Rattle.uc_tree.specs.Types.{Ty}
use Rattle.uc_kinds.specs.PatternTyping.{Known, target_type}
use Rattle.uc_context.specs.declared.entry.Entry.TheVariants.{Exists, Binder}
use Rattle.uc_context.specs.Closing.{open_from}
use Rattle.uc_context.specs.Entries.{ContextEntries}
use Rattle.uc_context.specs.Fresh.{fresh_number, fresh_numbers}
use Rattle.uc_context.specs.Opens.{Open, existential, unit, tuple, Opens, none, more, opens_of}
use Rattle.uc_subtyping.specs.Instances.{opens_count}
use Rattle.uc_subtyping.specs.Outcomes.{done, refused, Refusal}
use Rattle.uc_subtyping.specs.Subtyping.{SolvesSubtypes}
use Rattle.uc_soundness.specs.Extending.{Extends}
use Rattle.uc_soundness.specs.WellFormed.{IsTypeIn, IsWellFormedContext}
use Rattle.uc_soundness.proofs.Instances.{length-fresh_numbers, count_new}
use Rattle.uc_soundness.proofs.Subtypes.{AreTypesIn, types_covered}
use Rattle.uc_soundness.proofs.Types.{Covered-extends, type_covered}
use Rattle.uc_typing.specs.Fronts.{front_count, behind_front, existentials, result_of, repeated, list_of, literal_type}
use Rattle.uc_typing.specs.PatternMatching.{patterns_count, Expectation, expects_type, expects_tuple, expects_list, expects_fields, expects_constructor, expected, MatchesPattern, matches_any, matches_variable, matches_alias, matches_expected, MatchesPatterns, patterns_done, meets_parts, meets_other_count, meets_refused}
use Rattle.uc_typing.specs.Scopes.{Sight, under}
use Rattle.uc_typing.specs.Stops.{ill_typed, stop_at, PatternOutcome, matched, unmatched}
use Rattle.uc_sound_typing.specs.Formed.{IsTyped, IsConstructorType, IsFormedPattern, AreFormedPatterns}
use Rattle.uc_sound_typing.specs.Seeing.{IsSeen}
use Rattle.uc_sound_typing.proofs.Patterns.{IsFormedExpectation, expected_formed}
use Rattle.uc_sound_typing.proofs.Sights.{seen_extends}
use Rattle.uc_patterns.specs.declared.state.State.{State}
use Rattle.uc_patterns.specs.Spots.{passed, IsStopped}
use Rattle.uc_patterns.specs.Walks.{IsReady, AreTypes, Matches, MatchesAll, IsMatched, AreMatched}
use Rattle.uc_patterns.proofs.States.{behind_subtypes, types_as}
use Rattle.uc_patterns.proofs.Steps.{stopped_as, passed_twice}

-- a state in which a type is to become a subtype of what a pattern expects
pub record Facing (known : Known) (old before : State) (p : Pattern) (s u : Open) (x : Expectation) : Type 0 where
  pub ready : IsReady known old
  pub formed : IsFormedPattern known p
  pub typed : IsTypeIn known.arity old.context 0 s
  pub is : expected known old.context p ≡ Some x
  pub context : before.context ≡ x.context
  pub sight : before.sight ≡ old.sight
  pub spot : before.spot ≡ old.spot
  pub type : u ≡ x.type

module _ {known : Known} {old before : State} {p : Pattern} {s u : Open} {x : Expectation} (f : Facing known old before p s u x) where
  well_expected : IsFormedExpectation known old.context x
  well_expected = expected_formed known f.ready.known.formed old.context f.ready.context p x f.formed f.is

  pub before_ready : IsReady known before
  before_ready = record {
    known = f.ready.known;
    context = subst (IsWellFormedContext known.arity) (sym f.context) well_expected.context;
    seen = subst (IsSeen before.context) (sym f.sight) (subst (λ (cs : ContextEntries). IsSeen cs old.sight) (sym f.context) (seen_extends old.sight well_expected.extends f.ready.seen));
  }

  pub before_lower : IsTypeIn known.arity before.context 0 s
  before_lower = subst (λ (cs : ContextEntries). IsTypeIn known.arity cs 0 s) (sym f.context) (type_covered known.arity old.context x.context (Covered-extends well_expected.extends) 0 s f.typed)

  pub before_upper : IsTypeIn known.arity before.context 0 u
  before_upper = subst (λ (cs : ContextEntries). IsTypeIn known.arity cs 0 u) (sym f.context) (subst (IsTypeIn known.arity x.context 0) (sym f.type) well_expected.typed)

  pub before_room : (k : ℕ) → old.spot.node + suc k < 2 ^ 32 → before.spot.node + 1 < 2 ^ 32
  before_room k room = omega (arith, ap (λ (sp : Spot). sp.node) f.spot)

  pub facing_refused : (fault : Fault)
      → IsStopped before.spot.member (λ stop. (why : Refusal) × (stop ≡ stop_at before.spot.node why) × SolvesSubtypes before.context (more s none) (more u none) (refused why)) fault
      → IsStopped old.spot.member (λ stop. Matches known old p s (unmatched stop)) fault
  facing_refused fault r =
      stopped_as before.spot.member old.spot.member (λ stop. (why : Refusal) × (stop ≡ stop_at before.spot.node why) × SolvesSubtypes before.context (more s none) (more u none) (refused why)) (λ stop. Matches known old p s (unmatched stop)) fault
      (ap (λ (sp : Spot). sp.member) f.spot)
      (λ stop h. matches_expected f.is (meets_refused (subst (λ (v : Open). SolvesSubtypes x.context (more s none) (more v none) (refused h.0)) f.type (subst (λ (cs : ContextEntries). SolvesSubtypes cs (more s none) (more u none) (refused h.0)) f.context h.2)) (h.1 ∙ ap (λ (sp : Spot). stop_at sp.node h.0) f.spot)))
      r

-- the state behind
pub record Passing (known : Known) (old before mid : State) (p : Pattern) (s u : Open) (x : Expectation) : Type 0 where
  pub facing : Facing known old before p s u x
  pub below : SolvesSubtypes before.context (more s none) (more u none) (done mid.context)
  pub sight : mid.sight ≡ before.sight
  pub spot : mid.spot ≡ passed before.spot 1

module _ {known : Known} {old before mid : State} {p : Pattern} {s u : Open} {x : Expectation} (h : Passing known old before mid p s u x) where
  both : IsReady known mid × Extends before.context mid.context
  both = behind_subtypes known before (before_ready h.facing) mid s u (before_lower h.facing) (before_upper h.facing) h.below h.sight

  pub mid_ready : IsReady known mid
  mid_ready = both.0

  pub mid_types : AreTypes known.arity mid.context x.types
  mid_types =
      types_as known.arity mid.context x.types (types_covered known.arity before.context mid.context x.types (Covered-extends both.1)
      (subst (λ (cs : ContextEntries). AreTypesIn known.arity cs x.types) (sym h.facing.context) (well_expected h.facing).types))

  mid_spot : mid.spot ≡ passed old.spot 1
  mid_spot = h.spot ∙ ap (λ (sp : Spot). passed sp 1) h.facing.spot

  mid_sight : mid.sight ≡ old.sight
  mid_sight = h.sight ∙ h.facing.sight

  pub mid_room : (k : ℕ) → old.spot.node + suc k < 2 ^ 32 → mid.spot.node + k < 2 ^ 32
  mid_room k room = omega (arith, ap (λ (sp : Spot). sp.node) mid_spot)

  expected_below : SolvesSubtypes x.context (more s none) (more x.type none) (done mid.context)
  expected_below = subst (λ (v : Open). SolvesSubtypes x.context (more s none) (more v none) (done mid.context)) h.facing.type (subst (λ (cs : ContextEntries). SolvesSubtypes cs (more s none) (more u none) (done mid.context)) h.facing.context h.below)

  module _ (ts : Opens) (are : ts ≡ x.types) (count : patterns_count x.parts ≡ opens_count x.types) where
    pub passing_all : (o : PatternOutcome) → MatchesAll known mid x.parts ts o → Matches known old p s o
    passing_all o d =
        matches_expected h.facing.is (meets_parts expected_below count
        (subst (λ (us : Opens). MatchesPatterns known (old.spot.node + 1) old.sight.variables mid.context x.parts us o) are
        (subst (λ (si : Sight). MatchesPatterns known (old.spot.node + 1) si.variables mid.context x.parts ts o) mid_sight
        (subst (λ (sp : Spot). MatchesPatterns known sp.node mid.sight.variables mid.context x.parts ts o) mid_spot d))))

    pub passing_matched : (new : State) → length (pattern_nodes p) ≡ suc (length (patterns_nodes x.parts)) → AreMatched known mid new x.parts ts → IsMatched known old new p s
    passing_matched new nodes m =
        let one : 1 + length (patterns_nodes x.parts) ≡ length (pattern_nodes p) = omega (arith, nodes) in
        record {
          outcome = passing_all (matched new.sight.variables new.context) m.outcome;
          seen = m.seen ∙ ap (λ (si : Sight). si.seen) mid_sight;
          spot = m.spot ∙ ap (λ (sp : Spot). passed sp (length (patterns_nodes x.parts))) mid_spot ∙ passed_twice old.spot 1 (length (patterns_nodes x.parts)) ∙ ap (passed old.spot) one;
        }

    pub passing_stopped : (fault : Fault) → IsStopped mid.spot.member (λ stop. MatchesAll known mid x.parts ts (unmatched stop)) fault → IsStopped old.spot.member (λ stop. Matches known old p s (unmatched stop)) fault
    passing_stopped fault r =
        stopped_as mid.spot.member old.spot.member (λ stop. MatchesAll known mid x.parts ts (unmatched stop)) (λ stop. Matches known old p s (unmatched stop)) fault (ap (λ (sp : Spot). sp.member) mid_spot) (λ stop d. passing_all (unmatched stop) d) r

  -- a pattern without parts
  pub passing_whole : x.parts ≡ patterns.none → x.types ≡ none → length (pattern_nodes p) ≡ 1 → IsMatched known old mid p s
  passing_whole parts types nodes = record {
    outcome = passing_all none (sym types) (ap patterns_count parts ∙ sym (ap opens_count types)) (matched mid.sight.variables mid.context) (subst (λ (ps : Patterns). MatchesAll known mid ps none (matched mid.sight.variables mid.context)) (sym parts) patterns_done);
    seen = ap (λ (si : Sight). si.seen) mid_sight;
    spot = mid_spot ∙ ap (passed old.spot) (sym nodes);
  }

  -- another number of parts
  pub passing_other : (fault : Fault) → (patterns_count x.parts ≡ opens_count x.types → ⊥) → fault ≡ IllTyped (at.Spot old.spot) → IsStopped old.spot.member (λ stop. Matches known old p s (unmatched stop)) fault
  passing_other fault other is = inr (ill_typed old.spot.node, is, matches_expected h.facing.is (meets_other_count expected_below other))

-- counts and types of parts
pub patterns_count-of : (ps : List Pattern) → patterns_count (patterns_of ps) ≡ length ps
patterns_count-of [] = refl
patterns_count-of (p ∷ ps) = ap suc (patterns_count-of ps)

pub repeated-count : (k : ℕ) (t : Open) → opens_count (repeated k t) ≡ k
repeated-count zero t = refl
repeated-count (suc k) t = ap suc (repeated-count k t)

-- what each form expects
abbrev pub tuple_expected : ContextEntries → Patterns → Expectation
tuple_expected es ps = expects_tuple es ps (fresh_numbers (patterns_count ps) es)

abbrev pub list_expected : ContextEntries → Patterns → Expectation
list_expected es ps = expects_list es ps (repeated (patterns_count ps)) (fresh_number es)

abbrev pub cons_expected : ContextEntries → Pattern → Pattern → Expectation
cons_expected es p q = expects_list es (patterns.more p (patterns.more q patterns.none)) (λ t. more t (more (list_of t) none)) (fresh_number es)

abbrev pub snoc_expected : ContextEntries → Pattern → Pattern → Expectation
snoc_expected es p q = expects_list es (patterns.more p (patterns.more q patterns.none)) (λ t. more (list_of t) (more t none)) (fresh_number es)

abbrev pub fields_expected : ContextEntries → Patterns → Ty → Expectation
fields_expected es ps ty = expects_fields es ps (open_from ty) (fresh_numbers (front_count (open_from ty)) es)

module _ (known : Known) (old before : State) (s u : Open) (ready : IsReady known old) (typed : IsTypeIn known.arity old.context 0 s) (sight : before.sight ≡ old.sight) (spot : before.spot ≡ old.spot) where
  pub facing_literal : (l : Literal) → before.context ≡ old.context → u ≡ literal_type l → Facing known old before (patterns.literal l) s u (expects_type old.context (literal_type l))
  facing_literal l at type = record { ready = ready; formed = tt; typed = typed; is = refl; context = at; sight = sight; spot = spot; type = type }

  pub facing_unit : before.context ≡ old.context → u ≡ unit → Facing known old before patterns.unit s u (expects_type old.context unit)
  facing_unit at type = record { ready = ready; formed = tt; typed = typed; is = refl; context = at; sight = sight; spot = spot; type = type }

  pub facing_tuple : (ps : List Pattern) (ns : List ℕ) (us : List Open) → AreFormedPatterns known (patterns_of ps) → ns ≡ fresh_numbers (length ps) old.context → before.context ≡ old.context ++ map (λ n. Exists n) ns
      → us ≡ existentials ns → u ≡ tuple (opens_of us) → Facing known old before (patterns.tuple (patterns_of ps)) s u (tuple_expected old.context (patterns_of ps))
  facing_tuple ps ns us formed are at types type =
      let all : ns ≡ fresh_numbers (patterns_count (patterns_of ps)) old.context = are ∙ ap (λ (k : ℕ). fresh_numbers k old.context) (sym (patterns_count-of ps)) in
      record {
        ready = ready;
        formed = formed;
        typed = typed;
        is = refl;
        context = at ∙ ap (λ (js : List ℕ). old.context ++ map (λ n. Exists n) js) all;
        sight = sight;
        spot = spot;
        type = type ∙ ap (λ (vs : List Open). tuple (opens_of vs)) types ∙ ap (λ (js : List ℕ). tuple (opens_of (existentials js))) all;
      }

  module _ (n : ℕ) (number : n ≡ fresh_number old.context) (at : before.context ≡ old.context ++ Exists n ∷ []) (type : u ≡ list_of (existential n)) where
    list_context : before.context ≡ old.context ++ Exists (fresh_number old.context) ∷ []
    list_context = at ∙ ap (λ (m : ℕ). old.context ++ Exists m ∷ []) number

    list_type : u ≡ list_of (existential (fresh_number old.context))
    list_type = type ∙ ap (λ (m : ℕ). list_of (existential m)) number

    pub facing_list : (ps : Patterns) → AreFormedPatterns known ps → Facing known old before (patterns.list ps) s u (list_expected old.context ps)
    facing_list ps formed = record { ready = ready; formed = formed; typed = typed; is = refl; context = list_context; sight = sight; spot = spot; type = list_type }

    pub facing_cons : (p q : Pattern) → IsFormedPattern known p → IsFormedPattern known q → Facing known old before (patterns.cons p q) s u (cons_expected old.context p q)
    facing_cons p q first rest = record { ready = ready; formed = (first, rest); typed = typed; is = refl; context = list_context; sight = sight; spot = spot; type = list_type }

    pub facing_snoc : (p q : Pattern) → IsFormedPattern known p → IsFormedPattern known q → Facing known old before (patterns.snoc p q) s u (snoc_expected old.context p q)
    facing_snoc p q front last = record { ready = ready; formed = (front, last); typed = typed; is = refl; context = list_context; sight = sight; spot = spot; type = list_type }

  pub facing_fields : (c : Target) (ps : Patterns) (ty : Ty) (t : Open) → IsTyped IsConstructorType known c → AreFormedPatterns known ps → target_type known c ≡ Some ty
      → before.context ≡ old.context ++ map (λ n. Exists n) (fresh_numbers (front_count (open_from ty)) old.context) → t ≡ behind_front (existentials (fresh_numbers (front_count (open_from ty)) old.context)) (open_from ty)
      → u ≡ result_of t → Facing known old before (patterns.constructor c ps) s u (fields_expected old.context ps ty)
  facing_fields c ps ty t constructor formed is at opened type = record {
    ready = ready;
    formed = (constructor, formed);
    typed = typed;
    is = ap (expects_constructor old.context ps) is;
    context = at;
    sight = sight;
    spot = spot;
    type = type ∙ ap result_of opened;
  }

module _ (es : ContextEntries) (ps : List Pattern) where
  pub tuple_counts : patterns_count (patterns_of ps) ≡ opens_count (tuple_expected es (patterns_of ps)).types
  tuple_counts = sym (count_new (fresh_numbers (patterns_count (patterns_of ps)) es) ∙ length-fresh_numbers (patterns_count (patterns_of ps)) es)

  pub list_counts : patterns_count (patterns_of ps) ≡ opens_count (list_expected es (patterns_of ps)).types
  list_counts = sym (repeated-count (patterns_count (patterns_of ps)) (existential (fresh_number es)))

  pub tuple_types : (ns : List ℕ) (us : List Open) → ns ≡ fresh_numbers (length ps) es → us ≡ existentials ns → opens_of us ≡ (tuple_expected es (patterns_of ps)).types
  tuple_types ns us are types = ap opens_of (types ∙ ap (λ (js : List ℕ). existentials js) (are ∙ ap (λ (k : ℕ). fresh_numbers k es) (sym (patterns_count-of ps))))

  pub tuple_many : (ns : List ℕ) (us : List Open) → ns ≡ fresh_numbers (length ps) es → us ≡ existentials ns → length ps ≡ length us
  tuple_many ns us are types = sym (ap length types ∙ length-map ns (λ (n : ℕ). existential n) ∙ ap length are ∙ length-fresh_numbers (length ps) es)

  pub list_types : (n : ℕ) (us : List Open) → n ≡ fresh_number es → opens_of us ≡ repeated (length ps) (existential n) → opens_of us ≡ (list_expected es (patterns_of ps)).types
  list_types n us number types = types ∙ ap (λ (m : ℕ). repeated (length ps) (existential m)) number ∙ ap (λ (k : ℕ). repeated k (existential (fresh_number es))) (sym (patterns_count-of ps))

-- a variable and an alias
module _ (known : Known) (old mid : State) (t : Open) (at : mid ≡ record { context = old.context ++ Binder (fresh_number old.context) t ∷ []; sight = under (Some (fresh_number old.context)) old.sight; spot = passed old.spot 1 }) where
  pub by_variable : IsMatched known old mid patterns.variable t
  by_variable = subst (λ (st : State). IsMatched known old st patterns.variable t) (sym at) (record { outcome = matches_variable refl refl refl; seen = refl; spot = refl })

  alias_all : (p : Pattern) (o : PatternOutcome) → Matches known mid p t o → Matches known old (patterns.alias p) t o
  alias_all p o d = matches_alias refl (subst (λ (st : State). MatchesPattern known st.spot.node st.sight.variables st.context p t o) at d)

  pub by_alias : (new : State) (p : Pattern) → IsMatched known mid new p t → IsMatched known old new (patterns.alias p) t
  by_alias new p m =
      let one : 1 + length (pattern_nodes p) ≡ suc (length (pattern_nodes p)) = omega arith in
      record {
        outcome = alias_all p (matched new.sight.variables new.context) m.outcome;
        seen = m.seen ∙ ap (λ (st : State). st.sight.seen) at;
        spot = m.spot ∙ ap (λ (st : State). passed st.spot (length (pattern_nodes p))) at ∙ passed_twice old.spot 1 (length (pattern_nodes p)) ∙ ap (passed old.spot) one;
      }

  pub alias_stopped : (p : Pattern) (fault : Fault) → IsStopped mid.spot.member (λ stop. Matches known mid p t (unmatched stop)) fault → IsStopped old.spot.member (λ stop. Matches known old (patterns.alias p) t (unmatched stop)) fault
  alias_stopped p fault r =
      stopped_as mid.spot.member old.spot.member (λ stop. Matches known mid p t (unmatched stop)) (λ stop. Matches known old (patterns.alias p) t (unmatched stop)) fault (ap (λ (st : State). st.spot.member) at) (λ stop d. alias_all p (unmatched stop) d) r

  pub alias_room : (k : ℕ) → old.spot.node + suc k < 2 ^ 32 → mid.spot.node + k < 2 ^ 32
  alias_room k room = omega (arith, ap (λ (st : State). st.spot.node) at)

-- a pattern that fits everything and binds nothing
pub by_any : (known : Known) (old new : State) (t : Open) → new ≡ record { context = old.context; sight = old.sight; spot = passed old.spot 1 } → IsMatched known old new patterns.any t
by_any known old new t at = subst (λ (st : State). IsMatched known old st patterns.any t) (sym at) (record { outcome = matches_any; seen = refl; spot = refl })
