-- The types of terms, one form after another.
use Rattle.std.proofs.Common.{◌≡◌, ℕ, suc, ◌+◌, List, [], ◌∷◌, ◌++◌, Some, drop, length, refl, sym, ap, subst, ◌∙◌, arith, length-append, true}
use Rattle.std.proofs.lemmas.Bool.{false≢true}
use Rattle.uc_base.specs.declared.place.Spot.{Spot}
use Rattle.uc_kinds.specs.PatternTyping.{Known}
use Rattle.uc_context.specs.declared.entry.Entry.TheVariants.{Exists, Binder}
use Rattle.uc_context.specs.Contexts.{type_under}
use Rattle.uc_context.specs.Counts.{IsSmall}
use Rattle.uc_context.specs.Entries.{ContextEntries, dropped_from}
use Rattle.uc_context.specs.Fresh.{fresh_number, fresh_numbers}
use Rattle.uc_context.specs.Opens.{Open, existential, arrow, tuple, Opens, none, more, opens_of}
use Rattle.uc_tree.specs.Nodes.{term_nodes, terms_nodes, ty_nodes}
use Rattle.uc_tree.specs.Terms.{Term, Terms, terms_of}
use Rattle.uc_tree.specs.Terms as terms
use Rattle.uc_tree.specs.Types.{Ty}
use Rattle.uc_typing.specs.Checking.{Checks, Applies, synthesizes_small, synthesizes_large, finds_annotated, finds_lambda, finds_application, finds_no_function, finds_tuple, finds_list, finds_and, finds_or, finds_conditional, finds_no_condition, finds_binding, finds_match, checked_next, checked_stop, all_checked}
use Rattle.uc_typing.specs.Fronts.{existentials, boolean, list_of, repeated}
use Rattle.uc_typing.specs.Scopes.{Sight, under, with_variables}
use Rattle.uc_typing.specs.Stops.{Stop, too_large, leaves, stops, TypeOutcome, TermOutcome, gives, gives_none, giving}
use Rattle.uc_typing.specs.Terms.{terms_count}
use Rattle.uc_typing.specs.WrittenTypes.{written}
use Rattle.uc_patterns.proofs.FreshOrder.{fresh_behind}
use Rattle.uc_patterns.specs.declared.state.State.{State}
use Rattle.uc_patterns.specs.Spots.{passed}
use Rattle.uc_check.specs.Walks.{IsChecked, IsFound, ahead, is_block, ChecksIn, ChecksByFormIn, SynthesizesIn, FindsIn, AppliesIn, ChecksAllIn}
use Rattle.uc_check.proofs.AskedFound.{declared, with_new}
use Rattle.uc_check.proofs.FindWalks.{passed_more}

-- fresh numbers one by one
one_more : (k : ℕ) (es : ContextEntries) (n : ℕ) (ns : List ℕ) → n ≡ fresh_number es → ns ≡ fresh_numbers k (es ++ Exists n ∷ []) → n ∷ ns ≡ fresh_numbers (suc k) es
one_more k es n ns is are =
    ap (λ (m : ℕ). m ∷ ns) is ∙ ap (λ (ms : List ℕ). fresh_number es ∷ ms) (are ∙ fresh_behind k n es ∙ ap (λ (m : ℕ). fresh_numbers k (Exists m ∷ es)) is)

pub two_fresh : (es : ContextEntries) (a r : ℕ) → a ≡ fresh_number es → r ≡ fresh_number (es ++ Exists a ∷ []) → a ∷ r ∷ [] ≡ fresh_numbers 2 es
two_fresh es a r p q = one_more 1 es a (r ∷ []) p (one_more 0 (es ++ Exists a ∷ []) r [] q refl)

pub three_fresh : (es : ContextEntries) (a r n : ℕ) → a ≡ fresh_number es → r ≡ fresh_number (es ++ Exists a ∷ []) → n ≡ fresh_number ((es ++ Exists a ∷ []) ++ Exists r ∷ []) → a ∷ r ∷ n ∷ [] ≡ fresh_numbers 3 es
three_fresh es a r n p q s = one_more 2 es a (r ∷ n ∷ []) p (two_fresh (es ++ Exists a ∷ []) r n q s)

-- judgements in a state, by what is in sight and by the number of the node
module _ (known : Known) (sight : Sight) (k : ℕ) where
  pub checks_at : (mid : State) (e : Term) (t : Open) (o : TermOutcome) → mid.sight ≡ sight → mid.spot.node ≡ k → ChecksIn known mid e t o → Checks known sight k mid.context e t o
  checks_at mid e t o is at d = subst (λ (s : Sight). Checks known s k mid.context e t o) is (subst (λ (m : ℕ). Checks known mid.sight m mid.context e t o) at d)

  pub applies_at : (at : ℕ) (mid : State) (t : Open) (e : Term) (o : TypeOutcome) → mid.sight ≡ sight → mid.spot.node ≡ k → AppliesIn known mid at t e o → Applies known sight at k mid.context t e o
  applies_at at mid t e o is there d = subst (λ (s : Sight). Applies known s at k mid.context t e o) is (subst (λ (m : ℕ). Applies known mid.sight at m mid.context t e o) there d)

-- a spot behind a node and two parts
behind_three : (s t u : Spot) (a b k : ℕ) → t ≡ passed (passed s 1) a → u ≡ passed t b → 1 + a + b ≡ k → u ≡ passed s k
behind_three s t u a b k p q e = passed_more s t u (1 + a) b k (passed_more s (passed s 1) t 1 a (1 + a) refl p refl) q e

module _ (known : Known) (old : State) where
  -- terms that leave the context as it is
  pub stays : (e : Term) (t : Open) (new : State) → new ≡ ahead 1 old → length (term_nodes e) ≡ 1 → FindsIn known old e (gives t old.context) → IsFound (FindsIn known old e) old new (length (term_nodes e)) t
  stays e t new is one d = subst (λ (s : State). IsFound (FindsIn known old e) old s (length (term_nodes e)) t) (sym is) (record { outcome = d; sight = refl; spot = ap (passed old.spot) (sym one) })

  -- the solutions put in
  pub put_in_found : (e : Term) (new : State) (n : ℕ) (t u : Open) → IsFound (FindsIn known old e) old new n t → u ≡ type_under new.context t → IsSmall u → IsFound (SynthesizesIn known old e) old new n u
  put_in_found e new n t u w is small = record { outcome = synthesizes_small w.outcome (subst IsSmall is small) is; sight = w.sight; spot = w.spot }

  pub put_in_large : (e : Term) (new : State) (n : ℕ) (t : Open) (stop : Stop) → IsFound (FindsIn known old e) old new n t → stop ≡ too_large old.spot.node → (IsSmall (type_under new.context t) → ⊥) → SynthesizesIn known old e (gives_none stop)
  put_in_large e new n t stop w is large = subst (λ (s : Stop). SynthesizesIn known old e (gives_none s)) (sym is) (synthesizes_large w.outcome large)

  -- an application
  module _ (f e : Term) where
    pub application_found : (mid new : State) (s t : Open) → IsFound (SynthesizesIn known (ahead 1 old) f) (ahead 1 old) mid (length (term_nodes f)) s
        → IsFound (AppliesIn known mid old.spot.node s e) mid new (length (term_nodes e)) t → IsFound (FindsIn known old (terms.apply f e)) old new (length (term_nodes (terms.apply f e))) t
    application_found mid new s t w v = record {
      outcome = finds_application w.outcome (applies_at known old.sight (old.spot.node + 1 + length (term_nodes f)) old.spot.node mid s e (gives t new.context) w.sight (ap (λ (p : Spot). p.node) w.spot) v.outcome);
      sight = v.sight ∙ w.sight;
      spot = behind_three old.spot mid.spot new.spot (length (term_nodes f)) (length (term_nodes e)) (length (term_nodes (terms.apply f e))) w.spot v.spot (omega (arith, length-append (term_nodes f) (term_nodes e)));
    }

    pub application_stops : (mid : State) (s : Open) (stop : Stop) → IsFound (SynthesizesIn known (ahead 1 old) f) (ahead 1 old) mid (length (term_nodes f)) s
        → AppliesIn known mid old.spot.node s e (gives_none stop) → FindsIn known old (terms.apply f e) (gives_none stop)
    application_stops mid s stop w d = finds_application w.outcome (applies_at known old.sight (old.spot.node + 1 + length (term_nodes f)) old.spot.node mid s e (gives_none stop) w.sight (ap (λ (p : Spot). p.node) w.spot) d)

    pub function_stops : (stop : Stop) → SynthesizesIn known (ahead 1 old) f (gives_none stop) → FindsIn known old (terms.apply f e) (gives_none stop)
    function_stops stop d = finds_no_function d

  -- an annotated term
  module _ (e : Term) (ty : Ty) (t : Open) (is : t ≡ written old.sight.seen ty) where
    pub annotated_found : (mid : State) (spot : Spot) → IsChecked (ChecksIn known (ahead 1 old) e t) (ahead 1 old) mid (length (term_nodes e)) → spot ≡ passed mid.spot (length (ty_nodes ty))
        → IsFound (FindsIn known old (terms.annotated e ty)) old (record { context = mid.context; sight = mid.sight; spot = spot }) (length (term_nodes (terms.annotated e ty))) t
    annotated_found mid spot w spot_is = record {
      outcome = finds_annotated is w.outcome refl;
      sight = w.sight;
      spot = behind_three old.spot mid.spot spot (length (term_nodes e)) (length (ty_nodes ty)) (length (term_nodes (terms.annotated e ty))) w.spot spot_is (omega (arith, length-append (term_nodes e) (ty_nodes ty)));
    }

    pub annotated_stops : (stop : Stop) → ChecksIn known (ahead 1 old) e t (stops stop) → FindsIn known old (terms.annotated e ty) (gives_none stop)
    annotated_stops stop d = finds_annotated is d refl

  -- a function
  module _ (e : Term) (argument result n : ℕ) (are : argument ∷ result ∷ n ∷ [] ≡ fresh_numbers 3 old.context) where
    abbrev inside : State
    inside = record { context = old.context ++ Exists argument ∷ Exists result ∷ Binder n (existential argument) ∷ []; sight = under (Some n) old.sight; spot = passed old.spot 1 }

    pub lambda_found : (mid new : State) (t : Open) → IsChecked (ChecksIn known inside e (existential result)) inside mid (length (term_nodes e))
        → new.context ≡ dropped_from (Binder n (existential argument)) mid.context → new.sight ≡ with_variables (drop 1 mid.sight.variables) mid.sight → new.spot ≡ mid.spot
        → t ≡ arrow (existential argument) (existential result) → IsFound (FindsIn known old (terms.lambda e)) old new (length (term_nodes (terms.lambda e))) t
    lambda_found mid new t w context_is sight_is spot_is is = record {
      outcome = finds_lambda are w.outcome (ap (λ (u : Open). gives u new.context) is ∙ ap (gives (arrow (existential argument) (existential result))) context_is);
      sight = sight_is ∙ ap (λ (s : Sight). with_variables (drop 1 s.variables) s) w.sight;
      spot = spot_is ∙ passed_more old.spot (passed old.spot 1) mid.spot 1 (length (term_nodes e)) (length (term_nodes (terms.lambda e))) refl w.spot (omega arith);
    }

    pub lambda_stops : (stop : Stop) → ChecksIn known inside e (existential result) (stops stop) → FindsIn known old (terms.lambda e) (gives_none stop)
    lambda_stops stop d = finds_lambda are d refl

  -- a tuple
  module _ (parts : Terms) (numbers : List ℕ) (are : numbers ≡ fresh_numbers (terms_count parts) old.context) (types : Opens) (types_are : types ≡ opens_of (existentials numbers)) where
    pub tuple_found : (new : State) (t : Open) → IsChecked (ChecksAllIn known (with_new old numbers 1) parts types) (with_new old numbers 1) new (length (terms_nodes parts)) → t ≡ tuple types
        → IsFound (FindsIn known old (terms.tuple parts)) old new (length (term_nodes (terms.tuple parts))) t
    tuple_found new t w is = record {
      outcome = finds_tuple are (subst (λ (us : Opens). ChecksAllIn known (with_new old numbers 1) parts us (leaves new.context)) types_are w.outcome) (ap (λ (u : Open). gives u new.context) (is ∙ ap tuple types_are));
      sight = w.sight;
      spot = passed_more old.spot (passed old.spot 1) new.spot 1 (length (terms_nodes parts)) (length (term_nodes (terms.tuple parts))) refl w.spot (omega arith);
    }

    pub tuple_stops : (stop : Stop) → ChecksAllIn known (with_new old numbers 1) parts types (stops stop) → FindsIn known old (terms.tuple parts) (gives_none stop)
    tuple_stops stop d = finds_tuple are (subst (λ (us : Opens). ChecksAllIn known (with_new old numbers 1) parts us (stops stop)) types_are d) refl

  -- a list
  module _ (elements : Terms) (n count : ℕ) (fresh : n ≡ fresh_number old.context) (counted : count ≡ terms_count elements) where
    pub list_found : (new : State) (t : Open) → IsChecked (ChecksAllIn known (with_new old (n ∷ []) 1) elements (repeated count (existential n))) (with_new old (n ∷ []) 1) new (length (terms_nodes elements)) → t ≡ list_of (existential n)
        → IsFound (FindsIn known old (terms.list elements)) old new (length (term_nodes (terms.list elements))) t
    list_found new t w is = record {
      outcome = finds_list fresh (subst (λ (k : ℕ). ChecksAllIn known (with_new old (n ∷ []) 1) elements (repeated k (existential n)) (leaves new.context)) counted w.outcome) (ap (λ (u : Open). gives u new.context) is);
      sight = w.sight;
      spot = passed_more old.spot (passed old.spot 1) new.spot 1 (length (terms_nodes elements)) (length (term_nodes (terms.list elements))) refl w.spot (omega arith);
    }

    pub list_stops : (stop : Stop) → ChecksAllIn known (with_new old (n ∷ []) 1) elements (repeated count (existential n)) (stops stop) → FindsIn known old (terms.list elements) (gives_none stop)
    list_stops stop d = finds_list fresh (subst (λ (k : ℕ). ChecksAllIn known (with_new old (n ∷ []) 1) elements (repeated k (existential n)) (stops stop)) counted d) refl

  -- two terms that are joined
  abbrev pub JoinedIn : Term → Term → TypeOutcome → Type 0
  JoinedIn a b o = (p : TermOutcome) × ChecksAllIn known (ahead 1 old) (terms.more a (terms.more b terms.none)) (more boolean (more boolean none)) p × (o ≡ giving boolean p)

  module _ (a b : Term) where
    pub joined_found : (mid new : State) (t : Open) → IsChecked (ChecksIn known (ahead 1 old) a boolean) (ahead 1 old) mid (length (term_nodes a)) → IsChecked (ChecksIn known mid b boolean) mid new (length (term_nodes b)) → t ≡ boolean
        → IsFound (JoinedIn a b) old new (1 + length (term_nodes a) + length (term_nodes b)) t
    joined_found mid new t w v is = record {
      outcome = (
        leaves new.context,
        checked_next w.outcome (checked_next (checks_at known old.sight (old.spot.node + 1 + length (term_nodes a)) mid b boolean (leaves new.context) w.sight (ap (λ (p : Spot). p.node) w.spot) v.outcome) all_checked),
        ap (λ (u : Open). gives u new.context) is,
      );
      sight = v.sight ∙ w.sight;
      spot = behind_three old.spot mid.spot new.spot (length (term_nodes a)) (length (term_nodes b)) (1 + length (term_nodes a) + length (term_nodes b)) w.spot v.spot refl;
    }

    pub joined_stops_first : (stop : Stop) → ChecksIn known (ahead 1 old) a boolean (stops stop) → ChecksAllIn known (ahead 1 old) (terms.more a (terms.more b terms.none)) (more boolean (more boolean none)) (stops stop)
    joined_stops_first stop d = checked_stop d

    pub joined_stops_second : (mid : State) (stop : Stop) → IsChecked (ChecksIn known (ahead 1 old) a boolean) (ahead 1 old) mid (length (term_nodes a)) → ChecksIn known mid b boolean (stops stop)
        → ChecksAllIn known (ahead 1 old) (terms.more a (terms.more b terms.none)) (more boolean (more boolean none)) (stops stop)
    joined_stops_second mid stop w d = checked_next w.outcome (checked_stop (checks_at known old.sight (old.spot.node + 1 + length (term_nodes a)) mid b boolean (stops stop) w.sight (ap (λ (p : Spot). p.node) w.spot) d))

    both_nodes : 1 + length (term_nodes a) + length (term_nodes b) ≡ length (term_nodes (terms.and a b))
    both_nodes = omega (arith, length-append (term_nodes a) (term_nodes b))

    pub both_found : (new : State) (t : Open) → IsFound (JoinedIn a b) old new (1 + length (term_nodes a) + length (term_nodes b)) t → IsFound (FindsIn known old (terms.and a b)) old new (length (term_nodes (terms.and a b))) t
    both_found new t w = record { outcome = finds_and w.outcome.1 w.outcome.2; sight = w.sight; spot = w.spot ∙ ap (passed old.spot) both_nodes }

    pub either_found : (new : State) (t : Open) → IsFound (JoinedIn a b) old new (1 + length (term_nodes a) + length (term_nodes b)) t → IsFound (FindsIn known old (terms.or a b)) old new (length (term_nodes (terms.or a b))) t
    either_found new t w = record { outcome = finds_or w.outcome.1 w.outcome.2; sight = w.sight; spot = w.spot ∙ ap (passed old.spot) both_nodes }

    pub both_stops : (stop : Stop) → ChecksAllIn known (ahead 1 old) (terms.more a (terms.more b terms.none)) (more boolean (more boolean none)) (stops stop) → FindsIn known old (terms.and a b) (gives_none stop)
    both_stops stop d = finds_and d refl

    pub either_stops : (stop : Stop) → ChecksAllIn known (ahead 1 old) (terms.more a (terms.more b terms.none)) (more boolean (more boolean none)) (stops stop) → FindsIn known old (terms.or a b) (gives_none stop)
    either_stops stop d = finds_or d refl

  -- a conditional
  module _ (a b c : Term) where
    pub condition_stops : (stop : Stop) → ChecksIn known (ahead 1 old) a boolean (stops stop) → FindsIn known old (terms.conditional a b c) (gives_none stop)
    condition_stops stop d = finds_no_condition d

    module _ (mid : State) (w : IsChecked (ChecksIn known (ahead 1 old) a boolean) (ahead 1 old) mid (length (term_nodes a))) (n : ℕ) (fresh : n ≡ fresh_number mid.context) where
      there : mid.spot.node ≡ old.spot.node + 1 + length (term_nodes a)
      there = ap (λ (p : Spot). p.node) w.spot

      pub consequent_stops : (stop : Stop) → ChecksIn known (declared mid (n ∷ [])) b (existential n) (stops stop) → FindsIn known old (terms.conditional a b c) (gives_none stop)
      consequent_stops stop d =
          finds_conditional w.outcome fresh (checked_stop (checks_at known old.sight (old.spot.node + 1 + length (term_nodes a)) (declared mid (n ∷ [])) b (existential n) (stops stop) w.sight there d)) refl

      module _ (far : State) (v : IsChecked (ChecksIn known (declared mid (n ∷ [])) b (existential n)) (declared mid (n ∷ [])) far (length (term_nodes b))) where
        farther : far.spot.node ≡ old.spot.node + 1 + length (term_nodes a) + length (term_nodes b)
        farther = ap (λ (p : Spot). p.node) v.spot ∙ ap (λ (k : ℕ). k + length (term_nodes b)) there

        pub alternative_stops : (stop : Stop) → ChecksIn known far c (existential n) (stops stop) → FindsIn known old (terms.conditional a b c) (gives_none stop)
        alternative_stops stop d =
            finds_conditional w.outcome fresh
            (checked_next (checks_at known old.sight (old.spot.node + 1 + length (term_nodes a)) (declared mid (n ∷ [])) b (existential n) (leaves far.context) w.sight there v.outcome)
            (checked_stop (checks_at known old.sight (old.spot.node + 1 + length (term_nodes a) + length (term_nodes b)) far c (existential n) (stops stop) (v.sight ∙ w.sight) farther d))) refl

        pub conditional_found : (new : State) (t : Open) → IsChecked (ChecksIn known far c (existential n)) far new (length (term_nodes c)) → t ≡ existential n
            → IsFound (FindsIn known old (terms.conditional a b c)) old new (length (term_nodes (terms.conditional a b c))) t
        conditional_found new t u is = record {
          outcome = finds_conditional w.outcome fresh
              (checked_next (checks_at known old.sight (old.spot.node + 1 + length (term_nodes a)) (declared mid (n ∷ [])) b (existential n) (leaves far.context) w.sight there v.outcome)
              (checked_next (checks_at known old.sight (old.spot.node + 1 + length (term_nodes a) + length (term_nodes b)) far c (existential n) (leaves new.context) (v.sight ∙ w.sight) farther u.outcome) all_checked))
              (ap (λ (x : Open). gives x new.context) is);
          sight = u.sight ∙ v.sight ∙ w.sight;
          spot = passed_more old.spot far.spot new.spot (1 + length (term_nodes a) + length (term_nodes b)) (length (term_nodes c)) (length (term_nodes (terms.conditional a b c)))
              (behind_three old.spot mid.spot far.spot (length (term_nodes a)) (length (term_nodes b)) (1 + length (term_nodes a) + length (term_nodes b)) w.spot v.spot refl) u.spot
              (omega (arith, length-append (term_nodes a ++ term_nodes b) (term_nodes c), length-append (term_nodes a) (term_nodes b)));
        }

  -- a binding or a match
  module _ (n : ℕ) (fresh : n ≡ fresh_number old.context) where
    block_finds : (e : Term) (o : TermOutcome) → is_block e ≡ true → ChecksByFormIn known (declared old (n ∷ [])) e (existential n) o → FindsIn known old e (giving (existential n) o)
    block_finds (terms.variable i) o h d = absurd (false≢true h)
    block_finds (terms.literal l) o h d = absurd (false≢true h)
    block_finds terms.unit o h d = absurd (false≢true h)
    block_finds (terms.link x) o h d = absurd (false≢true h)
    block_finds (terms.lambda e) o h d = absurd (false≢true h)
    block_finds (terms.apply f e) o h d = absurd (false≢true h)
    block_finds (terms.annotated e ty) o h d = absurd (false≢true h)
    block_finds (terms.tuple es) o h d = absurd (false≢true h)
    block_finds (terms.list es) o h d = absurd (false≢true h)
    block_finds (terms.conditional a b c) o h d = absurd (false≢true h)
    block_finds (terms.and a b) o h d = absurd (false≢true h)
    block_finds (terms.or a b) o h d = absurd (false≢true h)
    block_finds (terms.binding s a b) o h d = finds_binding fresh d refl
    block_finds (terms.match e cs) o h d = finds_match fresh d refl

    pub block_found : (e : Term) (new : State) (t : Open) → is_block e ≡ true → IsChecked (ChecksByFormIn known (declared old (n ∷ [])) e (existential n)) (declared old (n ∷ [])) new (length (term_nodes e)) → t ≡ existential n
        → IsFound (FindsIn known old e) old new (length (term_nodes e)) t
    block_found e new t h w is = record { outcome = subst (λ (u : Open). FindsIn known old e (gives u new.context)) (sym is) (block_finds e (leaves new.context) h w.outcome); sight = w.sight; spot = w.spot }

    pub block_stops : (e : Term) (stop : Stop) → is_block e ≡ true → ChecksByFormIn known (declared old (n ∷ [])) e (existential n) (stops stop) → FindsIn known old e (gives_none stop)
    block_stops e stop h d = block_finds e (stops stop) h d
