-- The parts of a case, with a guard or without.
use Rattle.std.proofs.Common.{◌≡◌, ℕ, zero, suc, ◌+◌, ◌<◌, ◌≤◌, get_or, ap, Bool, true, false, ◌||◌, List, [], ◌∷◌, ◌++◌, map, length, Option, Some, None, refl, subst, arith, length-append}
use Rattle.std.proofs.lemmas.Bool.{or_right}
use Rattle.uc_tree.specs.Nodes.{pattern_nodes, term_nodes, terms_nodes, cases_nodes}
use Rattle.uc_tree.specs.Patterns.{Pattern}
use Rattle.uc_tree.specs.Terms.{Term, Terms, Cases, no_case, term_size, terms_size, cases_size}
use Rattle.uc_tree.specs.Terms as terms
use Rattle.uc_tree.specs.TermViews.{case_with, cases_of}
use Rattle.uc_tree.specs.declared.term.Case.{Case}
use Rattle.uc_kinds.specs.PatternTyping.{Known}
use Rattle.uc_kinds.specs.Typing.{uses, some_uses, some_case_uses, binders_in}
use Rattle.uc_context.specs.Entries.{ContextEntries}
use Rattle.uc_context.specs.Opens.{Open, none, more}
use Rattle.uc_typing.specs.Fronts.{boolean}
use Rattle.uc_soundness.specs.WellFormed.{IsTypeIn}
use Rattle.uc_typing.specs.Checking.{ChecksCases, case_next, case_stop, guarded_next, guarded_stop, ChecksCase}
use Rattle.uc_typing.specs.Scopes.{Sight}
use Rattle.uc_typing.specs.Stops.{Variables, Stop, TermOutcome, leaves, stops}
use Rattle.uc_sound_typing.specs.Formed.{IsFormedKnown, IsFormedPattern, AreFormed, AreFormedCases}
use Rattle.uc_sound_typing.proofs.Terms.{boolean_typed}
use Rattle.uc_patterns.specs.Walks.{AreTypes}
use Rattle.uc_patterns.specs.declared.state.State.{State}
use Rattle.uc_check.specs.Walks.{AreAsked, ChecksAllIn, case_terms, case_types}
use Rattle.uc_check.proofs.Asked.{HasBinder}
use Rattle.uc_check.proofs.ListPending.{PendingTerms, terms_start}

-- variables behind those that a pattern binds
pub binders_behind : (ns : List ℕ) (vars : Variables) (P : ℕ → Type 0) → ((i : ℕ) → P (i + length ns) → HasBinder vars i) → (i : ℕ) → P i → HasBinder (map (λ n. Some n) ns ++ vars) i
binders_behind [] vars P h i p = let same : i ≡ i + 0 = omega arith in h i (subst P same p)
binders_behind (n ∷ ns) vars P h zero p = (n, refl)
binders_behind (n ∷ ns) vars P h (suc i) p = binders_behind ns vars (λ j. P (suc j)) (λ j used. let same : suc (j + length ns) ≡ j + length (n ∷ ns) = omega arith in h j (subst P same used)) i p

module _ (q : Pattern) (b : Term) (rest : Cases) where
  pub case_formed : (known : Known) (m k : ℕ) (g : Option Term) → AreFormedCases known m k (case_with q g b rest) → IsFormedPattern known q × AreFormed known (binders_in q + m) k (case_terms g b) × AreFormedCases known m k rest
  case_formed known m k None h = (h.0, (h.1, tt), h.2)
  case_formed known m k (Some g) h = (h.0, (h.1, (h.2, tt)), h.3)

  pub formed_alone : (known : Known) (m k : ℕ) (g : Option Term) → AreFormedCases known m k (case_with q g b rest) → AreFormedCases known m k (case_with q g b no_case)
  formed_alone known m k None h = (h.0, h.1, tt)
  formed_alone known m k (Some g) h = (h.0, h.1, h.2, tt)

  pub case_uses : (g : Option Term) (i : ℕ) → some_uses (i + binders_in q) (case_terms g b) ≡ true → some_case_uses i (case_with q g b rest) ≡ true
  case_uses None i used = one (uses (i + binders_in q) b) used
    where
      one : (p : Bool) → (p || false) ≡ true → (p || some_case_uses i rest) ≡ true
      one true h = refl
      one false h = absurd cc
  case_uses (Some g) i used = two (uses (i + binders_in q) g) (uses (i + binders_in q) b) used
    where
      two : (p r : Bool) → (p || (r || false)) ≡ true → (p || (r || some_case_uses i rest)) ≡ true
      two true r h = refl
      two false true h = refl
      two false false h = absurd cc

  pub rest_uses : (g : Option Term) (i : ℕ) → some_case_uses i rest ≡ true → some_case_uses i (case_with q g b rest) ≡ true
  rest_uses None i used = or_right (uses (i + binders_in q) b) (some_case_uses i rest) used
  rest_uses (Some g) i used = or_right (uses (i + binders_in q) g) (uses (i + binders_in q) b || some_case_uses i rest) (or_right (uses (i + binders_in q) b) (some_case_uses i rest) used)

  pub uses_alone : (g : Option Term) (i : ℕ) → some_case_uses i (case_with q g b no_case) ≡ true → some_case_uses i (case_with q g b rest) ≡ true
  uses_alone None i used = case_uses None i used
  uses_alone (Some g) i used = case_uses (Some g) i used

  pub case_nodes : (g : Option Term) → length (cases_nodes (case_with q g b rest)) ≡ length (pattern_nodes q) + length (terms_nodes (case_terms g b)) + length (cases_nodes rest)
  case_nodes None =
      omega (
        arith,
        length-append (pattern_nodes q) (term_nodes b ++ cases_nodes rest),
        length-append (term_nodes b) (cases_nodes rest),
        length-append (pattern_nodes q ++ term_nodes b) (cases_nodes rest),
        length-append (pattern_nodes q) (term_nodes b),
        length-append (term_nodes b) [],
      )
  case_nodes (Some g) =
      omega (
        arith,
        length-append (pattern_nodes q ++ term_nodes g ++ term_nodes b) (cases_nodes rest),
        length-append (pattern_nodes q ++ term_nodes g) (term_nodes b),
        length-append (pattern_nodes q) (term_nodes g),
        length-append (term_nodes g) (term_nodes b ++ []),
        length-append (term_nodes b) [],
      )

  pub case_size : (g : Option Term) → cases_size (case_with q g b rest) ≡ terms_size (case_terms g b) + cases_size rest
  case_size None = omega arith
  case_size (Some g) = omega arith

  -- a case, then the others
  module _ (known : Known) (sight : Sight) (at : ℕ) (es : ContextEntries) (s t : Open) where
    pub then_cases : (g : Option Term) (fs : ContextEntries) (o : TermOutcome) → ChecksCase known sight at es q (case_terms g b) s (case_types g t) (leaves fs)
        → ChecksCases known sight (at + (length (pattern_nodes q) + length (terms_nodes (case_terms g b)))) fs rest s t o → ChecksCases known sight at es (case_with q g b rest) s t o
    then_cases None fs o d ds =
        let same : at + (length (pattern_nodes q) + length (terms_nodes (terms.more b terms.none))) ≡ at + length (pattern_nodes q) + length (term_nodes b) = omega (arith, length-append (term_nodes b) []) in
        case_next d (subst (λ (k : ℕ). ChecksCases known sight k fs rest s t o) same ds)
    then_cases (Some g) fs o d ds =
        let same : at + (length (pattern_nodes q) + length (terms_nodes (terms.more g (terms.more b terms.none)))) ≡ at + length (pattern_nodes q) + length (term_nodes g) + length (term_nodes b) =
        omega (arith, length-append (term_nodes g) (term_nodes b ++ []), length-append (term_nodes b) []) in
        guarded_next d (subst (λ (k : ℕ). ChecksCases known sight k fs rest s t o) same ds)

    pub case_stops : (g : Option Term) (stop : Stop) → ChecksCase known sight at es q (case_terms g b) s (case_types g t) (stops stop) → ChecksCases known sight at es (case_with q g b rest) s t (stops stop)
    case_stops None stop d = case_stop d
    case_stops (Some g) stop d = guarded_stop d

-- the types of a guard and a body
pub case_typed : (known : Known) → IsFormedKnown known → (es : ContextEntries) (g : Option Term) (t : Open) → IsTypeIn known.arity es 0 t → AreTypes known.arity es (case_types g t)
case_typed known formed es None t h = (h, tt)
case_typed known formed es (Some g) t h = (boolean_typed known formed es, (h, tt))

-- a case is not larger than all
pub case_smaller : (cs : List Case) (at : ℕ) (c : Case) → at < length cs → c ≡ get_or cs at c → terms_size (case_terms c.guard c.body) ≤ cases_size (cases_of cs)
case_smaller [] at c within is = absurd (omega (arith, within))
case_smaller (d ∷ cs) zero c within is = omega (arith, case_size d.pattern d.body (cases_of cs) d.guard, ap (λ (b : Case). terms_size (case_terms b.guard b.body)) is)
case_smaller (d ∷ cs) (suc at) c within is = omega (arith, case_size d.pattern d.body (cases_of cs) d.guard, case_smaller cs at c (omega (arith, within)) is)

-- a guard, and a body behind it
module _ (known : Known) (s : State) (o : Option Term) (b : Term) (t : Open) (asked : AreAsked known s (case_terms o b)) (typed : IsTypeIn known.arity s.context 0 t) where
  abbrev BodiesLeft : Option Term → Type 0
  BodiesLeft p = PendingTerms known (ChecksAllIn known s (case_terms o b) (case_types o t)) s s (length (terms_nodes (case_terms o b))) (case_terms p b) (case_types p t)

  bodies_left : BodiesLeft o
  bodies_left = terms_start known s (case_terms o b) (case_types o t) asked (case_typed known asked.ready.known.formed s.context o t typed)

  pub guarded_left : (g : Term) → o ≡ Some g
      → PendingTerms known (ChecksAllIn known s (case_terms o b) (case_types o t)) s s (length (terms_nodes (case_terms o b))) (terms.more g (terms.more b terms.none)) (more boolean (more t none))
  guarded_left g is = subst BodiesLeft is bodies_left

  pub body_left : o ≡ None → PendingTerms known (ChecksAllIn known s (case_terms o b) (case_types o t)) s s (length (terms_nodes (case_terms o b))) (terms.more b terms.none) (more t none)
  body_left is = subst BodiesLeft is bodies_left
